-- Each done move lowers the bound, and a plan that is taken in raises it by its cost.
use Rattle.std.proofs.Common.{◌≡◌, ◌∙◌, ℕ, zero, suc, ◌+◌, ◌≤◌, ◌<◌, Bool, true, false, cond, Option, Some}
use Rattle.std.proofs.Common.{None, List, [], ◌∷◌, ◌++◌, length, refl, ap, subst, arith}
use Rattle.std.specs.Prelude.{slice_get, sum_by, drop, All}
use Rattle.std.proofs.lemmas.Bool.Decides.{nat_tests}
use Rattle.std.proofs.lemmas.Option.{slice_get_within}
use Rattle.std.proofs.lemmas.List.{length-append}
use Rattle.std.proofs.lemmas.List.Sums.{sum_by-cons, sum_by-append}
use Rattle.pp_plan.specs.declared.action.Action.{Action}
use Rattle.pp_plan.specs.declared.action.Action.TheVariants as action
use Rattle.pp_cert.specs.declared.note.Held.{Held}
use Rattle.pp_cert.specs.declared.note.Held.TheVariants.{Free, S, X}
use Rattle.pp_cert.specs.Accepted.{Acceptance}
use Rattle.pp_model.specs.declared.moves.Move.{Move}
use Rattle.pp_model.specs.Pool.{acting, writing, reading, leaving, Running, State}
use Rattle.pp_model.specs.Holders.{page_in, held_in}
use Rattle.pp_model.specs.Budget.{cost_of, left_to, left_to_flush, bound}
use Rattle.pp_model.specs.Outcome.{with_seat, at_stage, having_done, released}
use Rattle.pp_model.specs.Taking.{beginning}
use Rattle.pp_model.specs.Moves.{next_of, is_possible, seat_of, asked_by}
use Rattle.pp_model.specs.Submitting.{submitted, submitted_unless, after_submit}
use Rattle.pp_model.specs.Renewing.{after_renewal}
use Rattle.pp_model.specs.Runs.{Input, plan, move, renewal, run, state_after, count_done}
use Rattle.pp_model.specs.Reached.{IsReached}
use Rattle.pp_model.specs.Laws.{BoundFalls, BoundRises, IsAcceptedInput}
use Rattle.pp_model.specs.Fixing.{fixes}
use Rattle.pp_model.proofs.Sums.{sum_by-slice_set}
use Rattle.pp_model.proofs.Changes as change
use Rattle.pp_model.proofs.Changes.{Change, IsAsked, IsReal, done_by, refused_by}
use Rattle.pp_model.proofs.Reaching.{IsKept, holds}
use Rattle.pp_model.proofs.Seats.{Sends, asks_now, good, GoodSeats}
use Rattle.pp_model.proofs.ChangeTotals.{seat_at}
use Rattle.pp_model.proofs.Journeys.{move_reached, plan_reached, renewal_reached}
use Rattle.pp_model.proofs.Falls.{left_at, acts_left, loads_left, loses_left, gives_left, some_left}

-- ---- sums

pub next_cost : (ps : List Acceptance) (k : ℕ) (a : Acceptance) → slice_get ps k ≡ Some a
    → sum_by cost_of (drop (suc k) ps) + cost_of a ≡ sum_by cost_of (drop k ps)
next_cost [] k a e = cc
next_cost (p ∷ ps) zero a e = let same : p ≡ a = cc in omega (arith, sum_by-cons cost_of p ps, ap cost_of same)
next_cost (p ∷ ps) (suc k) a e = next_cost ps k a e

pub released_bound : (s : State) (h : Held) (page w : ℕ) (y : Option Running)
    → bound (with_seat (released s h page) w y) ≡ bound (with_seat s w y)
released_bound s Free page w y = refl
released_bound s S page w y = refl
released_bound s X page w y = refl

-- One worker has less left, and all else is as before.
seat_falls : (s t : State) (w : ℕ) (r : Running) (y : Option Running) → seat_of s w ≡ Some (Some r)
    → bound t ≡ bound (with_seat s w y) → left_to y + 1 ≤ left_to (Some r) → bound t + 1 ≤ bound s
seat_falls s t w r y has e less = omega (arith, e, less, sum_by-slice_set left_to s.seats w (Some r) y has)

module _ (s t : State) (good : GoodSeats s) where
  action_falls : (w : ℕ) (r : Running) (a : Action) → IsAsked s w r a
      → bound t ≡ bound (with_seat s w (Some (having_done r a)))
      → bound t + 1 ≤ bound s
  action_falls w r a asked e =
      let g = s.settings.layout in
      let seat = seat_at s w r good asked.at.seat in
      seat_falls s t w r (Some (having_done r a)) asked.at.seat e
      (acts_left g r a seat asked.at.stage (asks_now g r a seat asked.names))

  pub falls : (c : Change s t) → IsReal c → bound t + 1 ≤ bound s
  falls (change.stays e) real = absurd real
  falls (change.takes w a idle next fits e) real =
      let more : s.taken + 1 ≡ suc s.taken = omega arith in
      let costs = ap (λ k. sum_by cost_of (drop k s.plans)) more ∙ refl in
      omega (
        arith,
        ap bound e,
        costs,
        next_cost s.plans s.taken a next,
        sum_by-slice_set left_to s.seats w None
            (Some (beginning s a)) idle,
      )
  falls (change.hits w r slot page l asked is e) real = action_falls w r (fixes (asked_by r) slot page) asked (ap bound e)
  falls (change.fills w r slot page l asked is e) real =
      seat_falls s t w r (Some (at_stage r (reading slot page))) asked.at.seat (ap bound e)
      (omega (arith, left_at r acting asked.at.stage))
  falls (change.evicts w r slot page v l asked is clean e) real =
      seat_falls s t w r (Some (at_stage r (reading slot page))) asked.at.seat (ap bound e)
      (omega (arith, left_at r acting asked.at.stage))
  falls (change.sends w r slot page v l asked is dirty e) real =
      seat_falls s t w r (Some (at_stage r (writing slot page v))) asked.at.seat (ap bound e)
      (omega (arith, left_at r acting asked.at.stage))
  falls (change.writes w r slot page v at e) real =
      seat_falls s t w r (Some (at_stage r (reading slot page))) at.seat (ap bound e)
      (omega (arith, left_at r (writing slot page v) at.stage))
  falls (change.brings w r slot page v at e) real =
      let seat = seat_at s w r good at.seat in
      let left = left_at r (writing slot page v) at.stage in
      seat_falls s t w r (Some (at_stage r (leaving []))) at.seat (ap bound e)
      (loses_left s.settings.layout r slot page (writing slot page v) seat refl at.stage
      (subst (Sends r) at.stage seat.errand) (omega (arith, left)))
  falls (change.forgets w r slot page at e) real =
      let seat = seat_at s w r good at.seat in
      let left = left_at r (reading slot page) at.stage in
      seat_falls s t w r (Some (at_stage r (leaving []))) at.seat (ap bound e)
      (loses_left s.settings.layout r slot page (reading slot page) seat refl at.stage
      (subst (Sends r) at.stage seat.errand) (omega (arith, left)))
  falls (change.loads w r slot page stamp at known e) real =
      let seat = seat_at s w r good at.seat in
      seat_falls s t w r (Some (having_done r (fixes (asked_by r) slot page))) at.seat (ap bound e)
      (loads_left s.settings.layout r slot page seat at.stage (subst (Sends r) at.stage seat.errand))
  falls (change.unfixes w r slot a back asked e) real = action_falls w r a asked (ap bound e)
  falls (change.latches w r slot m asked goes e) real = action_falls w r (action.Latch slot m) asked (ap bound e)
  falls (change.unlatches w r slot asked e) real =
      action_falls w r (action.Unlatch slot) asked
      (ap bound e ∙ released_bound s (held_in r slot) (page_in r slot) w (Some (having_done r (action.Unlatch slot))))
  falls (change.chooses w r i asked e) real = action_falls w r (action.Choose i) asked (ap bound e)
  falls (change.unwinds w r slot given h at found e) real =
      let y = Some (at_stage r (leaving (slot ∷ given))) in
      seat_falls s t w r y at.seat (ap bound e ∙ released_bound s h.held h.page w y)
      (gives_left s.settings.layout r slot given h (seat_at s w r good at.seat) at.stage found)
  falls (change.ends w r at asked e) real = seat_falls s t w r None at.seat (ap bound e) (omega (arith, some_left r))
  falls (change.leaves w r given at none e) real = seat_falls s t w r None at.seat (ap bound e)
      (omega (arith, some_left r))
  falls (change.flushes page can e) real =
      let some : 0 < s.flushes_left = let more = can.some in grind (arith, nat_tests) in
      omega (arith, ap bound e, ap left_to_flush can.none, some)
  falls (change.cleans f is e) real = omega (arith, ap bound e, ap left_to_flush is)
  falls (change.drops f is e) real = omega (arith, ap bound e, ap left_to_flush is)

pub bound_falls : (s : State) → IsReached s → BoundFalls s
bound_falls s h m p = let d = done_by s m p in falls s (next_of s m) (good s h) d.by d.real

-- ---- lists of moves

pub done_within : (s : State) (ms : List Move) → IsReached s → count_done s ms + bound (state_after s ms) ≤ bound s
done_within s [] h = omega arith
done_within s (m ∷ ms) h = go (is_possible s m) refl (done_within (next_of s m) ms (move_reached s m h))
  where
    go : (b : Bool) → is_possible s m ≡ b
        → count_done (next_of s m) ms + bound (state_after (next_of s m) ms) ≤ bound (next_of s m)
        → (cond b 1 0 + count_done (next_of s m) ms) + bound (state_after (next_of s m) ms) ≤ bound s
    go true e rest = omega (arith, rest, bound_falls s h m e)
    go false e rest = omega (arith, rest, ap bound (refused_by s m e))

pub runs_reached : (s : State) (is : List Input) → All IsAcceptedInput is → IsReached s → IsReached (run s is)
runs_reached s [] ok h = h
runs_reached s (plan a ∷ is) ok h =
    runs_reached (after_submit s a) is (λ k d lt. ok (suc k) d (omega (arith, lt)))
    (plan_reached s a (ok 0 (plan a) (omega arith)) h)
runs_reached s (move m ∷ is) ok h =
    runs_reached (next_of s m) is (λ k d lt. ok (suc k) d (omega (arith, lt))) (move_reached s m h)
runs_reached s (renewal ∷ is) ok h =
    runs_reached (after_renewal s) is (λ k d lt. ok (suc k) d (omega (arith, lt))) (renewal_reached s h)

-- ---- plans

released_taken : (s : State) (h : Held) (page : ℕ) → (released s h page).taken ≡ s.taken
released_taken s Free page = refl
released_taken s S page = refl
released_taken s X page = refl

released_plans : (s : State) (h : Held) (page : ℕ) → (released s h page).plans ≡ s.plans
released_plans s Free page = refl
released_plans s S page = refl
released_plans s X page = refl

-- No more plans were taken than were submitted.
abbrev pub Taken : State → Type 0
Taken s = s.taken ≤ length s.plans

same_taken : (s t : State) → t.taken ≡ s.taken → t.plans ≡ s.plans → Taken s → Taken t
same_taken s t e f h = omega (arith, e, ap length f, h)

taken_moves : (s t : State) → Change s t → Taken s → Taken t
taken_moves s t (change.takes w a idle next fits e) h =
    omega (arith, ap (λ x. x.taken) e, ap (λ x. length x.plans) e, slice_get_within s.plans s.taken a next)
taken_moves s t (change.unlatches w r slot asked e) h =
    same_taken s t (ap (λ x. x.taken) e ∙ released_taken s (held_in r slot) (page_in r slot))
    (ap (λ x. x.plans) e ∙ released_plans s (held_in r slot) (page_in r slot)) h
taken_moves s t (change.unwinds w r slot given k at found e) h =
    same_taken s t (ap (λ x. x.taken) e ∙ released_taken s k.held k.page)
    (ap (λ x. x.plans) e ∙ released_plans s k.held k.page) h
taken_moves s t (change.stays e) h = same_taken s t (ap (λ x. x.taken) e) (ap (λ x. x.plans) e) h
taken_moves s t (change.hits w r slot page l asked is e) h = same_taken s t (ap (λ x. x.taken) e)
    (ap (λ x. x.plans) e) h
taken_moves s t (change.fills w r slot page l asked is e) h = same_taken s t (ap (λ x. x.taken) e)
    (ap (λ x. x.plans) e) h
taken_moves s t (change.evicts w r slot page v l asked is clean e) h = same_taken s t (ap (λ x. x.taken) e)
    (ap (λ x. x.plans) e) h
taken_moves s t (change.sends w r slot page v l asked is dirty e) h = same_taken s t (ap (λ x. x.taken) e)
    (ap (λ x. x.plans) e) h
taken_moves s t (change.writes w r slot page v at e) h = same_taken s t (ap (λ x. x.taken) e) (ap (λ x. x.plans) e) h
taken_moves s t (change.brings w r slot page v at e) h = same_taken s t (ap (λ x. x.taken) e) (ap (λ x. x.plans) e) h
taken_moves s t (change.forgets w r slot page at e) h = same_taken s t (ap (λ x. x.taken) e) (ap (λ x. x.plans) e) h
taken_moves s t (change.loads w r slot page stamp at known e) h = same_taken s t (ap (λ x. x.taken) e)
    (ap (λ x. x.plans) e) h
taken_moves s t (change.unfixes w r slot a back asked e) h = same_taken s t (ap (λ x. x.taken) e) (ap (λ x. x.plans) e) h
taken_moves s t (change.latches w r slot m asked goes e) h = same_taken s t (ap (λ x. x.taken) e)
    (ap (λ x. x.plans) e) h
taken_moves s t (change.chooses w r i asked e) h = same_taken s t (ap (λ x. x.taken) e) (ap (λ x. x.plans) e) h
taken_moves s t (change.ends w r at asked e) h = same_taken s t (ap (λ x. x.taken) e) (ap (λ x. x.plans) e) h
taken_moves s t (change.leaves w r given at none e) h = same_taken s t (ap (λ x. x.taken) e) (ap (λ x. x.plans) e) h
taken_moves s t (change.flushes page can e) h = same_taken s t (ap (λ x. x.taken) e) (ap (λ x. x.plans) e) h
taken_moves s t (change.cleans f is e) h = same_taken s t (ap (λ x. x.taken) e) (ap (λ x. x.plans) e) h
taken_moves s t (change.drops f is e) h = same_taken s t (ap (λ x. x.taken) e) (ap (λ x. x.plans) e) h

pub taken_kept : IsKept Taken
taken_kept = record {
  opens = λ k ok. omega arith;
  moves = taken_moves;
  submits = λ s a ok e h. omega (arith, length-append s.plans (a ∷ []), h);
  renews = λ s ok e h. omega arith;
}

pub drop_more : (k : ℕ) (ps : List Acceptance) (a : Acceptance) → k ≤ length ps
    → sum_by cost_of (drop k (ps ++ a ∷ [])) ≡ sum_by cost_of (drop k ps) + cost_of a
drop_more zero ps a le = omega (arith, sum_by-append cost_of ps (a ∷ []), sum_by-cons cost_of a [])
drop_more (suc k) [] a le = absurd (omega (arith, le))
drop_more (suc k) (p ∷ ps) a le = drop_more k ps a (omega (arith, le))

pub bound_rises : (s : State) → IsReached s → BoundRises s
bound_rises s h a e =
    let now : bound (after_submit s a) ≡ bound (submitted s a) = ap (λ o. bound (submitted_unless o s a)) e in
    omega (arith, now, drop_more s.taken s.plans a (holds Taken s taken_kept h))
