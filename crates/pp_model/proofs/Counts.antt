-- What every reached state counts: plans taken, workers, flushes left, the numbers of the plans that run, and the bound
-- on the moves left within what the journal may need.
use Rattle.std.proofs.Common.{◌≡◌, ◌∙◌, ℕ, zero, suc, ◌+◌, ◌≤◌, ◌<◌, Bool, true, false, Option, Some, None}
use Rattle.std.proofs.Common.{List, [], ◌∷◌, ◌++◌, length, refl, sym, ap, subst, arith}
use Rattle.std.specs.Prelude.{slice_get, slice_set, sum_by, replicate, nat_le, nat_lt}
use Rattle.std.proofs.lemmas.Bool.Decides.{nat_tests}
use Rattle.std.proofs.lemmas.Option.{slice_get_within}
use Rattle.std.proofs.lemmas.List.{length-append, length-replicate, length-set}
use Rattle.std.proofs.lemmas.List.Sums.{sum_by-cons, sum_by-append}
use Rattle.pp_plan.specs.declared.action.Action.TheVariants as action
use Rattle.pp_cert.specs.declared.note.Held.{Held}
use Rattle.pp_cert.specs.declared.note.Held.TheVariants.{Free, S, X}
use Rattle.pp_cert.specs.Accepted.{Acceptance}
use Rattle.pp_model.specs.declared.refusals.SubmitError.{SubmitError}
use Rattle.pp_model.specs.Pool.{reading, writing, leaving, Running, State, Settings}
use Rattle.pp_model.specs.Holders.{held_in, page_in}
use Rattle.pp_model.specs.Budget.{cost_of, left_to, bound, journal_need}
use Rattle.pp_model.specs.Outcome.{with_seat, at_stage, having_done, released}
use Rattle.pp_model.specs.Taking.{beginning}
use Rattle.pp_model.specs.Moves.{seat_of, asked_by}
use Rattle.pp_model.specs.Submitting.{counted_plans, plan_limit, most_events, error_where, submitted}
use Rattle.pp_model.specs.Reached.{IsReached}
use Rattle.pp_model.specs.Fixing.{fixes}
use Rattle.pp_model.proofs.Changes as change
use Rattle.pp_model.proofs.Changes.{Change}
use Rattle.pp_model.proofs.ChangeTotals.{released_seats}
use Rattle.pp_model.proofs.Reaching.{IsKept, IsKeptUnder, both, holds}
use Rattle.pp_model.proofs.Seats.{GoodSeats, good_kept}
use Rattle.pp_model.proofs.BoundLaws.{falls, drop_more}
use Rattle.pp_model.proofs.Rest.{can_renew, idle_left, bound_renews}
use Rattle.pp_model.proofs.Spans.{flushes_fit, fewer_count, one_more, none_count}

-- ---- how the seats go on

-- The seat's worker has become idle, or is still in the same plan.
abbrev IsOn : Running → Option Running → Type 0
IsOn r None = Unit {0}
IsOn r (Some q) = (q.number ≡ r.number) × (q.accepted ≡ r.accepted)

-- Settings, plans, how many were taken and the flushes left are as before.
abbrev IsSame : State → State → Type 0
IsSame s t = (t.settings ≡ s.settings) × (t.plans ≡ s.plans) × (t.taken ≡ s.taken) × (t.flushes_left ≡ s.flushes_left)

-- A move leaves all seats, or one worker goes on in its plan or out of it, or an idle one takes the next plan.
data Advance (s t : State) : Type 0 where
  rests : t.settings ≡ s.settings → t.plans ≡ s.plans → t.taken ≡ s.taken → t.flushes_left ≤ s.flushes_left
      → t.seats ≡ s.seats → Advance s t
  goes : (w : ℕ) (r : Running) (y : Option Running) → seat_of s w ≡ Some (Some r) → IsOn r y → IsSame s t
      → t.seats ≡ slice_set s.seats w y → Advance s t
  begins : (w : ℕ) (a : Acceptance) → seat_of s w ≡ Some None → slice_get s.plans s.taken ≡ Some a
      → t.settings ≡ s.settings → t.plans ≡ s.plans → t.taken ≡ s.taken + 1 → t.flushes_left ≡ s.flushes_left
      → t.seats ≡ slice_set s.seats w (Some (beginning s a)) → Advance s t

-- Worker w's seat becomes y in a state that is the same but for what isn't counted.
went : (s t u : State) (w : ℕ) (r : Running) (y : Option Running) → t ≡ with_seat u w y → seat_of s w ≡ Some (Some r)
    → IsOn r y → IsSame s u → u.seats ≡ s.seats → Advance s t
went s t u w r y e has on same seats =
    goes w r y has on (
      ap (λ x. x.settings) e ∙ same.0,
      ap (λ x. x.plans) e ∙ same.1,
      ap (λ x. x.taken) e ∙ same.2,
      ap (λ x. x.flushes_left) e ∙ same.3,
    ) (ap (λ x. x.seats) e ∙ ap (λ x. slice_set x w y) seats)

released_same : (s : State) (h : Held) (page : ℕ) → IsSame s (released s h page)
released_same s Free page = (refl, refl, refl, refl)
released_same s S page = (refl, refl, refl, refl)
released_same s X page = (refl, refl, refl, refl)

rested : (s t : State) → t ≡ s → Advance s t
rested s t e =
    rests (ap (λ x. x.settings) e) (ap (λ x. x.plans) e) (ap (λ x. x.taken) e)
    (omega (arith, ap (λ x. x.flushes_left) e)) (ap (λ x. x.seats) e)

advance : (s t : State) → Change s t → Advance s t
advance s t (change.stays e) = rested s t e
advance s t (change.takes w a idle next fits e) =
    begins w a idle next (ap (λ x. x.settings) e) (ap (λ x. x.plans) e) (ap (λ x. x.taken) e)
    (ap (λ x. x.flushes_left) e) (ap (λ x. x.seats) e)
advance s t (change.hits w r slot page l asked is e) =
    went s t _ w r (Some (having_done r (fixes (asked_by r) slot page))) e asked.at.seat (refl, refl)
    (refl, refl, refl, refl) refl
advance s t (change.fills w r slot page l asked is e) =
    went s t _ w r (Some (at_stage r (reading slot page))) e asked.at.seat (refl, refl) (refl, refl, refl, refl) refl
advance s t (change.evicts w r slot page v l asked is clean e) =
    went s t _ w r (Some (at_stage r (reading slot page))) e asked.at.seat (refl, refl) (refl, refl, refl, refl) refl
advance s t (change.sends w r slot page v l asked is dirty e) =
    went s t _ w r (Some (at_stage r (writing slot page v))) e asked.at.seat (refl, refl) (refl, refl, refl, refl) refl
advance s t (change.writes w r slot page v at e) =
    went s t _ w r (Some (at_stage r (reading slot page))) e at.seat (refl, refl) (refl, refl, refl, refl) refl
advance s t (change.brings w r slot page v at e) =
    went s t _ w r (Some (at_stage r (leaving []))) e at.seat (refl, refl) (refl, refl, refl, refl) refl
advance s t (change.forgets w r slot page at e) =
    went s t _ w r (Some (at_stage r (leaving []))) e at.seat (refl, refl) (refl, refl, refl, refl) refl
advance s t (change.loads w r slot page stamp at known e) =
    went s t _ w r (Some (having_done r (fixes (asked_by r) slot page))) e at.seat (refl, refl) (refl, refl, refl, refl) refl
advance s t (change.unfixes w r slot a back asked e) =
    went s t s w r (Some (having_done r a)) e asked.at.seat (refl, refl) (refl, refl, refl, refl) refl
advance s t (change.latches w r slot m asked go e) =
    went s t s w r (Some (having_done r (action.Latch slot m))) e asked.at.seat (refl, refl)
    (refl, refl, refl, refl) refl
advance s t (change.unlatches w r slot asked e) =
    went s t (released s (held_in r slot) (page_in r slot)) w r (Some (having_done r (action.Unlatch slot))) e
    asked.at.seat (refl, refl) (released_same s (held_in r slot) (page_in r slot))
    (released_seats s (held_in r slot) (page_in r slot))
advance s t (change.chooses w r i asked e) =
    went s t s w r (Some (having_done r (action.Choose i))) e asked.at.seat (refl, refl) (refl, refl, refl, refl) refl
advance s t (change.unwinds w r slot given h at found e) =
    went s t (released s h.held h.page) w r (Some (at_stage r (leaving (slot ∷ given)))) e at.seat (refl, refl)
    (released_same s h.held h.page) (released_seats s h.held h.page)
advance s t (change.ends w r at asked e) =
    goes w r None at.seat tt (
      ap (λ x. x.settings) e,
      ap (λ x. x.plans) e,
      ap (λ x. x.taken) e,
      ap (λ x. x.flushes_left) e,
    ) (ap (λ x. x.seats) e)
advance s t (change.leaves w r given at none e) =
    goes w r None at.seat tt (
      ap (λ x. x.settings) e,
      ap (λ x. x.plans) e,
      ap (λ x. x.taken) e,
      ap (λ x. x.flushes_left) e,
    ) (ap (λ x. x.seats) e)
advance s t (change.flushes page can e) =
    rests (ap (λ x. x.settings) e) (ap (λ x. x.plans) e) (ap (λ x. x.taken) e)
    (omega (arith, ap (λ x. x.flushes_left) e)) (ap (λ x. x.seats) e)
advance s t (change.cleans f is e) =
    rests (ap (λ x. x.settings) e) (ap (λ x. x.plans) e) (ap (λ x. x.taken) e)
    (omega (arith, ap (λ x. x.flushes_left) e)) (ap (λ x. x.seats) e)
advance s t (change.drops f is e) =
    rests (ap (λ x. x.settings) e) (ap (λ x. x.plans) e) (ap (λ x. x.taken) e)
    (omega (arith, ap (λ x. x.flushes_left) e)) (ap (λ x. x.seats) e)

-- ---- what is counted

-- The plan that a worker runs is the one of its number, and was taken.
pub record IsNumbered (plans : List Acceptance) (taken : ℕ) (r : Running) : Type 0 where
  pub plan : slice_get plans r.number ≡ Some r.accepted
  pub low : r.number < taken

abbrev OkNumber : List Acceptance → ℕ → Option Running → Type 0
OkNumber plans taken None = Unit {0}
OkNumber plans taken (Some r) = IsNumbered plans taken r

abbrev AreNumbered : List Acceptance → ℕ → List (Option Running) → Type 0
AreNumbered plans taken seats =
    (w : ℕ) (x : Option Running) → slice_get seats w ≡ Some x → OkNumber plans taken x

pub record IsCounted (s : State) : Type 0 where
  pub taken : s.taken ≤ length s.plans
  pub few : counted_plans s.settings.span (length s.plans) s.taken ≤ plan_limit s.settings.span
  pub need : journal_need s.settings s.plans ≤ most_events s.settings.span
  pub workers : length s.seats ≡ s.settings.workers
  pub flushes : s.flushes_left ≤ s.settings.flushes
  pub numbers : AreNumbered s.plans s.taken s.seats

-- The seat's worker is still in the plan of its number.
still_numbered : (plans : List Acceptance) (taken : ℕ) (r : Running) (y : Option Running) → IsOn r y
    → IsNumbered plans taken r → OkNumber plans taken y
still_numbered plans taken r None on h = tt
still_numbered plans taken r (Some q) on h = record {
  plan = ap (slice_get plans) on.0 ∙ h.plan ∙ ap Some (sym on.1);
  low = omega (arith, on.0, h.low);
}

-- More plans and more that were taken leave the numbers.
more_numbered : (ps qs : List Acceptance) (m n : ℕ) (x : Option Running)
    → ((k : ℕ) (a : Acceptance) → slice_get ps k ≡ Some a → slice_get qs k ≡ Some a) → m ≤ n → OkNumber ps m x
    → OkNumber qs n x
more_numbered ps qs m n None more le h = tt
more_numbered ps qs m n (Some r) more le h = record {
  plan = more r.number r.accepted h.plan;
  low = omega (arith, h.low, le);
}

set_numbered : (plans : List Acceptance) (taken : ℕ) (seats : List (Option Running)) (i : ℕ) (y : Option Running)
    → AreNumbered plans taken seats → OkNumber plans taken y → AreNumbered plans taken (slice_set seats i y)
set_numbered ps n [] i y h ok w x e = h w x e
set_numbered ps n (z ∷ ws) zero y h ok zero x e = let same : y ≡ x = cc in subst (OkNumber ps n) same ok
set_numbered ps n (z ∷ ws) zero y h ok (suc w) x e = h (suc w) x e
set_numbered ps n (z ∷ ws) (suc i) y h ok zero x e = h zero x e
set_numbered ps n (z ∷ ws) (suc i) y h ok (suc w) x e = set_numbered ps n ws i y (λ v. h (suc v)) ok w x e

-- The same plans and seats, where no fewer were taken.
same_numbered : (s t : State) (seats : List (Option Running)) → t.plans ≡ s.plans → s.taken ≤ t.taken
    → AreNumbered s.plans s.taken seats → AreNumbered t.plans t.taken seats
same_numbered s t seats e le h w x has =
    more_numbered s.plans t.plans s.taken t.taken x (λ k a f. ap (λ ps. slice_get ps k) e ∙ f) le (h w x has)

-- No move changes what the journal may need.
same_need : (s t : State) → t.settings ≡ s.settings → t.plans ≡ s.plans
    → journal_need t.settings t.plans ≡ journal_need s.settings s.plans
same_need s t k p = ap (journal_need t.settings) p ∙ ap (λ x. journal_need x s.plans) k

-- No more plans count.
same_few : (s t : State) → t.settings ≡ s.settings → t.plans ≡ s.plans → s.taken ≤ t.taken
    → counted_plans s.settings.span (length s.plans) s.taken ≤ plan_limit s.settings.span
    → counted_plans t.settings.span (length t.plans) t.taken ≤ plan_limit t.settings.span
same_few s t k p le h =
    subst (λ (j : Settings). counted_plans j.span (length t.plans) t.taken ≤ plan_limit j.span) (sym k)
    (subst (λ (ps : List Acceptance). counted_plans s.settings.span (length ps) t.taken ≤ plan_limit s.settings.span)
    (sym p) (omega (arith, fewer_count s.settings.span (length s.plans) s.taken t.taken le, h)))

counted_on : (s t : State) → Advance s t → IsCounted s → IsCounted t
counted_on s t (rests k p n f e) h = record {
  taken = omega (arith, n, ap length p, h.taken);
  few = same_few s t k p (omega (arith, n)) h.few;
  need = omega (arith, same_need s t k p, h.need, ap (λ (x : Settings). most_events x.span) k);
  workers = ap length e ∙ h.workers ∙ sym (ap (λ x. x.workers) k);
  flushes = omega (arith, f, h.flushes, ap (λ x. x.flushes) k);
  numbers = same_numbered s t t.seats p (omega (arith, n)) (subst (AreNumbered s.plans s.taken) (sym e) h.numbers);
}
counted_on s t (goes w r y has on same e) h =
    let next = still_numbered s.plans s.taken r y on (h.numbers w (Some r) has) in
    let all = set_numbered s.plans s.taken s.seats w y h.numbers next in
    record {
      taken = omega (arith, same.2, ap length same.1, h.taken);
      few = same_few s t same.0 same.1 (omega (arith, same.2)) h.few;
      need = omega (arith, same_need s t same.0 same.1, h.need, ap (λ (x : Settings). most_events x.span) same.0);
      workers = ap length e ∙ length-set s.seats w y ∙ h.workers ∙ sym (ap (λ x. x.workers) same.0);
      flushes = omega (arith, same.3, h.flushes, ap (λ x. x.flushes) same.0);
      numbers = same_numbered s t t.seats same.1 (omega (arith, same.2))
          (subst (AreNumbered s.plans s.taken) (sym e) all);
    }
counted_on s t (begins w a idle next k p n f e) h =
    let y = Some (beginning s a) in
    let started : OkNumber s.plans (s.taken + 1) y = record { plan = next; low = omega arith } in
    let before : AreNumbered s.plans (s.taken + 1) s.seats = λ v x has.
    more_numbered s.plans s.plans s.taken (s.taken + 1) x (λ j b g. g) (omega arith) (h.numbers v x has) in
    let all = set_numbered s.plans (s.taken + 1) s.seats w y before started in
    let now : AreNumbered t.plans t.taken t.seats = λ v x has.
    more_numbered s.plans t.plans (s.taken + 1) t.taken x (λ j b g. ap (λ ps. slice_get ps j) p ∙ g)
    (omega (arith, n)) (all v x (ap (λ z. slice_get z v) (sym e) ∙ has)) in
    record {
      taken = omega (arith, n, ap length p, slice_get_within s.plans s.taken a next);
      few = same_few s t k p (omega (arith, n)) h.few;
      need = omega (arith, same_need s t k p, h.need, ap (λ (x : Settings). most_events x.span) k);
      workers = ap length e ∙ length-set s.seats w y ∙ h.workers ∙ sym (ap (λ x. x.workers) k);
      flushes = omega (arith, f, h.flushes, ap (λ x. x.flushes) k);
      numbers = now;
    }

-- ---- the opening state, and plans that are taken in

idle_numbered : (n : ℕ) → AreNumbered [] 0 (replicate n None)
idle_numbered zero w x e = cc
idle_numbered (suc n) zero x e = let idle : None ≡ x = cc in subst (OkNumber [] 0) idle tt
idle_numbered (suc n) (suc w) x e = idle_numbered n w x e

-- What a plan that is taken in passed: fewer plans count than may, and the journal is short enough.
not_many : (same : Bool) (c n b m : ℕ)
    → ◌≡◌ {A = Option SubmitError} (error_where same (nat_le c n) (nat_lt b m)) None
    → (n < c) × (m ≤ b)
not_many false c n b m e = cc
not_many true c n b m e = go (nat_le c n) (nat_lt b m) refl refl e
  where
    go : (many long : Bool) → nat_le c n ≡ many → nat_lt b m ≡ long
        → ◌≡◌ {A = Option SubmitError} (error_where true many long) None → (n < c) × (m ≤ b)
    go true long f g e = cc
    go false true f g e = cc
    go false false f g e = (grind (arith, nat_tests), grind (arith, nat_tests))

pub need_more : (k : Settings) (ps : List Acceptance) (a : Acceptance)
    → journal_need k (ps ++ a ∷ []) ≡ journal_need k ps + cost_of a
need_more k ps a = omega (arith, sum_by-append cost_of ps (a ∷ []), sum_by-cons cost_of a [])

-- A plan that is there stays in its place.
kept_place : (ps : List Acceptance) (b : Acceptance) (k : ℕ) (a : Acceptance) → slice_get ps k ≡ Some a
    → slice_get (ps ++ b ∷ []) k ≡ Some a
kept_place [] b k a e = cc
kept_place (p ∷ ps) b zero a e = e
kept_place (p ∷ ps) b (suc k) a e = kept_place ps b k a e

counted_kept : IsKept IsCounted
counted_kept = record {
  opens = λ k ok. record {
    taken = omega arith;
    few = none_count k.span;
    need = omega (arith, flushes_fit k.span k.flushes ok.flushes);
    workers = length-replicate k.workers None;
    flushes = omega arith;
    numbers = idle_numbered k.workers;
  };
  moves = λ s t c h. counted_on s t (advance s t c) h;
  submits = λ s a ok e h.
      let span = s.settings.span in
      let passed = not_many _ (plan_limit span) (counted_plans span (length s.plans) s.taken) (most_events span)
      (journal_need s.settings s.plans + cost_of a) e in
      let one : length s.plans + 1 ≡ length (s.plans ++ a ∷ []) = omega (arith, length-append s.plans (a ∷ [])) in
      record {
        taken = omega (arith, length-append s.plans (a ∷ []), h.taken);
        few = subst (λ n. counted_plans span n s.taken ≤ plan_limit span) one
            (one_more span (length s.plans) s.taken passed.0);
        need = omega (arith, need_more s.settings s.plans a, passed.1);
        workers = h.workers;
        flushes = h.flushes;
        numbers = λ w x has. more_numbered s.plans (s.plans ++ a ∷ []) s.taken s.taken x (kept_place s.plans a)
            (omega arith) (h.numbers w x has);
      };
  renews = λ s ok e h. record {
    taken = omega arith;
    few = none_count s.settings.span;
    need = omega (arith, flushes_fit s.settings.span s.settings.flushes ok.flushes);
    workers = h.workers;
    flushes = omega arith;
    numbers = subst (AreNumbered [] 0) (sym (can_renew s e).rests.seats) (idle_numbered (length s.seats));
  };
}

pub counted : (s : State) → IsReached s → IsCounted s
counted s h = holds IsCounted s counted_kept h

-- ---- the bound

abbrev IsBounded : State → Type 0
IsBounded s = bound s ≤ journal_need s.settings s.plans

abbrev CountedSeats : State → Type 0
CountedSeats s = GoodSeats s × IsCounted s

counted_seats : IsKept CountedSeats
counted_seats = both GoodSeats IsCounted good_kept (record {
  opens = counted_kept.opens;
  moves = λ s t c good h. counted_kept.moves s t c h;
  submits = λ s a ok e good h. counted_kept.submits s a ok e h;
  renews = λ s ok e good h. counted_kept.renews s ok e h;
})

-- No move raises the bound.
never_rises : (s t : State) → GoodSeats s → Change s t → bound t ≤ bound s
never_rises s t good (change.stays e) = omega (arith, ap bound e)
never_rises s t good c = omega (arith, falls s t good c tt)

need_stays : (s t : State) → Advance s t → journal_need t.settings t.plans ≡ journal_need s.settings s.plans
need_stays s t (rests k p n f e) = same_need s t k p
need_stays s t (goes w r y has on same e) = same_need s t same.0 same.1
need_stays s t (begins w a idle next k p n f e) = same_need s t k p

-- Taking a plan in raises the bound by its cost.
pub submit_raises : (s : State) (a : Acceptance) → s.taken ≤ length s.plans
    → bound (submitted s a) ≡ bound s + cost_of a
submit_raises s a le = omega (arith, drop_more s.taken s.plans a le)

bounded_under : IsKeptUnder CountedSeats IsBounded
bounded_under = record {
  opens = λ k ok. omega (arith, idle_left k.workers);
  moves = λ s t c good h. omega (arith, never_rises s t good.0 c, need_stays s t (advance s t c), h);
  submits = λ s a ok e good h.
      omega (arith, submit_raises s a good.1.taken, need_more s.settings s.plans a, h);
  renews = λ s ok e good h. omega (arith, bound_renews s e);
}

pub bounded : (s : State) → IsReached s → bound s ≤ journal_need s.settings s.plans
bounded s h =
    (holds (λ x. CountedSeats x × IsBounded x) s (both CountedSeats IsBounded counted_seats bounded_under) h).1
