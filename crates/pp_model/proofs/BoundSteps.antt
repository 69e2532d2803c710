-- What each way in which a move is done does to the bound on the moves left and to the running peaks, as equations.
use Rattle.std.proofs.Common.{◌≡◌, ℕ, suc, ◌+◌, ◌-◌, ◌*◌, ◌^◌, ◌≤◌, ◌<◌, true, false, Option, Some, None}
use Rattle.std.proofs.Common.{List, [], ◌∷◌, length, refl, sym, ap, arith}
use Rattle.std.specs.Prelude.{slice_get, slice_set, sum_by, drop}
use Rattle.std.proofs.lemmas.Bool.Decides.{nat_tests}
use Rattle.std.proofs.lemmas.List.{length-append}
use Rattle.pp_plan.specs.declared.mode.Mode.{Mode}
use Rattle.pp_plan.specs.declared.action.Action.{Action}
use Rattle.pp_plan.specs.declared.action.Action.TheVariants as action
use Rattle.pp_settings.specs.Limits.{most_slots}
use Rattle.pp_cert.specs.Accepted.{Acceptance}
use Rattle.pp_cert.specs.Held.{Holding, holding_at}
use Rattle.pp_arc.specs.FourLists.{FourLists}
use Rattle.pp_arc.specs.Figure.{forget}
use Rattle.pp_model.specs.declared.reply.Ending.{Ending}
use Rattle.pp_model.specs.declared.reply.Ending.TheVariants.{Done, Gone}
use Rattle.pp_model.specs.Pool.{Stage, acting, writing, reading, leaving, Running, Flush, State}
use Rattle.pp_model.specs.Holders.{given_back, holdings, held_slots, page_in, held_in}
use Rattle.pp_model.specs.Budget.{peak_of, running_peaks, cost_of, left_to, left_to_flush, bound, journal_need}
use Rattle.pp_model.specs.Outcome.{with_seat, with_stage, at_stage, having_done, did, with_lists, with_frame}
use Rattle.pp_model.specs.Outcome.{with_dirty, with_mark, released}
use Rattle.pp_model.specs.Taking.{has_room, beginning, began}
use Rattle.pp_model.specs.Fixing.{with_frame_moved, free_frame, fixes}
use Rattle.pp_model.specs.Answers.{brought_back}
use Rattle.pp_model.specs.Using.{unlatched}
use Rattle.pp_model.specs.Leaving.{ended}
use Rattle.pp_model.specs.Flushing.{flush_begun, flush_over}
use Rattle.pp_model.specs.Moves.{seat_of, asked_by}
use Rattle.pp_model.specs.Submitting.{submitted, counted_plans, plan_limit, most_events}
use Rattle.pp_model.specs.Reached.{IsReached}
use Rattle.pp_model.proofs.Sums.{sum_by-slice_set}
use Rattle.pp_model.proofs.Changes.{IsAt, IsAsked, CanFlush}
use Rattle.pp_model.proofs.ChangeTotals.{released_seats}
use Rattle.pp_model.proofs.HeldSlots.{none_held}
use Rattle.pp_model.proofs.Falls.{left_at, step_left}
use Rattle.pp_model.proofs.BoundLaws.{next_cost, released_bound}
use Rattle.pp_model.proofs.Room.{room}
use Rattle.pp_model.proofs.Spans.{events_small, costs_count}
use Rattle.pp_model.proofs.Counts.{IsNumbered, counted, bounded, submit_raises, need_more}
use Rattle.pp_model.proofs.HoldingSteps.{seat_is, asks_it, writing_asks, reading_asks, stage_holds}
use Rattle.pp_model.proofs.HoldingSteps.{unwind_slots}

-- ---- one seat

-- Worker w's seat becomes y, and nothing else changes that the bound counts.
seat_moves : (s t : State) (w : ℕ) (x y : Option Running) → seat_of s w ≡ Some x → bound t ≡ bound (with_seat s w y)
    → bound t + left_to x ≡ bound s + left_to y
seat_moves s t w x y has e = omega (arith, e, sum_by-slice_set left_to s.seats w x y has)

-- Worker w's seat becomes y, and the running peaks change by its peak alone.
seat_peaks : (s t : State) (w : ℕ) (x y : Option Running) → seat_of s w ≡ Some x → t.seats ≡ slice_set s.seats w y
    → running_peaks t + peak_of x ≡ running_peaks s + peak_of y
seat_peaks s t w x y has e = omega (arith, ap (sum_by peak_of) e, sum_by-slice_set peak_of s.seats w x y has)

-- ---- Take

-- Taking a plan costs one move, and the plan's peak runs from then on.
pub take_bound : (s : State) (w : ℕ) (a : Acceptance) → seat_of s w ≡ Some None → slice_get s.plans s.taken ≡ Some a
    → bound (began s w a) + 1 ≡ bound s
take_bound s w a idle next =
    let more : s.taken + 1 ≡ suc s.taken = omega arith in
    let costs = ap (λ k. sum_by cost_of (drop k s.plans)) more in
    omega (
      arith,
      costs,
      next_cost s.plans s.taken a next,
      sum_by-slice_set left_to s.seats w None (Some (beginning s a)) idle,
    )

pub take_peaks : (s : State) (w : ℕ) (a : Acceptance) → seat_of s w ≡ Some None
    → running_peaks (began s w a) ≡ running_peaks s + a.peak
take_peaks s w a idle = omega (arith, seat_peaks s (began s w a) w None (Some (beginning s a)) idle refl)

pub take_room : (s : State) (a : Acceptance) → has_room s a ≡ true
    → a.peak + running_peaks s ≤ s.settings.layout.frames
take_room s a fits = grind (arith, nat_tests)

-- ---- a worker in its plan

module _ (s : State) (h : IsReached s) (w : ℕ) (r : Running) where
  -- Where an action is asked or an errand is out, an action of the plan is left.
  pub asked_few : (a : Action) → IsAsked s w r a → length r.done < r.accepted.steps
  asked_few a asked =
      omega (arith, step_left r a (seat_is s h w r asked.at.seat).accepted (asks_it s h w r a asked))

  pub writing_few : (slot page v : ℕ) → IsAt s w r (writing slot page v) → length r.done < r.accepted.steps
  writing_few slot page v at =
      let asks = writing_asks s h w r slot page v at in
      omega (arith, step_left r (fixes (asked_by r) slot page) (seat_is s h w r at.seat).accepted asks)

  pub reading_few : (slot page : ℕ) → IsAt s w r (reading slot page) → length r.done < r.accepted.steps
  reading_few slot page at =
      let asks = reading_asks s h w r slot page at in
      omega (arith, step_left r (fixes (asked_by r) slot page) (seat_is s h w r at.seat).accepted asks)

  pub done_few : seat_of s w ≡ Some (Some r) → length r.done ≤ r.accepted.steps
  done_few e = let seat = seat_is s h w r e in omega (arith, seat.accepted.steps r.done seat.begun)

  -- An action that is asked costs three.
  action_bound : (t : State) (a : Action) → IsAsked s w r a → bound t ≡ bound (with_seat s w (Some (having_done r a)))
      → bound t + 3 ≡ bound s
  action_bound t a asked e =
      omega (
        arith,
        seat_moves s t w (Some r) (Some (having_done r a)) asked.at.seat e,
        left_at r acting asked.at.stage,
        length-append r.done (a ∷ []),
        asked_few a asked,
      )

  action_peaks : (t : State) (a : Action) → IsAsked s w r a → t.seats ≡ slice_set s.seats w (Some (having_done r a))
      → running_peaks t ≡ running_peaks s
  action_peaks t a asked e = omega (arith, seat_peaks s t w (Some r) (Some (having_done r a)) asked.at.seat e)

  stage_peaks : (t : State) (g : Stage) → seat_of s w ≡ Some (Some r)
      → t.seats ≡ slice_set s.seats w (Some (at_stage r g)) → running_peaks t ≡ running_peaks s
  stage_peaks t g has e = omega (arith, seat_peaks s t w (Some r) (Some (at_stage r g)) has e)

  -- ---- fixes

  -- A hit costs three; a miss that reads at once two, and one that writes its victim first one. No peak changes.
  pub hit_bound : (slot page : ℕ) (l : FourLists) → IsAsked s w r (fixes (asked_by r) slot page)
      → bound (did (with_lists s l) w r (fixes (asked_by r) slot page)) + 3 ≡ bound s
  hit_bound slot page l asked =
      action_bound (did (with_lists s l) w r (fixes (asked_by r) slot page)) (fixes (asked_by r) slot page) asked refl

  pub hit_peaks : (slot page : ℕ) (l : FourLists) → IsAsked s w r (fixes (asked_by r) slot page)
      → running_peaks (did (with_lists s l) w r (fixes (asked_by r) slot page)) ≡ running_peaks s
  hit_peaks slot page l asked =
      action_peaks (did (with_lists s l) w r (fixes (asked_by r) slot page)) (fixes (asked_by r) slot page) asked refl

  pub fill_bound : (slot page : ℕ) (l : FourLists) → IsAsked s w r (fixes (asked_by r) slot page)
      → bound (with_stage (with_frame (with_lists s l) page (Some (free_frame s))) w r (reading slot page)) + 2
      ≡ bound s
  fill_bound slot page l asked =
      let t = with_stage (with_frame (with_lists s l) page (Some (free_frame s))) w r (reading slot page) in
      omega (
        arith,
        seat_moves s t w (Some r) (Some (at_stage r (reading slot page))) asked.at.seat refl,
        left_at r acting asked.at.stage,
      )

  pub fill_peaks : (slot page : ℕ) (l : FourLists) → IsAsked s w r (fixes (asked_by r) slot page)
      → running_peaks (with_stage (with_frame (with_lists s l) page (Some (free_frame s))) w r (reading slot page))
      ≡ running_peaks s
  fill_peaks slot page l asked =
      let t = with_stage (with_frame (with_lists s l) page (Some (free_frame s))) w r (reading slot page) in
      stage_peaks t (reading slot page) asked.at.seat refl

  pub evict_bound : (slot page v : ℕ) (l : FourLists) → IsAsked s w r (fixes (asked_by r) slot page)
      → bound (with_stage (with_frame_moved (with_lists s l) page v) w r (reading slot page)) + 2 ≡ bound s
  evict_bound slot page v l asked =
      let t = with_stage (with_frame_moved (with_lists s l) page v) w r (reading slot page) in
      omega (
        arith,
        seat_moves s t w (Some r) (Some (at_stage r (reading slot page))) asked.at.seat refl,
        left_at r acting asked.at.stage,
      )

  pub evict_peaks : (slot page v : ℕ) (l : FourLists) → IsAsked s w r (fixes (asked_by r) slot page)
      → running_peaks (with_stage (with_frame_moved (with_lists s l) page v) w r (reading slot page)) ≡ running_peaks s
  evict_peaks slot page v l asked =
      let t = with_stage (with_frame_moved (with_lists s l) page v) w r (reading slot page) in
      stage_peaks t (reading slot page) asked.at.seat refl

  pub send_bound : (slot page v : ℕ) (l : FourLists) → IsAsked s w r (fixes (asked_by r) slot page)
      → bound (with_stage (with_frame_moved (with_lists s l) page v) w r (writing slot page v)) + 1 ≡ bound s
  send_bound slot page v l asked =
      let t = with_stage (with_frame_moved (with_lists s l) page v) w r (writing slot page v) in
      omega (
        arith,
        seat_moves s t w (Some r) (Some (at_stage r (writing slot page v))) asked.at.seat refl,
        left_at r acting asked.at.stage,
      )

  pub send_peaks : (slot page v : ℕ) (l : FourLists) → IsAsked s w r (fixes (asked_by r) slot page)
      → running_peaks (with_stage (with_frame_moved (with_lists s l) page v) w r (writing slot page v))
      ≡ running_peaks s
  send_peaks slot page v l asked =
      let t = with_stage (with_frame_moved (with_lists s l) page v) w r (writing slot page v) in
      stage_peaks t (writing slot page v) asked.at.seat refl

  -- ---- answers of the device

  -- The write of a victim costs one, and so does the reading of a page. No peak changes.
  pub write_bound : (slot page v : ℕ) → IsAt s w r (writing slot page v)
      → bound (with_stage (with_dirty s v false) w r (reading slot page)) + 1 ≡ bound s
  write_bound slot page v at =
      let t = with_stage (with_dirty s v false) w r (reading slot page) in
      omega (
        arith,
        seat_moves s t w (Some r) (Some (at_stage r (reading slot page))) at.seat refl,
        left_at r (writing slot page v) at.stage,
      )

  pub write_peaks : (slot page v : ℕ) → IsAt s w r (writing slot page v)
      → running_peaks (with_stage (with_dirty s v false) w r (reading slot page)) ≡ running_peaks s
  write_peaks slot page v at =
      stage_peaks (with_stage (with_dirty s v false) w r (reading slot page)) (reading slot page) at.seat refl

  pub load_bound : (slot page stamp : ℕ) → IsAt s w r (reading slot page)
      → bound (did (with_mark s page stamp) w r (fixes (asked_by r) slot page)) + 1 ≡ bound s
  load_bound slot page stamp at =
      let a = fixes (asked_by r) slot page in
      let t = did (with_mark s page stamp) w r a in
      omega (
        arith,
        seat_moves s t w (Some r) (Some (having_done r a)) at.seat refl,
        left_at r (reading slot page) at.stage,
        length-append r.done (a ∷ []),
        reading_few slot page at,
      )

  pub load_peaks : (slot page stamp : ℕ) → IsAt s w r (reading slot page)
      → running_peaks (did (with_mark s page stamp) w r (fixes (asked_by r) slot page)) ≡ running_peaks s
  load_peaks slot page stamp at =
      let a = fixes (asked_by r) slot page in
      omega (arith, seat_peaks s (did (with_mark s page stamp) w r a) w (Some r) (Some (having_done r a)) at.seat refl)

  -- Where a fix fails, what was left of the plan goes, and what is held is to be given back.
  pub bring_bound : (slot page v : ℕ) → IsAt s w r (writing slot page v)
      → bound (with_stage (brought_back s page v) w r (leaving [])) + (3 * (r.accepted.steps - length r.done) + 32)
      ≡ bound s + (held_slots most_slots (holdings r) + 1)
  bring_bound slot page v at =
      let t = with_stage (brought_back s page v) w r (leaving []) in
      omega (
        arith,
        seat_moves s t w (Some r) (Some (at_stage r (leaving []))) at.seat refl,
        left_at r (writing slot page v) at.stage,
        ap (held_slots most_slots) (stage_holds r (leaving []) (sym (ap given_back at.stage))),
      )

  pub bring_peaks : (slot page v : ℕ) → IsAt s w r (writing slot page v)
      → running_peaks (with_stage (brought_back s page v) w r (leaving [])) ≡ running_peaks s
  bring_peaks slot page v at =
      stage_peaks (with_stage (brought_back s page v) w r (leaving [])) (leaving []) at.seat refl

  pub forget_bound : (slot page : ℕ) → IsAt s w r (reading slot page)
      → bound (with_stage (with_frame (with_lists s (forget s.lists page)) page None) w r (leaving []))
      + (3 * (r.accepted.steps - length r.done) + 31)
      ≡ bound s + (held_slots most_slots (holdings r) + 1)
  forget_bound slot page at =
      let t = with_stage (with_frame (with_lists s (forget s.lists page)) page None) w r (leaving []) in
      omega (
        arith,
        seat_moves s t w (Some r) (Some (at_stage r (leaving []))) at.seat refl,
        left_at r (reading slot page) at.stage,
        ap (held_slots most_slots) (stage_holds r (leaving []) (sym (ap given_back at.stage))),
      )

  pub forget_peaks : (slot page : ℕ) → IsAt s w r (reading slot page)
      → running_peaks (with_stage (with_frame (with_lists s (forget s.lists page)) page None) w r (leaving []))
      ≡ running_peaks s
  forget_peaks slot page at =
      let t = with_stage (with_frame (with_lists s (forget s.lists page)) page None) w r (leaving []) in
      stage_peaks t (leaving []) at.seat refl

  -- ---- other actions

  -- Each costs three, and no peak changes.
  pub unfix_bound : (slot : ℕ) → IsAsked s w r (action.Unfix slot)
      → bound (did s w r (action.Unfix slot)) + 3 ≡ bound s
  unfix_bound slot asked = action_bound (did s w r (action.Unfix slot)) (action.Unfix slot) asked refl

  pub unfix_peaks : (slot : ℕ) → IsAsked s w r (action.Unfix slot)
      → running_peaks (did s w r (action.Unfix slot)) ≡ running_peaks s
  unfix_peaks slot asked = action_peaks (did s w r (action.Unfix slot)) (action.Unfix slot) asked refl

  pub scatter_bound : (slot : ℕ) → IsAsked s w r (action.Scatter slot)
      → bound (did s w r (action.Scatter slot)) + 3 ≡ bound s
  scatter_bound slot asked = action_bound (did s w r (action.Scatter slot)) (action.Scatter slot) asked refl

  pub scatter_peaks : (slot : ℕ) → IsAsked s w r (action.Scatter slot)
      → running_peaks (did s w r (action.Scatter slot)) ≡ running_peaks s
  scatter_peaks slot asked = action_peaks (did s w r (action.Scatter slot)) (action.Scatter slot) asked refl

  pub latch_bound : (slot : ℕ) (m : Mode) → IsAsked s w r (action.Latch slot m)
      → bound (did s w r (action.Latch slot m)) + 3 ≡ bound s
  latch_bound slot m asked = action_bound (did s w r (action.Latch slot m)) (action.Latch slot m) asked refl

  pub latch_peaks : (slot : ℕ) (m : Mode) → IsAsked s w r (action.Latch slot m)
      → running_peaks (did s w r (action.Latch slot m)) ≡ running_peaks s
  latch_peaks slot m asked = action_peaks (did s w r (action.Latch slot m)) (action.Latch slot m) asked refl

  pub unlatch_bound : (slot : ℕ) → IsAsked s w r (action.Unlatch slot)
      → bound (did (unlatched s r slot) w r (action.Unlatch slot)) + 3 ≡ bound s
  unlatch_bound slot asked =
      let a = action.Unlatch slot in
      action_bound (did (unlatched s r slot) w r a) a asked
      (released_bound s (held_in r slot) (page_in r slot) w (Some (having_done r a)))

  pub unlatch_peaks : (slot : ℕ) → IsAsked s w r (action.Unlatch slot)
      → running_peaks (did (unlatched s r slot) w r (action.Unlatch slot)) ≡ running_peaks s
  unlatch_peaks slot asked =
      let a = action.Unlatch slot in
      action_peaks (did (unlatched s r slot) w r a) a asked
      (ap (λ x. slice_set x w (Some (having_done r a))) (released_seats s (held_in r slot) (page_in r slot)))

  pub choose_bound : (i : ℕ) → IsAsked s w r (action.Choose i) → bound (did s w r (action.Choose i)) + 3 ≡ bound s
  choose_bound i asked = action_bound (did s w r (action.Choose i)) (action.Choose i) asked refl

  pub choose_peaks : (i : ℕ) → IsAsked s w r (action.Choose i)
      → running_peaks (did s w r (action.Choose i)) ≡ running_peaks s
  choose_peaks i asked = action_peaks (did s w r (action.Choose i)) (action.Choose i) asked refl

  -- ---- leaving and ending

  -- A slot that is given back costs one.
  pub unwind_bound : (slot : ℕ) (given : List ℕ) (x : Holding) → IsAt s w r (leaving given)
      → holding_at (holdings r) slot ≡ Some x
      → bound (with_stage (released s x.held x.page) w r (leaving (slot ∷ given))) + 1 ≡ bound s
  unwind_bound slot given x at found =
      let y = Some (at_stage r (leaving (slot ∷ given))) in
      let t = with_stage (released s x.held x.page) w r (leaving (slot ∷ given)) in
      omega (
        arith,
        seat_moves s t w (Some r) y at.seat (released_bound s x.held x.page w y),
        left_at r (leaving given) at.stage,
        unwind_slots s h w r slot given x at found,
      )

  pub unwind_peaks : (slot : ℕ) (given : List ℕ) (x : Holding) → IsAt s w r (leaving given)
      → running_peaks (with_stage (released s x.held x.page) w r (leaving (slot ∷ given))) ≡ running_peaks s
  unwind_peaks slot given x at =
      let g = leaving (slot ∷ given) in
      stage_peaks (with_stage (released s x.held x.page) w r g) g at.seat
      (ap (λ z. slice_set z w (Some (at_stage r g))) (released_seats s x.held x.page))

  -- At the end of a plan what was left of it goes; a worker that left its plan has one move left.
  pub end_bound : IsAt s w r acting
      → bound (ended s w r Done).state + (3 * (r.accepted.steps - length r.done) + 33) ≡ bound s
  end_bound at =
      omega (
        arith,
        seat_moves s (ended s w r Done).state w (Some r) None at.seat refl,
        left_at r acting at.stage,
      )

  pub leave_bound : (given : List ℕ) → IsAt s w r (leaving given) → holdings r ≡ []
      → bound (ended s w r Gone).state + 1 ≡ bound s
  leave_bound given at none =
      omega (
        arith,
        seat_moves s (ended s w r Gone).state w (Some r) None at.seat refl,
        left_at r (leaving given) at.stage,
        ap (held_slots most_slots) none,
        none_held most_slots,
      )

  -- However a plan ends, its peak runs no more.
  pub end_peaks : (ending : Ending) → seat_of s w ≡ Some (Some r)
      → running_peaks (ended s w r ending).state + r.accepted.peak ≡ running_peaks s
  end_peaks ending has = omega (arith, seat_peaks s (ended s w r ending).state w (Some r) None has refl)

-- ---- the flusher

-- The begin of a flush costs one, and so does its end.
pub flush_bound : (s : State) (page : ℕ) → CanFlush s page → bound (flush_begun s page) + 1 ≡ bound s
flush_bound s page can =
    let some : 0 < s.flushes_left = let more = can.some in grind (arith, nat_tests) in
    omega (arith, ap left_to_flush can.none, some)

pub clean_bound : (s : State) (f : Flush) → s.flush ≡ Some f
    → bound (with_dirty (flush_over s) f.page false) + 1 ≡ bound s
clean_bound s f is = omega (arith, ap left_to_flush is)

pub drop_bound : (s : State) (f : Flush) → s.flush ≡ Some f → bound (flush_over s) + 1 ≡ bound s
drop_bound s f is = omega (arith, ap left_to_flush is)

-- A flush changes no running peak.
pub flush_peaks : (s : State) (page : ℕ) → running_peaks (flush_begun s page) ≡ running_peaks s
flush_peaks s page = refl

pub clean_peaks : (s : State) (page : ℕ) → running_peaks (with_dirty (flush_over s) page false) ≡ running_peaks s
clean_peaks s page = refl

pub drop_peaks : (s : State) → running_peaks (flush_over s) ≡ running_peaks s
drop_peaks s = refl

-- ---- plans that are taken in

-- A plan that is taken in raises the bound, and what the journal may need, by its cost.
pub submit_bound : (s : State) → IsReached s → (a : Acceptance) → bound (submitted s a) ≡ bound s + cost_of a
submit_bound s h a = submit_raises s a (counted s h).taken

pub submit_need : (s : State) (a : Acceptance)
    → journal_need (submitted s a).settings (submitted s a).plans ≡ journal_need s.settings s.plans + cost_of a
submit_need s a = need_more s.settings s.plans a

pub submit_peaks : (s : State) (a : Acceptance) → running_peaks (submitted s a) ≡ running_peaks s
submit_peaks s a = refl

-- ---- every reached state

module _ (s : State) (h : IsReached s) where
  -- The moves left are no more than the journal may need, which is within its limit.
  pub bound_fits : bound s ≤ journal_need s.settings s.plans
  bound_fits = bounded s h

  pub need_fits : journal_need s.settings s.plans ≤ most_events s.settings.span
  need_fits = (counted s h).need

  pub need_small : journal_need s.settings s.plans ≤ 2 ^ 61
  need_small = omega (arith, need_fits, events_small s.settings.span)

  -- No more plans count than may.
  pub plans_are_few : counted_plans s.settings.span (length s.plans) s.taken ≤ plan_limit s.settings.span
  plans_are_few = (counted s h).few

  -- Their number is below 2^64 by far, and no more were taken.
  pub plans_small : length s.plans ≤ 2 ^ 61
  plans_small = omega (arith, need_small, costs_count s.plans)

  pub taken_are_few : s.taken ≤ length s.plans
  taken_are_few = (counted s h).taken

  -- There is one seat for each worker.
  pub seats_are_all : length s.seats ≡ s.settings.workers
  seats_are_all = (counted s h).workers

  -- No more flushes are left than a run may begin.
  pub flushes_are_few : s.flushes_left ≤ s.settings.flushes
  flushes_are_few = (counted s h).flushes

  -- The running peaks fit the frames.
  pub peaks_fit : running_peaks s ≤ s.settings.layout.frames
  peaks_fit = room s h

  -- The plan that a worker runs is the one of its number, and was taken.
  pub seat_numbered : (w : ℕ) (r : Running) → seat_of s w ≡ Some (Some r) → IsNumbered s.plans s.taken r
  seat_numbered w r has = (counted s h).numbers w (Some r) has

  pub seat_plan : (w : ℕ) (r : Running) → seat_of s w ≡ Some (Some r) → slice_get s.plans r.number ≡ Some r.accepted
  seat_plan w r has = (seat_numbered w r has).plan

  pub seat_taken : (w : ℕ) (r : Running) → seat_of s w ≡ Some (Some r) → r.number < s.taken
  seat_taken w r has = (seat_numbered w r has).low
