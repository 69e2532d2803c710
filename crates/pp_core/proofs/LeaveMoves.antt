-- Finish, where it is done: what the core's calls need, and that its parts stand for the next state.
use Rattle.std.proofs.Common.{◌≡◌, ◌∙◌, ℕ, ◌+◌, ◌-◌, ◌<◌, ◌≤◌, true, false, Option, Some, None, List, [], ◌∷◌, refl}
use Rattle.std.proofs.Common.{sym, ap, subst, arith}
use Rattle.std.specs.Prelude.{slice_set, option_map}
use Rattle.pp_plan.specs.declared.action.Ask.TheVariants as ask
use Rattle.pp_settings.specs.Limits.{most_slots}
use Rattle.pp_cert.specs.Accepted.{Acceptance}
use Rattle.pp_cert.specs.Held.{Holdings}
use Rattle.pp_model.specs.declared.moves.Move.TheVariants as move
use Rattle.pp_model.specs.declared.reply.Reply.TheVariants.{Finished, OffPlan}
use Rattle.pp_model.specs.declared.reply.Ending.{Ending}
use Rattle.pp_model.specs.declared.reply.Ending.TheVariants.{Done, Gone}
use Rattle.pp_model.specs.declared.refusals.Cause.{Cause}
use Rattle.pp_model.specs.declared.refusals.Cause.TheVariants.{NotEnded}
use Rattle.pp_model.specs.Pool.{Stage, acting, writing, reading, leaving, Running, State}
use Rattle.pp_model.specs.Holders.{holdings, held_slots, is_in_flight}
use Rattle.pp_model.specs.Budget.{peak_of, running_peaks, bound}
use Rattle.pp_model.specs.Marks.{marks}
use Rattle.pp_model.specs.Outcome.{Outcome}
use Rattle.pp_model.specs.Moves.{asked_by, act_by, act_in, seat_of, outcome_of}
use Rattle.pp_model.specs.Leaving.{finish_by, finish_in, finish_asked, finish_holding}
use Rattle.pp_model.specs.Leaving.{ended as ended_in}
use Rattle.pp_model.specs.Reached.{IsReached}
use Rattle.pp_model.proofs.Changes.{IsAt}
use Rattle.pp_model.proofs.Sums.{sum_by-term}
use Rattle.pp_model.proofs.HeldSlots.{none_held}
use Rattle.pp_model.proofs.HoldingSteps as steps
use Rattle.pp_model.proofs.MarkSteps as marked
use Rattle.pp_model.proofs.BoundSteps as numbers
use Rattle.pp_model.proofs.FlightSteps as flights
use Rattle.pp_core.specs.declared.seat.Phase.{Phase}
use Rattle.pp_core.specs.declared.seat.Phase.TheVariants.{Acting, Writing, Reading, Leaving}
use Rattle.pp_core.specs.declared.seat.Seat.{Seat}
use Rattle.pp_core.specs.Parts.{Parts}
use Rattle.pp_core.specs.StandsFor.{FitsStage, FitsRunning, StandsFor, IsKept, Moves, Asks, CannotAct}
use Rattle.pp_core.specs.Effects.{phase_of, IsIn, Runs}
use Rattle.pp_core.specs.LeaveEffects.{is_leaving, HasPlan, CanCount, left_of, CanEnd, ended}
use Rattle.pp_core.proofs.Crew.{seat_set}
use Rattle.pp_core.proofs.Asking.{in_phase, both, runs}
use Rattle.pp_core.proofs.Ties.{Leads, moves_by, refuses, SameRest, stands_on}
use Rattle.pp_core.proofs.ActTies.{kept, IsOnPlan}
use Rattle.pp_core.proofs.Gathered.{bundles_stay, nothing_held}

-- ---- leaving workers

-- What a worker with this seat is at.
abbrev pub phase_in : Option (Option Seat) → Option (Option Phase)
phase_in o = option_map (option_map (λ (x : Seat). x.phase)) o

-- At the phase of leaving the worker is at the stage of leaving, and else it follows its plan.
leaves_by : (o : Option (Option Phase)) → is_leaving o ≡ true → Some (Some Leaving) ≡ o
leaves_by None e = cc
leaves_by (Some None) e = cc
leaves_by (Some (Some Acting)) e = cc
leaves_by (Some (Some (Writing slot page v))) e = cc
leaves_by (Some (Some (Reading slot page))) e = cc
leaves_by (Some (Some Leaving)) e = refl

stage_leaves : (p : Phase) (g : Stage) → p ≡ Leaving → FitsStage p g → (given : List ℕ) × (g ≡ leaving given)
stage_leaves Leaving acting e h = absurd h
stage_leaves Leaving (writing slot page victim) e h = absurd h
stage_leaves Leaving (reading slot page) e h = absurd h
stage_leaves Leaving (leaving given) e h = (given, refl)
stage_leaves Acting g e h = cc
stage_leaves (Writing s p v) g e h = cc
stage_leaves (Reading s p) g e h = cc

pub stage_stays : (p : Phase) (g : Stage) → is_leaving (Some (Some p)) ≡ false → FitsStage p g → IsOnPlan g
stage_stays p acting e h = tt
stage_stays p (writing slot page victim) e h = tt
stage_stays p (reading slot page) e h = tt
stage_stays Leaving (leaving given) e h = cc
stage_stays Acting (leaving given) e h = absurd h
stage_stays (Writing s p v) (leaving given) e h = absurd h
stage_stays (Reading s p) (leaving given) e h = absurd h

-- What the core and the state have of a worker that leaves its plan.
pub record Leaver (f : Parts) (s : State) (w : ℕ) : Type 0 where
  pub seat : Seat
  pub phase : seat.phase ≡ Leaving
  pub running : Running
  pub given : List ℕ
  pub is_in : IsIn f w seat
  pub fits : FitsRunning f.plans seat running
  pub at : IsAt s w running (leaving given)

pub leaver : (f : Parts) (s : State) (w : ℕ) → StandsFor f s → is_leaving (phase_of f w) ≡ true → Leaver f s w
leaver f s w st e =
    let at = in_phase f w Leaving (leaves_by (phase_of f w) e) in
    let two = both f s w at.seat st at.is_in in
    let stage = stage_leaves at.seat.phase two.running.stage at.phase two.fits.phase in
    record {
      seat = at.seat;
      phase = at.phase;
      running = two.running;
      given = stage.0;
      is_in = at.is_in;
      fits = two.fits;
      at = record { seat = two.there; stage = stage.1 };
    }

pub has_plan : (f : Parts) (s : State) (w : ℕ) (r : Running) → StandsFor f s → seat_of s w ≡ Some (Some r) → HasPlan f w
has_plan f s w r st e =
    let k = kept f s w r st e in
    record { seat = k.seat; accepted = r.accepted; runs = runs f s w k.seat r st k.is_in k.fits }

pub leaver_plan : (f : Parts) (w : ℕ) → IsKept f → is_leaving (phase_of f w) ≡ true → HasPlan f w
leaver_plan f w k e =
    let l = leaver f k.state w k.stands e in
    has_plan f k.state w l.running k.stands l.at.seat

-- ---- finish

-- The peak of a worker in its plan is among the running peaks.
peak_runs : (s : State) (w : ℕ) (r : Running) → seat_of s w ≡ Some (Some r) → r.accepted.peak ≤ running_peaks s
peak_runs s w r e = sum_by-term peak_of s.seats w (Some r) e

-- The parts of a core that ends a plan.
abbrev pub IsEnded : (f g : Parts) (w left : ℕ) → Type 0
IsEnded f g w left = (x : Seat) (a : Acceptance) → Runs f w x a → g ≡ ended f w a.peak left

-- What stays where a plan ends.
same_rest : (s : State) (w : ℕ) (r : Running) (ending : Ending)
    → ((q : ℕ) → is_in_flight (ended_in s w r ending).state q ≡ is_in_flight s q)
    → SameRest s (ended_in s w r ending).state
same_rest s w r ending flight = record {
  settings = refl;
  plans = refl;
  taken = refl;
  lists = refl;
  notes = refl;
  flush = refl;
  flushes_left = refl;
  in_flight = flight;
}

end_stands : (f g : Parts) (s : State) (w : ℕ) (r : Running) (ending : Ending) (left : ℕ) → StandsFor f s
    → seat_of s w ≡ Some (Some r) → holdings r ≡ [] → IsEnded f g w left → IsReached (ended_in s w r ending).state
    → ((q : ℕ) → is_in_flight (ended_in s w r ending).state q ≡ is_in_flight s q)
    → marks (ended_in s w r ending).state ≡ marks s → bound (ended_in s w r ending).state + left ≡ bound s
    → StandsFor g (ended_in s w r ending).state
end_stands f g s w r ending left st e none is_ended reached flight marked_so falls =
    let t = (ended_in s w r ending).state in
    let k = kept f s w r st e in
    let running : f.running - r.accepted.peak ≡ running_peaks t =
    omega (arith, st.running, numbers.end_peaks s st.reached w r ending e) in
    let budget : f.budget - left ≡ bound t = omega (arith, st.budget, falls) in
    subst (λ (z : Parts). StandsFor z t) (sym (is_ended k.seat r.accepted (runs f s w k.seat r st k.is_in k.fits)))
    (stands_on f s t (slice_set f.seats w None) f.marks f.bundles (f.running - r.accepted.peak) (f.budget - left) st
    reached (same_rest s w r ending flight) (seat_set f.plans f.seats s.seats w None None st.seats tt)
    (st.marks ∙ sym marked_so)
    (bundles_stay f.bundles s t w (Some r) None st.bundles e refl refl (nothing_held r none)) running budget)

can_end : (f : Parts) (s : State) (w : ℕ) (r : Running) (left : ℕ) → StandsFor f s → seat_of s w ≡ Some (Some r)
    → left ≤ bound s → CanEnd f w left
can_end f s w r left st e few =
    let k = kept f s w r st e in
    record {
      seat = k.seat;
      accepted = r.accepted;
      runs = runs f s w k.seat r st k.is_in k.fits;
      peak = omega (arith, st.running, peak_runs s w r e);
      budget = omega (arith, st.budget, few);
    }

-- ---- a worker that leaves

module _ (f : Parts) (w : ℕ) (leaves : is_leaving (phase_of f w) ≡ true) where
  -- The outcome, by what the worker holds.
  pub leaver_outcome : (s : State) (l : Leaver f s w)
      → outcome_of s (move.Finish w) ≡ finish_holding s w l.running (holdings l.running)
  leaver_outcome s l = ap (finish_by s w) l.at.seat ∙ ap (finish_in s w l.running) l.at.stage

  still_holds : (s : State) (r : Running) (hs : Holdings) → 0 < held_slots most_slots hs
      → finish_holding s w r hs ≡ record { reply = OffPlan NotEnded; state = s }
  still_holds s r [] lt = absurd (omega (arith, lt, none_held most_slots))
  still_holds s r (h ∷ hs) lt = refl

  abbrev TellsHolds : ℕ → Type 0
  TellsHolds n = (x : Seat) → IsIn f w x → n ≡ x.holds

  pub gone_refused : (n : ℕ) → TellsHolds n → 0 < n → Moves f (move.Finish w) (OffPlan NotEnded) f
  gone_refused n tells lt =
      refuses f (move.Finish w) (OffPlan NotEnded) (λ s st.
      let l = leaver f s w st leaves in
      leaver_outcome s l
      ∙ still_holds s l.running (holdings l.running) (omega (arith, lt, tells l.seat l.is_in, l.fits.holds)))

  pub empty : (s : State) → IsReached s → (l : Leaver f s w) (n : ℕ) → TellsHolds n → n ≤ 0 → holdings l.running ≡ []
  empty s h l n tells le =
      steps.none_holds s h w l.running l.at.seat (omega (arith, le, tells l.seat l.is_in, l.fits.holds))

  pub can_leave : IsKept f → (n : ℕ) → TellsHolds n → n ≤ 0 → CanEnd f w 1
  can_leave k n tells le =
      let s = k.state in
      let l = leaver f s w k.stands leaves in
      let falls = numbers.leave_bound s k.stands.reached w l.running l.given l.at (empty s k.stands.reached l n tells le) in
      can_end f s w l.running 1 k.stands l.at.seat (omega (arith, falls))

  pub gone_moves : (g : Parts) (n : ℕ) → TellsHolds n → n ≤ 0 → IsEnded f g w 1
      → Moves f (move.Finish w) (Finished Gone) g
  gone_moves g n tells le is_ended = moves_by f g (move.Finish w) (Finished Gone) leads
    where
      leads : (s : State) → StandsFor f s → Leads f s (move.Finish w) (Finished Gone) g
      leads s st =
          let l = leaver f s w st leaves in
          let r = l.running in
          let none = empty s st.reached l n tells le in
          record {
            after = ended_in s w r Gone;
            is = leaver_outcome s l ∙ ap (finish_holding s w r) none;
            replies = refl;
            plans = ap (λ (z : Parts). z.plans) (is_ended l.seat r.accepted (runs f s w l.seat r st l.is_in l.fits));
            stands = λ reached. end_stands f g s w r Gone 1 st l.at.seat none is_ended reached
                (flights.leave_flight s st.reached w r l.given l.at)
                (marked.leave_marks s st.reached w r l.given l.at none)
                (numbers.leave_bound s st.reached w r l.given l.at none);
          }

-- ---- a worker at the end of its plan

module _ (f : Parts) (w : ℕ) where
  abbrev acting_outcome : State → Running → Outcome
  acting_outcome s r = finish_asked s w r (asked_by r)

  by_stage : (s : State) (r : Running) (g : Stage) → IsOnPlan g → finish_in s w r g ≡ act_in s (acting_outcome s) r g
  by_stage s r acting on = refl
  by_stage s r (writing slot page victim) on = refl
  by_stage s r (reading slot page) on = refl
  by_stage s r (leaving given) on = absurd on

  stays_on : is_leaving (phase_of f w) ≡ false → (s : State) (r : Running) → StandsFor f s → seat_of s w ≡ Some (Some r)
      → IsOnPlan r.stage
  stays_on stays s r st e =
      let k = kept f s w r st e in
      stage_stays k.seat.phase r.stage
      (sym (ap (λ (o : Option (Option Seat)). is_leaving (phase_in o)) k.is_in) ∙ stays)
      k.fits.phase

  by_seat : is_leaving (phase_of f w) ≡ false → (s : State) (o : Option (Option Running)) → StandsFor f s
      → seat_of s w ≡ o
      → finish_by s w o ≡ act_by s (acting_outcome s) o
  by_seat stays s None st e = refl
  by_seat stays s (Some None) st e = refl
  by_seat stays s (Some (Some r)) st e = by_stage s r r.stage (stays_on stays s r st e)

  pub done_refused : (cause : Cause) → is_leaving (phase_of f w) ≡ false → CannotAct f w cause
      → Moves f (move.Finish w) (OffPlan cause) f
  done_refused cause stays cannot =
      refuses f (move.Finish w) (OffPlan cause)
      (λ s st. by_seat stays s (seat_of s w) st refl ∙ cannot s (acting_outcome s) st)

  module _ (asks : Asks f w ask.End) where
    pub can_count : IsKept f → CanCount f w
    can_count k =
        let s = k.state in
        let a = asks s k.stands in
        let r = a.0 in
        let x = kept f s w r k.stands a.1.seat in
        record {
          seat = x.seat;
          accepted = r.accepted;
          runs = runs f s w x.seat r k.stands x.is_in x.fits;
          actions = omega (arith, x.fits.actions, numbers.done_few s k.stands.reached w r a.1.seat);
          limit = (steps.seat_is s k.stands.reached w r a.1.seat).accepted.limit;
        }

    abbrev TellsLeft : ℕ → Type 0
    TellsLeft left = (x : Seat) (a : Acceptance) → Runs f w x a → left ≡ left_of x a

    -- What the core counts is what the bound counts.
    end_falls : (s : State) (st : StandsFor f s) (left : ℕ) → TellsLeft left
        → bound (ended_in s w (asks s st).0 Done).state + left ≡ bound s
    end_falls s st left tells =
        let a = asks s st in
        let r = a.0 in
        let x = kept f s w r st a.1.seat in
        let told = tells x.seat r.accepted (runs f s w x.seat r st x.is_in x.fits) in
        let falls = numbers.end_bound s st.reached w r (record { seat = a.1.seat; stage = a.1.stage }) in
        omega (arith, told, falls, x.fits.actions)

    pub can_finish : IsKept f → (left : ℕ) → TellsLeft left → CanEnd f w left
    can_finish k left tells =
        let a = asks k.state k.stands in
        can_end f k.state w a.0 left k.stands a.1.seat (omega (arith, end_falls k.state k.stands left tells))

    pub done_moves : (g : Parts) (left : ℕ) → TellsLeft left → IsEnded f g w left
        → Moves f (move.Finish w) (Finished Done) g
    done_moves g left tells is_ended = moves_by f g (move.Finish w) (Finished Done) leads
      where
        leads : (s : State) → StandsFor f s → Leads f s (move.Finish w) (Finished Done) g
        leads s st =
            let a = asks s st in
            let r = a.0 in
            let at : IsAt s w r acting = record { seat = a.1.seat; stage = a.1.stage } in
            record {
              after = ended_in s w r Done;
              is = ap (finish_by s w) a.1.seat ∙ ap (finish_in s w r) a.1.stage ∙ ap (finish_asked s w r) a.2;
              replies = refl;
              plans = let k = kept f s w r st a.1.seat in ap (λ (z : Parts). z.plans) (is_ended k.seat r.accepted (runs f s w k.seat r st k.is_in k.fits));
              stands = λ reached. end_stands f g s w r Done left st a.1.seat (steps.ends_empty s st.reached w r at a.2) is_ended reached
                  (flights.end_flight s st.reached w r at)
                  (marked.end_marks s st.reached w r at (steps.ends_empty s st.reached w r at a.2))
                  (end_falls s st left tells);
            }
