-- Take, where it is done and where not: what the core's calls need, and that its parts stand for the next state.
use Rattle.std.proofs.Common.{◌≡◌, ◌∙◌, ℕ, zero, suc, ◌+◌, ◌≤◌, true, false, Option, Some, None, List, refl, sym, ap}
use Rattle.std.proofs.Common.{subst, arith}
use Rattle.std.specs.Prelude.{slice_get, option_map, option_and_then, length, replicate, is_some, nat_le}
use Rattle.std.proofs.lemmas.Option.{slice_get_within}
use Rattle.pp_settings.specs.Limits.{most_slots}
use Rattle.pp_cert.specs.Accepted.{Acceptance}
use Rattle.pp_model.specs.declared.moves.Move.TheVariants as move
use Rattle.pp_model.specs.declared.reply.Reply.TheVariants.{Taken, OffPlan, NotNow}
use Rattle.pp_model.specs.declared.refusals.Delay.TheVariants.{NothingWaiting, NoRoom}
use Rattle.pp_model.specs.declared.refusals.Cause.TheVariants.{NotIdle}
use Rattle.pp_model.specs.Pool.{acting, Running, State}
use Rattle.pp_model.specs.Budget.{running_peaks}
use Rattle.pp_model.specs.Moves.{seat_of, outcome_of}
use Rattle.pp_model.specs.Taking.{take_by, take_where, beginning, began}
use Rattle.pp_model.specs.Taking.{has_room as has_room_in}
use Rattle.pp_model.proofs.HeldSlots.{none_held}
use Rattle.pp_model.proofs.MarkSteps as marked
use Rattle.pp_model.proofs.BoundSteps as numbers
use Rattle.pp_model.proofs.FlightSteps as flights
use Rattle.pp_core.specs.declared.seat.Phase.{Phase}
use Rattle.pp_core.specs.declared.seat.Seat.{Seat}
use Rattle.pp_core.specs.declared.seat.Hold.{Hold}
use Rattle.pp_core.specs.Slots.{hold_at}
use Rattle.pp_core.specs.Seats.{IsBegun}
use Rattle.pp_core.specs.Parts.{Parts}
use Rattle.pp_core.specs.StandsFor.{FitsStage, FitsRunning, FitsSeat, StandsFor, IsKept, Moves}
use Rattle.pp_core.specs.Effects.{phase_of}
use Rattle.pp_core.specs.TakeEffects.{first_plan, waiting_peak, has_room, CanBegin, Began}
use Rattle.pp_core.proofs.Crew.{seat_from, seat_set}
use Rattle.pp_core.proofs.PlanTies.{first_waits, plans_taken}
use Rattle.pp_core.proofs.Asking.{in_phase, both}
use Rattle.pp_core.proofs.Ties.{Leads, moves_by, refuses}
use Rattle.pp_core.proofs.Gathered.{bundles_stay}

-- ---- a worker that begins a plan

-- New slots hold nothing.
no_hold : (n slot : ℕ) → hold_at (replicate n None) slot ≡ None
no_hold zero slot = refl
no_hold (suc n) zero = refl
no_hold (suc n) (suc slot) = no_hold n slot

-- The new seat fits the worker that begins the plan.
begun_fits : (ps : List Acceptance) (s : State) (k place : ℕ) (x : Seat) (a : Acceptance) → k ≡ s.taken
    → slice_get ps place ≡ Some a → IsBegun a.plan k place x → FitsRunning ps x (beginning s a)
begun_fits ps s k place x a number there begun = record {
  number = begun.number ∙ number;
  plan = ap (slice_get ps) begun.place ∙ there;
  cursor = begun.cursor;
  ask = begun.ask;
  actions = begun.actions;
  holds = begun.holds ∙ sym (none_held most_slots);
  width = ap length begun.slots;
  slots = λ slot. ap (λ (xs : List (Option Hold)). hold_at xs slot) begun.slots ∙ no_hold 32 slot;
  phase = subst (λ (p : Phase). FitsStage p acting) (sym begun.phase) tt;
}

-- ---- idle workers

-- Where the core's seat is idle, so is the state's.
idle_in : (ps : List Acceptance) (s : State) (w : ℕ) (y : Option Running) → seat_of s w ≡ Some y → FitsSeat ps None y
    → seat_of s w ≡ Some None
idle_in ps s w None e h = e
idle_in ps s w (Some r) e h = absurd h

idle_by : (o : Option (Option Seat)) → option_map (option_map (λ (x : Seat). x.phase)) o ≡ Some None → o ≡ Some None
idle_by None e = cc
idle_by (Some None) e = refl
idle_by (Some (Some x)) e = cc

module _ (f : Parts) (w : ℕ) where
  idle_at : phase_of f w ≡ Some None → slice_get f.seats w ≡ Some None
  idle_at e = idle_by (slice_get f.seats w) e

  idle_there : phase_of f w ≡ Some None → (s : State) → StandsFor f s → seat_of s w ≡ Some None
  idle_there e s st =
      let there = seat_from f.plans f.seats s.seats w None st.seats (idle_at e) in
      idle_in f.plans s w there.0 there.1 there.2

  -- A worker that has a plan takes none.
  pub not_idle : (p : Option Phase) → phase_of f w ≡ Some p → is_some p ≡ true
      → Moves f (move.Take w) (OffPlan NotIdle) f
  not_idle None e is = cc
  not_idle (Some p) e is =
      refuses f (move.Take w) (OffPlan NotIdle) (λ s st.
      let at = in_phase f w p (sym e) in
      let two = both f s w at.seat st at.is_in in
      ap (λ (o : Option (Option Running)). take_by s w o (slice_get s.plans s.taken)) two.there)

  pub is_idle : (p : Option Phase) → phase_of f w ≡ Some p → is_some p ≡ false → phase_of f w ≡ Some None
  is_idle None e is = e
  is_idle (Some p) e is = cc

  module _ (idle : phase_of f w ≡ Some None) where
    -- The outcome for an idle worker, by the first plan that waits.
    take_outcome : (s : State) (next : Option Acceptance) → StandsFor f s → first_plan f ≡ next
        → outcome_of s (move.Take w) ≡ take_by s w (Some None) next
    take_outcome s next st e =
        ap (λ (o : Option (Option Running)). take_by s w o (slice_get s.plans s.taken)) (idle_there idle s st)
        ∙ ap (take_by s w (Some None)) (first_waits f s st ∙ e)

    -- A plan and the place at which it stands.
    abbrev pub Place : List Acceptance → Option ℕ → Acceptance → Type 0
    Place ps o a = (k : ℕ) × (o ≡ Some k) × (slice_get ps k ≡ Some a)

    pub place_of : (ps : List Acceptance) (o : Option ℕ) (a : Acceptance) → option_and_then (slice_get ps) o ≡ Some a
        → Place ps o a
    place_of ps None a e = cc
    place_of ps (Some k) a e = (k, refl, e)

    none_by : (o : Option Acceptance) → option_map (λ (a : Acceptance). a.peak) o ≡ None → o ≡ None
    none_by None e = refl
    none_by (Some a) e = cc

    pub nothing_waits : waiting_peak f ≡ None → Moves f (move.Take w) (NotNow NothingWaiting) f
    nothing_waits e =
        refuses f (move.Take w) (NotNow NothingWaiting)
        (λ s st. take_outcome s None st (none_by (first_plan f) e))

    -- The plan that waits, and its peak.
    abbrev pub Next : Option Acceptance → ℕ → Type 0
    Next o peak = (a : Acceptance) × (o ≡ Some a) × (a.peak ≡ peak)

    pub next_by : (o : Option Acceptance) (peak : ℕ) → option_map (λ (a : Acceptance). a.peak) o ≡ Some peak → Next o peak
    next_by None peak e = cc
    next_by (Some a) peak e = (a, refl, cc)

    module _ (peak : ℕ) (waits : waiting_peak f ≡ Some peak) where
      abbrev pub next : Next (first_plan f) peak
      next = next_by (first_plan f) peak waits

      -- Its place.
      abbrev pub place : Place f.plans (slice_get f.waiting 0) next.0
      place = place_of f.plans (slice_get f.waiting 0) next.0 next.1

      same_room : (s : State) → StandsFor f s → has_room_in s next.0 ≡ has_room f peak
      same_room s st =
          ap (λ (n : ℕ). nat_le (n + running_peaks s) s.settings.layout.frames) next.2
          ∙ ap (λ (n : ℕ). nat_le (peak + n) s.settings.layout.frames) (sym st.running)
          ∙ ap (nat_le (peak + f.running)) (sym (ap (λ g. g.frames) st.layout))

      pub no_room : has_room f peak ≡ false → Moves f (move.Take w) (NotNow NoRoom) f
      no_room e =
          refuses f (move.Take w) (NotNow NoRoom)
          (λ s st. take_outcome s (Some next.0) st next.1 ∙ ap (take_where s w next.0) (same_room s st ∙ e))

      next_there : (s : State) → StandsFor f s → slice_get s.plans s.taken ≡ Some next.0
      next_there s st = first_waits f s st ∙ next.1

      pub can_begin : IsKept f → has_room f peak ≡ true → CanBegin f w
      can_begin k room =
          let s = k.state in
          let st = k.stands in
          let fits = numbers.take_room s next.0 (same_room s st ∙ room) in
          record {
            accepted = next.0;
            place = place.0;
            first = place.1;
            plan = place.2;
            idle = idle_at idle;
            taken = omega (arith, st.taken, numbers.taken_are_few s st.reached, numbers.plans_small s st.reached);
            running = omega (arith, st.running, fits, st.reached.settings.layout.frames.1);
            budget = omega (arith, st.budget, numbers.take_bound s w next.0 (idle_there idle s st) (next_there s st));
          }

      -- The outcome where there is room.
      pub take_outcome_is : has_room f peak ≡ true → (s : State) → StandsFor f s
          → outcome_of s (move.Take w) ≡ take_where s w next.0 true
      take_outcome_is room s st =
          take_outcome s (Some next.0) st next.1 ∙ ap (take_where s w next.0) (same_room s st ∙ room)

      pub take_moves : (g : Parts) → has_room f peak ≡ true
          → ((k : ℕ) (a : Acceptance) → slice_get f.waiting 0 ≡ Some k → slice_get f.plans k ≡ Some a → Began f g w k a)
          → Moves f (move.Take w) (Taken f.taken) g
      take_moves g room begins = moves_by f g (move.Take w) (Taken f.taken) leads
        where
          leads : (s : State) → StandsFor f s → Leads f s (move.Take w) (Taken f.taken) g
          leads s st =
              let a = next.0 in
              let t = began s w a in
              let b = begins place.0 a place.1 place.2 in
              let at = idle_there idle s st in
              let there = next_there s st in
              let fits = begun_fits f.plans s f.taken place.0 b.seat a st.taken place.2 b.begun in
              record {
                after = record { reply = Taken s.taken; state = t };
                is = take_outcome_is room s st;
                replies = ap Taken st.taken;
                plans = ap (λ (z : Parts). z.plans) b.rest;
                stands = λ reached. subst (λ (z : Parts). StandsFor z t) (sym b.rest) (record {
                  reached = reached;
                  layout = st.layout;
                  span = st.span;
                  flushes = st.flushes;
                  flushes_left = st.flushes_left;
                  plans = plans_taken f.plans f.waiting s t st.plans refl refl refl
                      (slice_get_within s.plans s.taken a there);
                  taken = ap (λ (n : ℕ). n + 1) st.taken;
                  seats = seat_set f.plans f.seats s.seats w (Some b.seat) (Some (beginning s a)) st.seats fits;
                  lists = st.lists;
                  marks = st.marks ∙ sym (marked.take_marks s st.reached w a at);
                  bundles = bundles_stay f.bundles s t w None (Some (beginning s a)) st.bundles at refl refl
                      (record { each = λ k. refl; pins = refl });
                  pages = st.pages;
                  in_flight = λ q v e. st.in_flight q v e ∙ sym (flights.take_flight s w a at q);
                  flush = st.flush;
                  running = omega (arith, st.running, numbers.take_peaks s w a at);
                  need = st.need;
                  budget = omega (arith, st.budget, numbers.take_bound s w a at there);
                });
              }

-- The running peaks fit the frames.
pub runs_few : (f : Parts) → IsKept f → f.running ≤ f.layout.frames
runs_few f k =
    omega (arith, k.stands.running, numbers.peaks_fit k.state k.stands.reached, ap (λ g. g.frames) k.stands.layout)
