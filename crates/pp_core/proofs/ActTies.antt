-- An action of a worker that its plan asks: the core can do it, and its seats then fit those of the state.
use Rattle.std.proofs.Common.{false, ◌≡◌, ◌∙◌, ℕ, ◌+◌, ◌<◌, ◌^◌, Option, Some, None, List, [], ◌∷◌, ◌++◌, length, refl}
use Rattle.std.proofs.Common.{sym, ap}
use Rattle.std.proofs.Common.{subst, arith}
use Rattle.std.specs.Prelude.{slice_get, slice_set, option_map, if◌then◌else◌}
use Rattle.std.proofs.lemmas.List.{length-append, set-set}
use Rattle.pp_plan.specs.declared.mode.Mode.{Mode}
use Rattle.pp_plan.specs.declared.action.Action.{Action}
use Rattle.pp_plan.specs.declared.action.Action.TheVariants as action
use Rattle.pp_settings.specs.Limits.{most_slots}
use Rattle.pp_plan.specs.Terms.{Terms}
use Rattle.pp_plan.specs.PlanTraces.{PlanAsks}
use Rattle.pp_cursor.specs.Positions.{Spot}
use Rattle.pp_cursor.specs.Cursor.{StandsFor as CursorStandsFor, IsCursorOf}
use Rattle.pp_cert.specs.Accepted.{Acceptance}
use Rattle.pp_cert.specs.Held.{Holding, holding_at}
use Rattle.pp_model.specs.Fixing.{fixes}
use Rattle.pp_model.specs.Pool.{Stage, acting, writing, reading, leaving, Running, State}
use Rattle.pp_model.specs.Holders.{holdings, held_slots}
use Rattle.pp_model.specs.Outcome.{having_done}
use Rattle.pp_model.specs.Moves.{seat_of, asked_by}
use Rattle.pp_model.proofs.Changes.{IsAt, IsAsked}
use Rattle.pp_model.proofs.HeldSlots.{few_held}
use Rattle.pp_model.proofs.HoldingSteps as steps
use Rattle.pp_model.proofs.BoundSteps as numbers
use Rattle.pp_core.specs.declared.seat.Hold.{Hold}
use Rattle.pp_core.specs.declared.seat.Seat.{Seat}
use Rattle.pp_core.specs.Slots.{slots_after, count_after}
use Rattle.pp_core.specs.declared.seat.Phase.{Phase}
use Rattle.pp_core.specs.declared.seat.Phase.TheVariants.{Acting, Writing, Reading, Leaving}
use Rattle.pp_core.specs.Seats.{FitsSlots, Did}
use Rattle.pp_core.specs.Parts.{Parts}
use Rattle.pp_core.specs.StandsFor.{FitsStage, FitsRunning, FitsSeat, FitsCrew, StandsFor}
use Rattle.pp_core.specs.Effects.{IsIn, CanAct, Acted, at_phase}
use Rattle.pp_core.proofs.Crew.{set_at, seat_to, seat_set}
use Rattle.pp_core.proofs.Asking.{both, runs}
use Rattle.pp_core.proofs.SlotTies.{Tell, tell_set, tell_as, acted_fits}
use Rattle.std.specs.Option.{is_some}
use Rattle.pp_plan.specs.declared.action.Ask.{Ask}
use Rattle.pp_cert.specs.declared.note.Held.TheVariants.{Free}
use Rattle.pp_cert.specs.Held.{holding_slot, plain_page, bundle_page}
use Rattle.pp_cert.proofs.Slots.{slot_all}
use Rattle.pp_model.specs.Holders.{given_back}
use Rattle.pp_model.proofs.HeldSlots.{count_of}
use Rattle.pp_model.proofs.Swaps.{gathers, new_page, by_fix}
use Rattle.pp_model.proofs.KeptSlots.{Fills, filled_at, found_in}
use Rattle.pp_core.specs.Slots.{hold_of}
use Rattle.pp_core.proofs.Gathered.{asks_low}

-- ---- one worker on both sides

-- The core has a seat for the worker.
pub record Kept (f : Parts) (s : State) (w : ℕ) (r : Running) : Type 0 where
  pub seat : Seat
  pub is_in : IsIn f w seat
  pub fits : FitsRunning f.plans seat r

kept_of : (f : Parts) (s : State) (w : ℕ) (r : Running) (x : Option Seat) → slice_get f.seats w ≡ Some x
    → FitsSeat f.plans x (Some r) → Kept f s w r
kept_of f s w r None e h = absurd h
kept_of f s w r (Some x) e h = record { seat = x; is_in = e; fits = h }

pub kept : (f : Parts) (s : State) (w : ℕ) (r : Running) → StandsFor f s → seat_of s w ≡ Some (Some r) → Kept f s w r
kept f s w r st e =
    let there = seat_to f.plans f.seats s.seats w (Some r) st.seats e in
    kept_of f s w r there.0 there.1 there.2

same_running : (o : Option (Option Running)) (r q : Running) → o ≡ Some (Some r) → o ≡ Some (Some q) → q ≡ r
same_running o r q e f = cc

pub fits_running : (f : Parts) (s : State) (w : ℕ) (x : Seat) (r : Running) → StandsFor f s → IsIn f w x
    → seat_of s w ≡ Some (Some r) → FitsRunning f.plans x r
fits_running f s w x r st is_in e =
    let two = both f s w x st is_in in
    subst (FitsRunning f.plans x) (same_running (seat_of s w) r two.running e two.there) two.fits

pub same_plan : (o : Option Acceptance) (a b : Acceptance) → o ≡ Some a → o ≡ Some b → a ≡ b
same_plan o a b e f = cc

same_seat : (o : Option (Option Seat)) (x y : Seat) → o ≡ Some (Some x) → o ≡ Some (Some y) → x ≡ y
same_seat o x y e f = cc

pub one_seat : (f : Parts) (w : ℕ) (x y : Seat) → IsIn f w x → IsIn f w y → x ≡ y
one_seat f w x y e f' = same_seat (slice_get f.seats w) x y e f'

-- ---- cursors

-- Where a cursor stands for two lists, the plan asks the same after both.
asks_same : (p : Terms) (c : Spot) (t u : List Action) (a : Action) → CursorStandsFor p c t → CursorStandsFor p c u
    → PlanAsks p t a → PlanAsks p u a
asks_same p c t u a h k asks = (asks.0, k.stands.from (a ∷ asks.0) (h.stands.to (a ∷ asks.0) asks.1))

-- A worker at this stage follows its plan.
abbrev pub IsOnPlan : Stage → Type 0
IsOnPlan acting = Unit {0}
IsOnPlan (writing slot page victim) = Unit {0}
IsOnPlan (reading slot page) = Unit {0}
IsOnPlan (leaving given) = ⊥

pub cursor_of : (plans : List Acceptance) (x : Seat) (r : Running) → FitsRunning plans x r → IsOnPlan r.stage
    → CursorStandsFor r.accepted.plan x.cursor r.done
cursor_of plans x r fits on = fits.cursor

-- ---- before the action

-- What the state says of an action that the core is about to do.
pub record IsDue (r : Running) (a : Action) : Type 0 where
  pub asks : PlanAsks r.accepted.plan r.done a
  pub few : length r.done < 1000000
  pub slots : FitsSlots a (held_slots most_slots (holdings r)) 32

-- What an action needs of a worker's seat beside its phase.
record MayDo (plan : Terms) (x : Seat) (a : Action) : Type 0 where
  cursor : IsCursorOf plan x.cursor
  asks : (before : List Action) → CursorStandsFor plan x.cursor before → PlanAsks plan before a
  actions : x.actions + 1 < 2 ^ 32
  slots : FitsSlots a x.holds (length x.slots)

may_do : (plans : List Acceptance) (x : Seat) (r : Running) (a : Action) → FitsRunning plans x r → IsDue r a
    → MayDo r.accepted.plan x a
may_do plans x r a fits due = record {
  cursor = (r.done, fits.cursor);
  asks = λ before h. asks_same r.accepted.plan x.cursor r.done before a fits.cursor h due.asks;
  actions = omega (arith, fits.actions, due.few);
  slots = subst (λ (n : ℕ). FitsSlots a n (length x.slots)) (sym fits.holds)
      (subst (λ (n : ℕ). FitsSlots a (held_slots most_slots (holdings r)) n) (sym fits.width) due.slots);
}

phase_acts : (p : Phase) (g : Stage) → g ≡ acting → FitsStage p g → p ≡ Acting
phase_acts Acting g e h = refl
phase_acts (Writing slot page v) acting e h = absurd h
phase_acts (Writing slot page v) (writing t x u) e h = cc
phase_acts (Writing slot page v) (reading t x) e h = cc
phase_acts (Writing slot page v) (leaving given) e h = cc
phase_acts (Reading slot page) acting e h = absurd h
phase_acts (Reading slot page) (writing t x u) e h = cc
phase_acts (Reading slot page) (reading t x) e h = cc
phase_acts (Reading slot page) (leaving given) e h = cc
phase_acts Leaving acting e h = absurd h
phase_acts Leaving (writing t x u) e h = cc
phase_acts Leaving (reading t x) e h = cc
phase_acts Leaving (leaving given) e h = cc

pub can_act : (f : Parts) (s : State) (w : ℕ) (r : Running) (a : Action) → StandsFor f s → seat_of s w ≡ Some (Some r)
    → r.stage ≡ acting → IsDue r a → CanAct f w a
can_act f s w r a st e acts due =
    let k = kept f s w r st e in
    let x = k.seat in
    let may = may_do f.plans x r a k.fits due in
    record {
      seat = x;
      accepted = r.accepted;
      runs = runs f s w x r st k.is_in k.fits;
      can = record {
        cursor = may.cursor;
        asks = may.asks;
        acts = phase_acts x.phase r.stage acts k.fits.phase;
        actions = may.actions;
        slots = may.slots;
      };
    }

-- A worker whose errand is over can do the action once it acts.
pub can_act_then : (f : Parts) (s : State) (w : ℕ) (r : Running) (x : Seat) (a : Action) → StandsFor f s → IsIn f w x
    → seat_of s w ≡ Some (Some r) → IsDue r a → CanAct (at_phase f w x Acting) w a
can_act_then f s w r x a st is_in e due =
    let fits = fits_running f s w x r st is_in e in
    let may = may_do f.plans x r a fits due in
    record {
      seat = record x { phase = Acting };
      accepted = r.accepted;
      runs = record {
        is_in = set_at f.seats w (Some x) (Some (record x { phase = Acting })) is_in;
        plan = (runs f s w x r st is_in fits).plan;
      };
      can = record { cursor = may.cursor; asks = may.asks; acts = refl; actions = may.actions; slots = may.slots };
    }

-- What it has done then, it has done before.
pub acted_then : (f g : Parts) (w : ℕ) (x : Seat) (a : Action) → IsIn f w x → Acted (at_phase f w x Acting) g w a
    → Acted f g w a
acted_then f g w x a is_in h =
    let now : h.seat ≡ record x { phase = Acting } =
    one_seat (at_phase f w x Acting) w h.seat (record x { phase = Acting }) h.runs.is_in
    (set_at f.seats w (Some x) (Some (record x { phase = Acting })) is_in) in
    let did : Did h.accepted.plan (record x { phase = Acting }) h.after a =
    subst (λ (y : Seat). Did h.accepted.plan y h.after a) now h.did in
    record {
      seat = x;
      accepted = h.accepted;
      runs = record { is_in = is_in; plan = ap (λ (y : Seat). slice_get f.plans y.place) (sym now) ∙ h.runs.plan };
      after = h.after;
      did = record {
        number = did.number;
        place = did.place;
        cursor = did.cursor;
        ask = did.ask;
        actions = did.actions;
        holds = did.holds;
        slots = did.slots;
        phase = did.phase;
      };
      seats = h.seats ∙ set-set f.seats w (Some (record x { phase = Acting })) (Some h.after);
    }

-- ---- after it

-- The worker's slots say after the action what its holdings say.
abbrev pub SlotsFollow : Running → Action → Type 0
SlotsFollow r a =
    (xs : List (Option Hold)) (n : ℕ) → length xs ≡ 32 → Tell xs (holdings r) → n ≡ held_slots most_slots (holdings r)
    → (count_after a xs n ≡ held_slots most_slots (holdings (having_done r a))) × Tell (slots_after a xs) (holdings (having_done r a))

pub acted_crew : (f g : Parts) (s : State) (w : ℕ) (r : Running) (a : Action) → StandsFor f s → Acted f g w a
    → seat_of s w ≡ Some (Some r) → IsOnPlan r.stage → SlotsFollow r a
    → FitsCrew f.plans g.seats (slice_set s.seats w (Some (having_done r a)))
acted_crew f g s w r a st acted e on follow =
    let x = acted.seat in
    let fits = fits_running f s w x r st acted.runs.is_in e in
    let plan : acted.accepted ≡ r.accepted =
    same_plan (slice_get f.plans x.place) acted.accepted r.accepted acted.runs.plan
    (runs f s w x r st acted.runs.is_in fits).plan in
    let did : Did r.accepted.plan x acted.after a =
    subst (λ (b : Acceptance). Did b.plan x acted.after a) plan acted.did in
    let slots = follow x.slots x.holds fits.width fits.slots fits.holds in
    let more : length r.done + 1 ≡ length (r.done ++ a ∷ []) = omega (arith, length-append r.done (a ∷ [])) in
    let after = acted_fits f.plans x acted.after r a fits (cursor_of f.plans x r fits on) did slots.0 slots.1 more in
    subst (λ (xs : List (Option Seat)). FitsCrew f.plans xs (slice_set s.seats w (Some (having_done r a))))
    (sym acted.seats) (seat_set f.plans f.seats s.seats w (Some acted.after) (Some (having_done r a)) st.seats after)

-- ---- each action

module _ (f : Parts) (s : State) (w : ℕ) (r : Running) (st : StandsFor f s) where
  on_acting : (g : Stage) → g ≡ acting → IsOnPlan g
  on_acting g e = subst IsOnPlan (sym e) tt

  pub acting_on : (a : Action) → IsAsked s w r a → IsOnPlan r.stage
  acting_on a asked = on_acting r.stage asked.at.stage

  pub reading_on : (slot page : ℕ) → IsAt s w r (reading slot page) → IsOnPlan r.stage
  reading_on slot page at = subst IsOnPlan (sym at.stage) tt

  limited : seat_of s w ≡ Some (Some r) → length r.done < r.accepted.steps → length r.done < 1000000
  limited e few = omega (arith, (steps.seat_is s st.reached w r e).accepted.limit)

  asked_due : (a : Action) → IsAsked s w r a → FitsSlots a (held_slots most_slots (holdings r)) 32 → IsDue r a
  asked_due a asked fits = record {
    asks = steps.asks_it s st.reached w r a asked;
    few = limited asked.at.seat (numbers.asked_few s st.reached w r a asked);
    slots = fits;
  }

  goes_fit : (k : Ask) (slot page : ℕ) → slot < 32
      → FitsSlots (fixes k slot page) (held_slots most_slots (holdings r)) 32
  goes_fit k slot page few =
      by_fix (λ a g. FitsSlots a (held_slots most_slots (holdings r)) 32) k slot page
      (few, few_held most_slots (holdings r)) (few, few_held most_slots (holdings r))

  pub fix_due : (slot page : ℕ) → IsAsked s w r (fixes (asked_by r) slot page)
      → IsDue r (fixes (asked_by r) slot page)
  fix_due slot page asked =
      asked_due (fixes (asked_by r) slot page) asked
      (goes_fit (asked_by r) slot page (steps.fix_finds s st.reached w r slot page asked).few)

  pub load_due : (slot page : ℕ) → IsAt s w r (reading slot page) → IsDue r (fixes (asked_by r) slot page)
  load_due slot page at = record {
    asks = steps.reading_asks s st.reached w r slot page at;
    few = limited at.seat (numbers.reading_few s st.reached w r slot page at);
    slots = goes_fit (asked_by r) slot page (steps.reading_finds s st.reached w r slot page at).few;
  }

  found_few : (slot : ℕ) (h : Holding) → seat_of s w ≡ Some (Some r) → holding_at (holdings r) slot ≡ Some h → slot < 32
  found_few slot h e found = (steps.slots_are_within s st.reached w r e slot h found).few

  pub unfix_due : (slot : ℕ) → IsAsked s w r (action.Unfix slot) → IsDue r (action.Unfix slot)
  unfix_due slot asked =
      let finds = steps.unfix_finds s st.reached w r slot asked in
      let some : 0 < held_slots most_slots (holdings r) = omega (arith, steps.unfix_slots s st.reached w r slot asked) in
      asked_due (action.Unfix slot) asked (found_few slot finds.0 asked.at.seat finds.1.found, some)

  pub scatter_due : (slot : ℕ) → IsAsked s w r (action.Scatter slot) → IsDue r (action.Scatter slot)
  scatter_due slot asked =
      let some : 0 < held_slots most_slots (holdings r) =
      omega (arith, steps.scatter_slots s st.reached w r slot asked) in
      asked_due (action.Scatter slot) asked (
        asks_low s st.reached w r (action.Scatter slot) asked.at.seat (ap given_back asked.at.stage)
            (steps.asks_it s st.reached w r (action.Scatter slot) asked),
        some,
      )

  pub latch_due : (slot : ℕ) (m : Mode) → IsAsked s w r (action.Latch slot m) → IsDue r (action.Latch slot m)
  latch_due slot m asked =
      let finds = steps.latch_finds s st.reached w r slot m asked in
      asked_due (action.Latch slot m) asked (found_few slot finds.0 asked.at.seat finds.1.found)

  pub unlatch_due : (slot : ℕ) → IsAsked s w r (action.Unlatch slot) → IsDue r (action.Unlatch slot)
  unlatch_due slot asked =
      let finds = steps.unlatch_finds s st.reached w r slot asked in
      asked_due (action.Unlatch slot) asked (found_few slot finds.0 asked.at.seat finds.1.found)

  pub choose_due : (i : ℕ) → IsAsked s w r (action.Choose i) → IsDue r (action.Choose i)
  choose_due i asked = asked_due (action.Choose i) asked tt

  -- The slots after it.
  -- A page goes in: into a slot that is empty, or into a bundle.
  goes_in : (k : Ask) (slot page : ℕ) (a : Action) → a ≡ fixes k slot page → slot < 32
      → Fills slot (new_page k slot page ∷ slot_all holding_slot slot (holdings r)) (holdings r)
      (holdings (having_done r a))
      → (gathers k ≡ false → slot_all holding_slot slot (holdings r) ≡ [])
      → held_slots most_slots (holdings (having_done r a)) + count_of (holding_at (holdings r) slot)
      ≡ held_slots most_slots (holdings r) + 1 → SlotsFollow r a
  goes_in k slot page a is few fills empty counts =
      subst (SlotsFollow r) (sym is)
      (by_fix (λ b g. g ≡ gathers k → Fills slot (record { slot = slot; page = page; held = Free; bundled = g }
      ∷ slot_all holding_slot slot (holdings r)) (holdings r) (holdings (having_done r b))
      → held_slots most_slots (holdings (having_done r b)) + count_of (holding_at (holdings r) slot)
      ≡ held_slots most_slots (holdings r) + 1 → SlotsFollow r b) k slot page
      (λ none fills counts xs n wide tell e. (
        omega (arith, e, counts, ap count_of (found_in (holdings r) slot [] (empty (sym none)))),
        tell_set xs (holdings r) (holdings (having_done r (action.Fix slot page))) slot _ _ (omega (arith, few, wide))
            refl tell
            (filled_at slot (plain_page slot page ∷ slot_all holding_slot slot (holdings r)) (holdings r)
            (holdings (having_done r (action.Fix slot page))) fills),
      ))
      (λ none fills counts xs n wide tell e. (
        gathered_count xs n slot page tell e counts,
        tell_set xs (holdings r) (holdings (having_done r (action.Gather slot page))) slot _ _ (omega (arith, few, wide))
            refl tell
            (filled_at slot (bundle_page slot page ∷ slot_all holding_slot slot (holdings r)) (holdings r)
            (holdings (having_done r (action.Gather slot page))) fills),
      )) refl (subst (λ b. Fills slot (new_page k slot page ∷ slot_all holding_slot slot (holdings r)) (holdings r)
      (holdings (having_done r b))) is fills)
      (subst (λ b. held_slots most_slots (holdings (having_done r b)) + count_of (holding_at (holdings r) slot)
      ≡ held_slots most_slots (holdings r) + 1) is counts))
    where
      by_hold : (o : Option Holding) (n m : ℕ) → m + count_of o ≡ n + 1
          → (if is_some (option_map hold_of o) then n else n + 1) ≡ m
      by_hold None n m e = omega (arith, e)
      by_hold (Some h) n m e = omega (arith, e)

      gathered_count : (xs : List (Option Hold)) (n slot page : ℕ) → Tell xs (holdings r)
          → n ≡ held_slots most_slots (holdings r)
          → held_slots most_slots (holdings (having_done r (action.Gather slot page)))
          + count_of (holding_at (holdings r) slot) ≡ held_slots most_slots (holdings r) + 1
          → count_after (action.Gather slot page) xs n
          ≡ held_slots most_slots (holdings (having_done r (action.Gather slot page)))
      gathered_count xs n slot page tell e counts =
          ap (λ (o : Option Hold). if is_some o then n else n + 1) (tell slot)
          ∙ by_hold (holding_at (holdings r) slot) n
          (held_slots most_slots (holdings (having_done r (action.Gather slot page)))) (omega (arith, counts, e))

  pub fix_follow : (slot page : ℕ) → IsAsked s w r (fixes (asked_by r) slot page)
      → SlotsFollow r (fixes (asked_by r) slot page)
  fix_follow slot page asked =
      let finds = steps.fix_finds s st.reached w r slot page asked in
      goes_in (asked_by r) slot page (fixes (asked_by r) slot page) refl finds.few
      (steps.fix_holds s st.reached w r slot page asked) finds.empty (steps.fix_slots s st.reached w r slot page asked)

  pub load_follow : (slot page : ℕ) → IsAt s w r (reading slot page) → SlotsFollow r (fixes (asked_by r) slot page)
  load_follow slot page at =
      let finds = steps.reading_finds s st.reached w r slot page at in
      goes_in (asked_by r) slot page (fixes (asked_by r) slot page) refl finds.few
      (steps.loaded_holds s st.reached w r slot page at) finds.empty (steps.loaded_slots s st.reached w r slot page at)

  pub unfix_follow : (slot : ℕ) → IsAsked s w r (action.Unfix slot) → SlotsFollow r (action.Unfix slot)
  unfix_follow slot asked xs n wide tell e =
      let finds = steps.unfix_finds s st.reached w r slot asked in
      let few = found_few slot finds.0 asked.at.seat finds.1.found in (
        omega (arith, e, steps.unfix_slots s st.reached w r slot asked),
        tell_set xs (holdings r) (holdings (having_done r (action.Unfix slot))) slot None None (omega
            (arith, few, wide)) refl tell
            (filled_at slot [] (holdings r) (holdings (having_done r (action.Unfix slot)))
            (steps.unfix_holds s st.reached w r slot asked)),
      )

  pub scatter_follow : (slot : ℕ) → IsAsked s w r (action.Scatter slot) → SlotsFollow r (action.Scatter slot)
  scatter_follow slot asked xs n wide tell e =
      let few = asks_low s st.reached w r (action.Scatter slot) asked.at.seat (ap given_back asked.at.stage)
      (steps.asks_it s st.reached w r (action.Scatter slot) asked) in (
        omega (arith, e, steps.scatter_slots s st.reached w r slot asked),
        tell_set xs (holdings r) (holdings (having_done r (action.Scatter slot))) slot None None (omega
            (arith, few, wide)) refl tell
            (filled_at slot [] (holdings r) (holdings (having_done r (action.Scatter slot)))
            (steps.scatter_holds s st.reached w r slot asked)),
      )

  pub latch_follow : (slot : ℕ) (m : Mode) → IsAsked s w r (action.Latch slot m) → SlotsFollow r (action.Latch slot m)
  latch_follow slot m asked xs n wide tell e =
      let finds = steps.latch_finds s st.reached w r slot m asked in
      let few = found_few slot finds.0 asked.at.seat finds.1.found in (
        omega (arith, e, steps.latch_slots s st.reached w r slot m asked),
        tell_as xs (holdings r) (holdings (having_done r (action.Latch slot m))) slot finds.0 _ (omega
            (arith, few, wide)) finds.1.found tell
            (steps.latch_holds s st.reached w r slot m asked finds.0 finds.1.found),
      )

  pub unlatch_follow : (slot : ℕ) → IsAsked s w r (action.Unlatch slot) → SlotsFollow r (action.Unlatch slot)
  unlatch_follow slot asked xs n wide tell e =
      let finds = steps.unlatch_finds s st.reached w r slot asked in
      let few = found_few slot finds.0 asked.at.seat finds.1.found in (
        omega (arith, e, steps.unlatch_slots s st.reached w r slot asked),
        tell_as xs (holdings r) (holdings (having_done r (action.Unlatch slot))) slot finds.0 _ (omega
            (arith, few, wide)) finds.1.found tell
            (steps.unlatch_holds s st.reached w r slot asked finds.0 finds.1.found),
      )

  pub choose_follow : (i : ℕ) → IsAsked s w r (action.Choose i) → SlotsFollow r (action.Choose i)
  choose_follow i asked xs n wide tell e =
      let same = steps.choose_holds s st.reached w r i asked in
      (e ∙ ap (held_slots most_slots) (sym same), subst (Tell xs) (sym same) tell)
