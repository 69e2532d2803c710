-- Unwind, where it is done and where not: what the core's calls need, and that its parts stand for the next state.
use Rattle.std.proofs.Common.{◌≡◌, ◌∙◌, ℕ, ◌+◌, ◌-◌, ◌<◌, true, false, Option, Some, None, List, [], ◌∷◌, refl, sym, ap}
use Rattle.std.proofs.Common.{subst, arith}
use Rattle.std.specs.Prelude.{slice_get, slice_set, option_map, length, is_none}
use Rattle.pp_cert.specs.declared.note.Held.{Held}
use Rattle.pp_cert.specs.declared.note.Held.TheVariants.{Free, S, X}
use Rattle.pp_cert.specs.Accepted.{Acceptance}
use Rattle.pp_cert.specs.Held.{Holding, Holdings, holding_slot, holding_at}
use Rattle.pp_cert.proofs.Slots.{first_of, slot_all, get_first}
use Rattle.pp_bundles.specs.Bundles.{with_pages}
use Rattle.pp_frames.specs.Marks as map
use Rattle.pp_frames.specs.Marks.{PageMap}
use Rattle.pp_model.specs.declared.moves.Move.TheVariants as move
use Rattle.pp_model.specs.declared.reply.Reply.{Reply}
use Rattle.pp_model.specs.declared.reply.Reply.TheVariants.{Did, OffPlan}
use Rattle.pp_model.specs.declared.refusals.Cause.TheVariants.{NotLeaving, NotHeld}
use Rattle.pp_model.specs.Pool.{Stage, acting, writing, reading, leaving, Running, State}
use Rattle.pp_model.specs.Pool.{mark_at as mark_in_state}
use Rattle.pp_model.specs.Holders.{holdings, is_in_flight}
use Rattle.pp_model.specs.Budget.{running_peaks, bound}
use Rattle.pp_model.specs.Marks.{marks}
use Rattle.pp_model.specs.Outcome.{Outcome, at_stage, with_stage}
use Rattle.pp_model.specs.Outcome.{released as released_state}
use Rattle.pp_model.specs.Moves.{outcome_of}
use Rattle.pp_model.specs.Leaving.{unwound, unwind_by, unwind_in, unwind_where}
use Rattle.pp_model.specs.Reached.{IsReached}
use Rattle.pp_model.proofs.Changes.{IsAt}
use Rattle.pp_model.proofs.HoldingSteps as steps
use Rattle.pp_model.proofs.MarkSteps as marked
use Rattle.pp_model.proofs.BoundSteps as numbers
use Rattle.pp_model.proofs.FlightSteps as flights
use Rattle.pp_model.proofs.ChangeTotals as totals
use Rattle.pp_model.proofs.KeptSlots.{AreBundled, filled_at}
use Rattle.pp_model.proofs.MarkChanges.{Reseated}
use Rattle.pp_model.proofs.Seats.{good}
use Rattle.pp_core.specs.declared.seat.Phase.{Phase}
use Rattle.pp_core.specs.declared.seat.Phase.TheVariants.{Leaving}
use Rattle.pp_core.specs.declared.seat.Seat.{Seat}
use Rattle.pp_core.specs.declared.seat.Hold.{Hold}
use Rattle.pp_core.specs.Slots.{hold_at, hold_of}
use Rattle.pp_core.specs.Parts.{Parts}
use Rattle.pp_core.specs.StandsFor.{FitsStage, FitsRunning, FitsSeat, FitsCrew, StandsFor, IsKept, Moves}
use Rattle.pp_core.specs.Effects.{phase_of, IsIn, mark_at, released, unpinned, IsLatched, unpinned_all, CanUnpinAll, bundle_pages}
use Rattle.pp_core.specs.Gathered.{bundle_place, BundlesFit}
use Rattle.pp_core.specs.LeaveEffects.{is_leaving, emptied, CanGiveBack, given_back, CanGiveAllBack, all_given_back}
use Rattle.pp_core.proofs.Crew.{set_length, seat_from, seat_set}
use Rattle.pp_core.proofs.Asking.{both}
use Rattle.pp_core.proofs.SlotTies.{tell_set}
use Rattle.pp_core.proofs.Gathered.{bundles_stay, bundles_set, place_low, place_fits, unwound_own, unwound_bundle}
use Rattle.pp_core.proofs.SlotKinds.{lone, bundle_alone, none_latched, stack_told}
use Rattle.pp_core.proofs.Unpinned.{pages_of, can_go, marks_after}
use Rattle.std.proofs.lemmas.Option.{slice_get_within}
use Rattle.pp_core.proofs.Ties.{Leads, moves_by, refuses, SameRest, stands_on}
use Rattle.pp_core.proofs.ActTies.{IsOnPlan}
use Rattle.pp_core.proofs.UsingMoves.{mark_told, mark_room, page_low}
use Rattle.pp_core.proofs.LeaveMoves.{phase_in, stage_stays, Leaver, leaver}

-- ---- workers that don't leave

-- Such a worker can't unwind.
unwind_elsewhere : (s : State) (w slot : ℕ) (r : Running) (g : Stage) → IsOnPlan g
    → unwind_in s w slot r g ≡ record { reply = OffPlan NotLeaving; state = s }
unwind_elsewhere s w slot r acting on = refl
unwind_elsewhere s w slot r (writing x page v) on = refl
unwind_elsewhere s w slot r (reading x page) on = refl
unwind_elsewhere s w slot r (leaving given) on = absurd on

unwind_idle : (ps : List Acceptance) (s : State) (w slot : ℕ) (y : Option Running) → FitsSeat ps None y
    → unwind_by s w slot (Some y) ≡ record { reply = OffPlan NotLeaving; state = s }
unwind_idle ps s w slot None h = refl
unwind_idle ps s w slot (Some r) h = absurd h

module _ (f : Parts) (w slot : ℕ) where
  stays_by : (o : Option (Option Seat)) → slice_get f.seats w ≡ o → is_none (phase_in o) ≡ false
      → is_leaving (phase_in o) ≡ false → (s : State) → StandsFor f s
      → outcome_of s (move.Unwind w slot) ≡ record { reply = OffPlan NotLeaving; state = s }
  stays_by None e some stays s st = cc
  stays_by (Some None) e some stays s st =
      let there = seat_from f.plans f.seats s.seats w None st.seats e in
      ap (unwind_by s w slot) there.1 ∙ unwind_idle f.plans s w slot there.0 there.2
  stays_by (Some (Some x)) e some stays s st =
      let two = both f s w x st e in
      ap (unwind_by s w slot) two.there
      ∙ unwind_elsewhere s w slot two.running two.running.stage
      (stage_stays x.phase two.running.stage stays two.fits.phase)

  pub not_leaving : is_none (phase_of f w) ≡ false → is_leaving (phase_of f w) ≡ false
      → Moves f (move.Unwind w slot) (OffPlan NotLeaving) f
  not_leaving some stays =
      refuses f (move.Unwind w slot) (OffPlan NotLeaving) (stays_by (slice_get f.seats w) refl some stays)

-- ---- what the slot holds

-- Where the core's slot holds nothing, so does the worker's.
unheld_by : (o : Option Holding) → option_map hold_of o ≡ None → o ≡ None
unheld_by None e = refl
unheld_by (Some k) e = cc

-- The holding behind what the slot holds.
abbrev Behind : Option Holding → Hold → Type 0
Behind o x = (k : Holding) × (o ≡ Some k) × (hold_of k ≡ x)

held_by : (o : Option Holding) (x : Hold) → option_map hold_of o ≡ Some x → Behind o x
held_by None x e = cc
held_by (Some k) x e = (k, refl, cc)

-- ---- marks without the slot's latch

-- The page was latched so, and a mark can be raised.
latched_so : (s : State) (w slot : ℕ) (r : Running) (given : List ℕ) (k : Holding) (u : Held) → IsReached s
    → IsAt s w r (leaving given) → holding_at (holdings r) slot ≡ Some k
    → slot_all holding_slot slot (holdings r) ≡ k ∷ [] → k.held ≡ u → IsLatched u (marks s) k.page
latched_so s w slot r given k Free h at found alone e = tt
latched_so s w slot r given k S h at found alone e = marked.unwind_shared s h w r slot given k at alone e
latched_so s w slot r given k X h at found alone e =
    let told = mark_told s k.page (page_low s w slot r k h at.seat found) in (
      marked.unwind_exclusive s h w r slot given k at alone e,
      marked.unwind_low s h w r slot given k at alone,
      omega (arith, told, mark_room s h k.page),
    )

-- Without its latch the page has more pins than latches, and without the pin as well the marks are those of the next
-- state.
pub record Without (s t : State) (page : ℕ) (m : PageMap) : Type 0 where
  pub spare : map.latch_count (map.latches_of m page) < map.pins_of m page
  pub marks_are : marks t ≡ unpinned m page

-- The mark that is raised is the state's.
changed_told : (s : State) (page : ℕ) → page < length s.notes → (m : PageMap)
    → map.with_stamp m page (Some (mark_in_state s page + 1))
    ≡ map.with_stamp m page (Some (mark_at (marks s) page + 1))
changed_told s page low m = ap (λ (n : ℕ). map.with_stamp m page (Some (n + 1))) (sym (mark_told s page low))

without : (s : State) (w slot : ℕ) (r : Running) (given : List ℕ) (k : Holding) (u : Held) → IsReached s
    → IsAt s w r (leaving given) → holding_at (holdings r) slot ≡ Some k
    → slot_all holding_slot slot (holdings r) ≡ k ∷ [] → k.held ≡ u
    → Without s (with_stage (released_state s k.held k.page) w r (leaving (slot ∷ given))) k.page
    (released u (marks s) k.page)
without s w slot r given k Free h at found alone e = record {
  spare = marked.unwind_free_spares s h w r slot given k at alone e;
  marks_are = marked.unwind_free_marks s h w r slot given k at alone e;
}
without s w slot r given k S h at found alone e = record {
  spare = marked.unwind_shared_spares s h w r slot given k at alone e;
  marks_are = marked.unwind_shared_marks s h w r slot given k at alone e;
}
without s w slot r given k X h at found alone e =
    let t = with_stage (released_state s k.held k.page) w r (leaving (slot ∷ given)) in
    let low = page_low s w slot r k h at.seat found in
    subst (Without s t k.page) (changed_told s k.page low _) (record {
      spare = marked.unwind_exclusive_spares s h w r slot given k at alone e;
      marks_are = marked.unwind_exclusive_marks s h w r slot given k at alone e;
    })

-- ---- a bundle

first_free : (hs : Holdings) (k : Holding) → AreBundled hs → first_of hs ≡ Some k → k.held ≡ Free
first_free [] k all found = cc
first_free (y ∷ ys) k all found = let same : y ≡ k = cc in ap (λ x. x.held) (sym same) ∙ all.0.free

-- ---- the worker without the slot

-- The seat with the slot empty fits the worker that gave the slot back.
emptied_fits : (ps : List Acceptance) (s : State) (w slot : ℕ) (x : Seat) (r : Running) (given : List ℕ) (k : Holding) → IsReached s
    → FitsRunning ps x r → x.phase ≡ Leaving → IsAt s w r (leaving given) → holding_at (holdings r) slot ≡ Some k
    → FitsRunning ps (emptied slot x) (at_stage r (leaving (slot ∷ given)))
emptied_fits ps s w slot x r given k h fits phase at found =
    let y = at_stage r (leaving (slot ∷ given)) in
    let few = (steps.slots_are_within s h w r at.seat slot k found).few in
    record {
      number = fits.number;
      plan = fits.plan;
      cursor = fits.cursor;
      ask = fits.ask;
      actions = fits.actions;
      holds = omega (arith, fits.holds, steps.unwind_slots s h w r slot given k at found);
      width = set_length x.slots slot None ∙ fits.width;
      slots = tell_set x.slots (holdings r) (holdings y) slot None None (omega (arith, few, fits.width)) refl fits.slots
          (filled_at slot [] (holdings r) (holdings y) (steps.unwind_holds s h w r slot given at));
      phase = subst (λ (p : Phase). FitsStage p (leaving (slot ∷ given))) (sym phase) tt;
    }

-- What stays where a slot is given back.
same_rest : (s : State) (u : Held) (page w : ℕ) (r : Running) (g : Stage)
    → ((q : ℕ) → is_in_flight (with_stage (released_state s u page) w r g) q ≡ is_in_flight s q)
    → SameRest s (with_stage (released_state s u page) w r g)
same_rest s Free page w r g flight = record {
  settings = refl;
  plans = refl;
  taken = refl;
  lists = refl;
  notes = refl;
  flush = refl;
  flushes_left = refl;
  in_flight = flight;
}
same_rest s S page w r g flight = record {
  settings = refl;
  plans = refl;
  taken = refl;
  lists = refl;
  notes = refl;
  flush = refl;
  flushes_left = refl;
  in_flight = flight;
}
same_rest s X page w r g flight = record {
  settings = refl;
  plans = refl;
  taken = refl;
  lists = refl;
  notes = set_length s.notes page _;
  flush = refl;
  flushes_left = refl;
  in_flight = flight;
}

-- No seat changes as a latch goes.
seats_stay : (s : State) (u : Held) (page : ℕ) → (released_state s u page).seats ≡ s.seats
seats_stay s Free page = refl
seats_stay s S page = refl
seats_stay s X page = refl

-- ---- unwind

module _ (f : Parts) (w slot : ℕ) (leaves : is_leaving (phase_of f w) ≡ true) where
  -- The outcome, by what the slot still holds.
  pub unwind_outcome : (s : State) (l : Leaver f s w)
      → outcome_of s (move.Unwind w slot)
      ≡ unwind_where s w l.running slot l.given (holding_at (holdings l.running) slot)
  unwind_outcome s l = ap (unwind_by s w slot) l.at.seat ∙ ap (unwind_in s w slot l.running) l.at.stage

  pub not_held : ((x : Seat) → IsIn f w x → None ≡ hold_at x.slots slot)
      → Moves f (move.Unwind w slot) (OffPlan NotHeld) f
  not_held told =
      refuses f (move.Unwind w slot) (OffPlan NotHeld) (λ s st.
      let l = leaver f s w st leaves in
      let tells = sym (l.fits.slots slot) ∙ sym (told l.seat l.is_in) in
      let none = unheld_by (holding_at (holdings l.running) slot) tells in
      unwind_outcome s l ∙ ap (unwind_where s w l.running slot l.given) none)

  module _ (held : Hold) (told : (x : Seat) → IsIn f w x → Some held ≡ hold_at x.slots slot) where
    pub behind : (s : State) (l : Leaver f s w) → Behind (holding_at (holdings l.running) slot) held
    behind s l =
        held_by (holding_at (holdings l.running) slot) held (sym (l.fits.slots slot) ∙ sym (told l.seat l.is_in))

    -- The slot has a page of its own.
    module _ (isnt : held.bundled ≡ false) where
      plain : (s : State) (l : Leaver f s w) → (behind s l).0.bundled ≡ false
      plain s l = ap (λ (x : Hold). x.bundled) (behind s l).2 ∙ isnt

      alone_in : (s : State) → IsReached s → (l : Leaver f s w)
          → slot_all holding_slot slot (holdings l.running) ≡ (behind s l).0 ∷ []
      alone_in s h l =
          let b = behind s l in lone s h w l.running l.at.seat slot b.0 b.1 (plain s l)

      pub can_release : IsKept f → IsLatched held.held f.marks held.page
      can_release k =
          let s = k.state in
          let l = leaver f s w k.stands leaves in
          let b = behind s l in
          let here = latched_so s w slot l.running l.given b.0 b.0.held k.stands.reached l.at b.1
          (alone_in s k.stands.reached l) refl in
          subst (λ (m : PageMap). IsLatched held.held m held.page) (sym k.stands.marks)
          (subst (λ (x : Hold). IsLatched x.held (marks s) x.page) b.2 here)

      abbrev freed : PageMap
      freed = released held.held f.marks held.page

      abbrev after : (s : State) → Leaver f s w → Held → ℕ → State
      after s l u page = with_stage (released_state s u page) w l.running (leaving (slot ∷ l.given))

      abbrev outcome_for : (s : State) → Leaver f s w → Hold → Outcome
      outcome_for s l x = record {
        reply = unwound x.held (mark_in_state (released_state s x.held x.page) x.page);
        state = after s l x.held x.page;
      }

      -- The marks of the core without the latch.
      freed_without : (s : State) → StandsFor f s → (l : Leaver f s w)
          → Without s (after s l held.held held.page) held.page freed
      freed_without s st l =
          let b = behind s l in
          let here = without s w slot l.running l.given b.0 b.0.held st.reached l.at b.1 (alone_in s st.reached l) refl in
          subst (λ (m : PageMap). Without s (after s l held.held held.page) held.page (released held.held m held.page))
          (sym st.marks)
          (subst (λ (x : Hold). Without s (after s l x.held x.page) x.page (released x.held (marks s) x.page)) b.2 here)

      -- The bound falls by one.
      unwind_falls : (s : State) → IsReached s → (l : Leaver f s w) → bound (after s l held.held held.page) + 1 ≡ bound s
      unwind_falls s h l =
          let b = behind s l in
          subst (λ (x : Hold). bound (after s l x.held x.page) + 1 ≡ bound s) b.2
          (numbers.unwind_bound s h w l.running slot l.given b.0 l.at b.1)

      pub can_give : IsKept f → CanGiveBack (record f { marks = freed }) w slot held.page
      can_give k =
          let s = k.state in
          let st = k.stands in
          let l = leaver f s w st leaves in
          let b = behind s l in
          let few = (steps.slots_are_within s st.reached w l.running l.at.seat slot b.0 b.1).few in
          let some = steps.unwind_slots s st.reached w l.running slot l.given b.0 l.at b.1 in
          record {
            can = record {
              seat = l.seat;
              is_in = l.is_in;
              width = l.fits.width;
              few = few;
              some = omega (arith, l.fits.holds, some);
            };
            spare = (freed_without s st l).spare;
            budget = omega (arith, st.budget, unwind_falls s st.reached l);
          }

      pub unwind_moves : (g : Parts) (reply : Reply)
          → ((x : Seat) → IsIn f w x → g ≡ given_back (record f { marks = freed }) w x slot held.page)
          → reply ≡ unwound held.held (mark_at g.marks held.page) → Moves f (move.Unwind w slot) reply g
      unwind_moves g reply gives replied = moves_by f g (move.Unwind w slot) reply leads
        where
          leads : (s : State) → StandsFor f s → Leads f s (move.Unwind w slot) reply g
          leads s st =
              let h = st.reached in
              let l = leaver f s w st leaves in
              let r = l.running in
              let b = behind s l in
              let u = held.held in
              let page = held.page in
              let y = leaving (slot ∷ l.given) in
              let t = after s l u page in
              let is_g = gives l.seat l.is_in in
              let low : page < length s.notes =
              subst (λ (x : Hold). x.page < length s.notes) b.2 (page_low s w slot r b.0 h l.at.seat b.1) in
              let rest = same_rest s u page w r y
              (subst (λ (x : Hold). (q : ℕ) → is_in_flight (after s l x.held x.page) q ≡ is_in_flight s q) b.2
              (flights.unwind_flight s h w r slot l.given b.0 l.at b.1)) in
              let without_it = freed_without s st l in
              let marks_are : unpinned freed page ≡ marks t = sym without_it.marks_are in
              let mark : mark_at g.marks page ≡ mark_in_state t page =
              ap (λ (z : Parts). mark_at z.marks page) is_g ∙ ap (λ (m : PageMap). mark_at m page) marks_are
              ∙ mark_told t page (omega (arith, low, rest.notes)) in
              let xs = slice_set f.seats w (Some (emptied slot l.seat)) in
              let ys : List (Option Running) → List (Option Running) = λ zs. slice_set zs w (Some (at_stage r y)) in
              let crew : FitsCrew f.plans xs (ys s.seats) =
              seat_set f.plans f.seats s.seats w (Some (emptied slot l.seat)) (Some (at_stage r y)) st.seats
              (emptied_fits f.plans s w slot l.seat r l.given b.0 h l.fits l.phase l.at b.1) in
              let peaks = subst (λ (x : Hold). running_peaks (after s l x.held x.page) ≡ running_peaks s) b.2
              (numbers.unwind_peaks s h w r slot l.given b.0 l.at) in
              let budget : f.budget - 1 ≡ bound t = omega (arith, st.budget, unwind_falls s h l) in
              let bundles = bundles_stay f.bundles s t w (Some r) (Some (at_stage r y)) st.bundles l.at.seat
              (ap ys (seats_stay s u page)) rest.settings
              (unwound_own r slot l.given b.0 l.at.stage (alone_in s h l) (plain s l)) in
              record {
                after = record { reply = unwound u (mark_in_state t page); state = t };
                is = unwind_outcome s l ∙ ap (unwind_where s w r slot l.given) b.1
                    ∙ ap (outcome_for s l) b.2;
                replies = replied ∙ ap (unwound u) mark;
                plans = ap (λ (z : Parts). z.plans) is_g;
                stands = λ reached. subst (λ (z : Parts). StandsFor z t) (sym is_g)
                    (stands_on f s t xs (unpinned freed page) f.bundles f.running (f.budget - 1) st reached rest
                    (subst (λ (zs : List (Option Running)). FitsCrew f.plans xs (ys zs)) (sym (seats_stay s u page)) crew)
                    marks_are bundles (st.running ∙ sym peaks) budget);
              }

    -- The slot has a bundle: all its pages go.
    module _ (is : held.bundled ≡ true) where
      record Goes (s : State) (st : StandsFor f s) (l : Leaver f s w) : Type 0 where
        few : slot < 32
        free : (behind s l).0.held ≡ Free
        pages : bundle_pages f w slot ≡ pages_of (slot_all holding_slot slot (holdings l.running))
        spare : CanUnpinAll (pages_of (slot_all holding_slot slot (holdings l.running))) (marks s)
        marks_are : unpinned_all (pages_of (slot_all holding_slot slot (holdings l.running))) (marks s)
            ≡ marks (with_stage s w l.running (leaving (slot ∷ l.given)))
        bundles : BundlesFit (with_pages f.bundles (bundle_place w slot) [])
            (with_stage s w l.running (leaving (slot ∷ l.given)))

      goes : (s : State) (st : StandsFor f s) (l : Leaver f s w) → Goes s st l
      goes s st l =
          let h = st.reached in
          let r = l.running in
          let b = behind s l in
          let y = leaving (slot ∷ l.given) in
          let t = with_stage s w r y in
          let out = slot_all holding_slot slot (holdings r) in
          let few = (steps.slots_are_within s h w r l.at.seat slot b.0 b.1).few in
          let all = bundle_alone s h w r l.at.seat slot b.0 b.1 (ap (λ (x : Hold). x.bundled) b.2 ∙ is) in
          let totals_are = totals.unwound_totals s t w r (good s h) slot l.given l.at refl in
          let rest : Reseated s t = record { settings = refl; notes = refl } in
          record {
            few = few;
            free = first_free out b.0 all (sym (get_first holding_slot slot (holdings r)) ∙ b.1);
            pages = stack_told f s w slot r st l.at.seat few all;
            spare = can_go s t h out (none_latched out all) totals_are rest;
            marks_are = marks_after s t h out (none_latched out all) totals_are rest;
            bundles = bundles_set f.bundles s t w (Some r) (Some (at_stage r y)) st.bundles l.at.seat refl refl slot []
                few (unwound_bundle r slot l.given l.at.stage all);
          }

      -- The state after it: a bundle's page isn't latched.
      after_bundle : (s : State) (st : StandsFor f s) (l : Leaver f s w)
          → outcome_of s (move.Unwind w slot)
          ≡ record { reply = Did; state = with_stage s w l.running (leaving (slot ∷ l.given)) }
      after_bundle s st l =
          let b = behind s l in
          unwind_outcome s l ∙ ap (unwind_where s w l.running slot l.given) b.1
          ∙ ap (λ (u : Held). record {
            reply = unwound u (mark_in_state (released_state s u b.0.page) b.0.page);
            state = with_stage (released_state s u b.0.page) w l.running (leaving (slot ∷ l.given));
          }) (goes s st l).free

      falls : (s : State) (st : StandsFor f s) (l : Leaver f s w)
          → bound (with_stage s w l.running (leaving (slot ∷ l.given))) + 1 ≡ bound s
      falls s st l =
          let b = behind s l in
          subst (λ (u : Held). bound (with_stage (released_state s u b.0.page) w l.running (leaving (slot ∷ l.given))) + 1
          ≡ bound s) (goes s st l).free
          (numbers.unwind_bound s st.reached w l.running slot l.given b.0 l.at b.1)

      pub can_give_all : IsKept f → CanGiveAllBack f w slot
      can_give_all k =
          let s = k.state in
          let st = k.stands in
          let l = leaver f s w st leaves in
          let b = behind s l in
          let g = goes s st l in
          let some = steps.unwind_slots s st.reached w l.running slot l.given b.0 l.at b.1 in
          record {
            can = record {
              seat = l.seat;
              is_in = l.is_in;
              width = l.fits.width;
              few = g.few;
              some = omega (arith, l.fits.holds, some);
            };
            place = omega (
              arith,
              st.bundles.places,
              place_low w slot (length s.seats) (slice_get_within s.seats w (Some l.running) l.at.seat) g.few,
            );
            fits = place_fits s st.reached w l.running slot l.at.seat g.few;
            spare = subst (λ (m : PageMap). CanUnpinAll (bundle_pages f w slot) m) (sym st.marks)
                (subst (λ ps. CanUnpinAll ps (marks s)) (sym g.pages) g.spare);
            budget = omega (arith, st.budget, falls s st l);
          }

      pub unwind_all_moves : (g : Parts) → ((x : Seat) → IsIn f w x → g ≡ all_given_back f w x slot)
          → Moves f (move.Unwind w slot) Did g
      unwind_all_moves g gives = moves_by f g (move.Unwind w slot) Did leads
        where
          leads : (s : State) → StandsFor f s → Leads f s (move.Unwind w slot) Did g
          leads s st =
              let h = st.reached in
              let l = leaver f s w st leaves in
              let r = l.running in
              let b = behind s l in
              let y = leaving (slot ∷ l.given) in
              let t = with_stage s w r y in
              let all = goes s st l in
              let is_g = gives l.seat l.is_in in
              let flight = subst (λ (u : Held). (q : ℕ) → is_in_flight (with_stage (released_state s u b.0.page) w r y) q
              ≡ is_in_flight s q) all.free (flights.unwind_flight s h w r slot l.given b.0 l.at b.1) in
              let rest = same_rest s Free b.0.page w r y flight in
              let marks_are : unpinned_all (bundle_pages f w slot) f.marks ≡ marks t =
              ap (λ (m : PageMap). unpinned_all (bundle_pages f w slot) m) st.marks
              ∙ ap (λ ps. unpinned_all ps (marks s)) all.pages ∙ all.marks_are in
              let xs = slice_set f.seats w (Some (emptied slot l.seat)) in
              let crew : FitsCrew f.plans xs t.seats =
              seat_set f.plans f.seats s.seats w (Some (emptied slot l.seat)) (Some (at_stage r y)) st.seats
              (emptied_fits f.plans s w slot l.seat r l.given b.0 h l.fits l.phase l.at b.1) in
              let peaks = subst (λ (u : Held). running_peaks (with_stage (released_state s u b.0.page) w r y)
              ≡ running_peaks s) all.free (numbers.unwind_peaks s h w r slot l.given b.0 l.at) in
              let budget : f.budget - 1 ≡ bound t = omega (arith, st.budget, falls s st l) in
              record {
                after = record { reply = Did; state = t };
                is = after_bundle s st l;
                replies = refl;
                plans = ap (λ (z : Parts). z.plans) is_g;
                stands = λ reached. subst (λ (z : Parts). StandsFor z t) (sym is_g)
                    (stands_on f s t xs (unpinned_all (bundle_pages f w slot) f.marks)
                    (with_pages f.bundles (bundle_place w slot) []) f.running (f.budget - 1) st reached rest crew
                    marks_are all.bundles (st.running ∙ sym peaks) budget);
              }

-- The slot is given back after the latch went off the page.
pub given_after : (f mid g : Parts) (m : PageMap) (w slot page : ℕ) → mid ≡ record f { marks = m }
    → ((x : Seat) → IsIn mid w x → g ≡ given_back mid w x slot page) → (x : Seat) → IsIn f w x
    → g ≡ given_back (record f { marks = m }) w x slot page
given_after f mid g m w slot page e gives =
    subst (λ (z : Parts). (x : Seat) → IsIn z w x → g ≡ given_back z w x slot page) e gives
