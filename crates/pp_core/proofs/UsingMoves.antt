-- Unfix, latch, unlatch and choose, where they are done: what the core's calls need, and that its parts stand for the
-- next state.
use Rattle.std.proofs.Common.{◌≡◌, ◌∙◌, ℕ, ◌+◌, ◌-◌, ◌<◌, ◌≤◌, ◌^◌, Bool, true, false, Option, Some, None, List, refl}
use Rattle.std.proofs.Common.{sym, ap}
use Rattle.std.proofs.Common.{subst, arith}
use Rattle.std.specs.Prelude.{slice_set, option_map, unwrap_or, length}
use Rattle.pp_plan.specs.declared.mode.Mode.{Mode}
use Rattle.pp_plan.specs.declared.mode.Mode.TheVariants as mode
use Rattle.pp_plan.specs.declared.action.Action.{Action}
use Rattle.pp_plan.specs.declared.action.Action.TheVariants as action
use Rattle.pp_plan.specs.declared.action.Ask.{Ask}
use Rattle.pp_plan.specs.declared.action.Ask.TheVariants as ask
use Rattle.pp_cert.specs.declared.note.Held.{Held}
use Rattle.pp_cert.specs.declared.note.Held.TheVariants.{Free}
use Rattle.pp_cert.specs.Held.{Holding, holding_slot, holding_at}
use Rattle.pp_frames.specs.Marks as map
use Rattle.pp_frames.specs.declared.mode.Mode.TheVariants as latch_mode
use Rattle.pp_frames.specs.Marks.{PageMap, PageMarks}
use Rattle.pp_model.specs.declared.moves.Move.TheVariants as move
use Rattle.pp_model.specs.declared.reply.Reply.TheVariants.{Did, Latched, NotNow, OffPlan}
use Rattle.pp_model.specs.declared.refusals.Delay.TheVariants.{LatchHeld}
use Rattle.pp_model.specs.declared.refusals.Cause.TheVariants.{NotAsked}
use Rattle.pp_model.specs.Pool.{acting, Running, State, known_mark, mark_at}
use Rattle.pp_model.specs.Holders.{given_back, holdings, page_in, held_in}
use Rattle.pp_model.specs.Budget.{running_peaks, bound, left_to}
use Rattle.pp_model.proofs.Sums.{sum_by-term}
use Rattle.pp_model.proofs.Falls.{left_at}
use Rattle.pp_model.specs.Marks.{marks}
use Rattle.pp_model.specs.Outcome.{having_done, did, off_plan}
use Rattle.pp_model.specs.Moves.{asked_by, seat_of, outcome_of}
use Rattle.pp_model.specs.Reached.{IsReached}
use Rattle.pp_model.specs.Using.{unfix_asked, goes_with, latch_asked, latch_where}
use Rattle.pp_model.proofs.HoldingSteps as steps
use Rattle.pp_model.proofs.Framed.{notes_length}
use Rattle.pp_model.proofs.MarkChanges.{latches_told}
use Rattle.pp_model.proofs.MarkParts.{marks_is}
use Rattle.pp_model.proofs.MarkBounds.{marks_are_small}
use Rattle.pp_model.proofs.Spans.{events_small}
use Rattle.pp_model.proofs.MarkSteps.{latch_mode_of}
use Rattle.pp_model.proofs.Changes.{IsAsked}
use Rattle.pp_model.proofs.MarkSteps as marked
use Rattle.pp_model.proofs.BoundSteps as numbers
use Rattle.pp_model.proofs.FlightSteps as flights
use Rattle.pp_core.specs.declared.seat.Seat.{Seat}
use Rattle.pp_core.specs.declared.seat.Hold.{Hold}
use Rattle.pp_core.specs.Slots.{hold_of}
use Rattle.pp_core.specs.Parts.{Parts}
use Rattle.pp_core.specs.StandsFor.{FitsCrew, StandsFor, IsKept, Moves, Asks}
use Rattle.pp_core.specs.Effects.{IsIn, IsPageIn, IsHeldIn, CanUnfix, CanScatter, CanSpend, Spent, unpinned}
use Rattle.pp_core.specs.Effects.{unpinned_all, CanUnpinAll, bundle_pages}
use Rattle.pp_core.specs.Effects.{mark_at as mark_in}
use Rattle.pp_core.proofs.Ties.{Leads, moves_by, refuses, acted_outcome, is_asked, SameRest, stands_on}
use Rattle.pp_core.proofs.ActTies.{kept, can_act, acted_crew, IsDue, SlotsFollow, acting_on}
use Rattle.pp_core.proofs.ActTies.{unfix_due, scatter_due, latch_due}
use Rattle.pp_core.proofs.ActTies.{unfix_follow, scatter_follow, latch_follow}
use Rattle.pp_core.specs.Effects.{stacks_after}
use Rattle.pp_core.proofs.Gathered.{asked_bundles, asks_low, place_low, place_fits}
use Rattle.pp_core.proofs.SlotKinds.{stack_told}
use Rattle.pp_core.proofs.Unpinned.{pages_of, can_go, marks_after}
use Rattle.std.proofs.lemmas.Option.{slice_get_within}
use Rattle.pp_cert.proofs.Slots.{slot_all}
use Rattle.pp_model.proofs.ChangeTotals as totals
use Rattle.pp_model.proofs.MarkChanges.{Reseated}
use Rattle.pp_model.proofs.Seats.{good}

-- ---- slots

same_page : (o : Option Holding)
    → unwrap_or (option_map (λ (h : Hold). h.page) (option_map hold_of o)) 0 ≡ unwrap_or (option_map (λ h. h.page) o) 0
same_page None = refl
same_page (Some h) = refl

same_held : (o : Option Holding)
    → unwrap_or (option_map (λ (h : Hold). h.held) (option_map hold_of o)) Free
    ≡ unwrap_or (option_map (λ h. h.held) o) Free
same_held None = refl
same_held (Some h) = refl

pub page_is : (f : Parts) (s : State) (w slot page : ℕ) (r : Running) → StandsFor f s → seat_of s w ≡ Some (Some r)
    → IsPageIn f w slot page → page ≡ page_in r slot
page_is f s w slot page r st e told =
    let k = kept f s w r st e in
    told k.seat k.is_in
    ∙ ap (λ (o : Option Hold). unwrap_or (option_map (λ (h : Hold). h.page) o) 0) (k.fits.slots slot)
    ∙ same_page (holding_at (holdings r) slot)

pub held_is : (f : Parts) (s : State) (w slot : ℕ) (held : Held) (r : Running) → StandsFor f s
    → seat_of s w ≡ Some (Some r) → IsHeldIn f w slot held → held ≡ held_in r slot
held_is f s w slot held r st e told =
    let k = kept f s w r st e in
    told k.seat k.is_in
    ∙ ap (λ (o : Option Hold). unwrap_or (option_map (λ (h : Hold). h.held) o) Free) (k.fits.slots slot)
    ∙ same_held (holding_at (holdings r) slot)

-- The worker has a seat.
pub has_seat : (f : Parts) (w : ℕ) (x : Ask) → IsKept f → Asks f w x → (seat : Seat) × IsIn f w seat
has_seat f w x k asks =
    let a = asks k.state k.stands in
    let there = kept f k.state w a.0 k.stands a.1.seat in
    (there.seat, there.is_in)

-- No slot is given back where the plan asks neither an unfix nor a scatter.
no_unfix : (s : State) (w : ℕ) (r : Running) (x : Ask) → ((slot : ℕ) → x ≡ ask.Unfix slot → ⊥)
    → ((slot : ℕ) → x ≡ ask.Scatter slot → ⊥) → unfix_asked s w r x ≡ off_plan s NotAsked
no_unfix s w r (ask.Unfix slot) no_own no_bundle = absurd (no_own slot refl)
no_unfix s w r (ask.Scatter slot) no_own no_bundle = absurd (no_bundle slot refl)
no_unfix s w r (ask.Fix slot region) no_own no_bundle = refl
no_unfix s w r (ask.Latch slot m) no_own no_bundle = refl
no_unfix s w r (ask.Unlatch slot) no_own no_bundle = refl
no_unfix s w r (ask.Gather slot region) no_own no_bundle = refl
no_unfix s w r (ask.Choose n) no_own no_bundle = refl
no_unfix s w r ask.End no_own no_bundle = refl

pub unfix_unasked : (f : Parts) (w : ℕ) (x : Ask) → Asks f w x → ((slot : ℕ) → x ≡ ask.Unfix slot → ⊥)
    → ((slot : ℕ) → x ≡ ask.Scatter slot → ⊥) → Moves f (move.Unfix w) (OffPlan NotAsked) f
unfix_unasked f w x asks no_own no_bundle = refuses f (move.Unfix w) (OffPlan NotAsked) (λ s st.
    let at = asks s st in
    acted_outcome s w at.0 (λ q. unfix_asked s w q (asked_by q)) at.1
    ∙ ap (unfix_asked s w at.0) at.2
    ∙ no_unfix s w at.0 x no_own no_bundle)

-- ---- what an action needs

-- The state that is at hand, and what the plan asks in it.
pub record Asked (f : Parts) (w : ℕ) (a : Action) : Type 0 where
  pub state : State
  pub stands : StandsFor f state
  pub running : Running
  pub asked : IsAsked state w running a

-- Where an action is asked, the bound is 3 at least.
pub asked_bound : (s : State) (w : ℕ) (r : Running) (a : Action) → IsReached s → IsAsked s w r a → 3 ≤ bound s
asked_bound s w r a h asked =
    omega (
      arith,
      sum_by-term left_to s.seats w (Some r) asked.at.seat,
      left_at r acting asked.at.stage,
      numbers.asked_few s h w r a asked,
    )

pub spend_needs : (f : Parts) (w : ℕ) (a : Action) (h : Asked f w a) → IsDue h.running a
    → stacks_after w a f.bundles ≡ f.bundles → CanSpend f w a
spend_needs f w a h due stacks = record {
  can = can_act f h.state w h.running a h.stands h.asked.at.seat h.asked.at.stage due;
  budget = omega (arith, h.stands.budget, asked_bound h.state w h.running a h.stands.reached h.asked);
  stacks = stacks;
}

pub unfix_asked_of : (f : Parts) (w slot : ℕ) → IsKept f → Asks f w (ask.Unfix slot) → Asked f w (action.Unfix slot)
unfix_asked_of f w slot k asks =
    let a = asks k.state k.stands in
    record {
      state = k.state;
      stands = k.stands;
      running = a.0;
      asked = is_asked k.state w a.0 (ask.Unfix slot) (action.Unfix slot) a.1 a.2 refl;
    }

pub can_unfix : (f : Parts) (w slot page : ℕ) → IsKept f → Asks f w (ask.Unfix slot) → IsPageIn f w slot page
    → CanUnfix f w slot page
can_unfix f w slot page k asks told =
    let h = unfix_asked_of f w slot k asks in
    let s = h.state in
    let r = h.running in
    let st = h.stands in
    let spends = spend_needs f w (action.Unfix slot) h (unfix_due f s w r st slot h.asked) refl in
    let at = page_is f s w slot page r st h.asked.at.seat told in
    let spare = marked.unfix_spares s st.reached w r slot h.asked in
    record {
      can = spends.can;
      spare = subst (λ (m : PageMap). map.latch_count (map.latches_of m page) < map.pins_of m page) (sym st.marks)
          (subst (λ (p : ℕ). map.latch_count (map.latches_of (marks s) p) < map.pins_of (marks s) p) (sym at) spare);
      budget = spends.budget;
    }

-- ---- what an action leads to

-- The parts after an action stand for the next state.
pub spent_stands : (f g : Parts) (s t : State) (w : ℕ) (r : Running) (a : Action) (m : PageMap) → StandsFor f s
    → IsReached t → IsAsked s w r a → Spent f g w a m → SlotsFollow r a → SameRest s t
    → t.seats ≡ slice_set s.seats w (Some (having_done r a)) → m ≡ marks t → running_peaks t ≡ running_peaks s
    → bound t + 3 ≡ bound s → StandsFor g t
spent_stands f g s t w r a m st reached asked spent follow same seats marked_so peaks bounded =
    let crew = acted_crew f g s w r a st spent.acted asked.at.seat (acting_on f s w r st a asked) follow in
    let budget : f.budget - 3 ≡ bound t = omega (arith, st.budget, bounded) in
    subst (λ (z : Parts). StandsFor z t) (sym spent.rest)
    (stands_on f s t g.seats m (stacks_after w a f.bundles) f.running (f.budget - 3) st reached same
    (subst (λ (ys : List (Option Running)). FitsCrew f.plans g.seats ys) (sym seats) crew) marked_so
    (asked_bundles f.bundles s t st.reached w r a st.bundles asked.at.seat (ap given_back asked.at.stage)
    (steps.asks_it s st.reached w r a asked) seats same.settings) (st.running ∙ sym peaks) budget)

-- ---- unfix

pub unfix_moves : (f g : Parts) (w slot page : ℕ) → Asks f w (ask.Unfix slot) → IsPageIn f w slot page
    → Spent f g w (action.Unfix slot) (unpinned f.marks page) → Moves f (move.Unfix w) Did g
unfix_moves f g w slot page asks told spent = moves_by f g (move.Unfix w) Did leads
  where
    leads : (s : State) → StandsFor f s → Leads f s (move.Unfix w) Did g
    leads s st =
        let a = asks s st in
        let r = a.0 in
        let d = action.Unfix slot in
        let asked = is_asked s w r (ask.Unfix slot) d a.1 a.2 refl in
        let t = did s w r d in
        let at = page_is f s w slot page r st asked.at.seat told in
        let same : SameRest s t = record {
          settings = refl;
          plans = refl;
          taken = refl;
          lists = refl;
          notes = refl;
          flush = refl;
          flushes_left = refl;
          in_flight = flights.unfix_flight s st.reached w r slot asked;
        } in
        let m : unpinned f.marks page ≡ marks t =
        ap (λ (z : PageMap). unpinned z page) st.marks ∙ ap (unpinned (marks s)) at
        ∙ sym (marked.unfix_marks s st.reached w r slot asked) in
        record {
          after = record { reply = Did; state = t };
          is = acted_outcome s w r (λ q. unfix_asked s w q (asked_by q)) a.1 ∙ ap (unfix_asked s w r) a.2;
          replies = refl;
          plans = ap (λ (z : Parts). z.plans) spent.rest;
          stands = λ reached. spent_stands f g s t w r d (unpinned f.marks page) st reached asked spent
              (unfix_follow f s w r st slot asked) same refl m (numbers.unfix_peaks s st.reached w r slot asked)
              (numbers.unfix_bound s st.reached w r slot asked);
        }

-- ---- scatter

scatter_asked_of : (f : Parts) (w slot : ℕ) → IsKept f → Asks f w (ask.Scatter slot)
    → Asked f w (action.Scatter slot)
scatter_asked_of f w slot k asks =
    let a = asks k.state k.stands in
    record {
      state = k.state;
      stands = k.stands;
      running = a.0;
      asked = is_asked k.state w a.0 (ask.Scatter slot) (action.Scatter slot) a.1 a.2 refl;
    }

-- What goes: the pages of the slot's stack, none of them latched.
record Scatters (f : Parts) (s : State) (w slot : ℕ) (r : Running) : Type 0 where
  few : slot < 32
  pages : bundle_pages f w slot ≡ pages_of (slot_all holding_slot slot (holdings r))
  spare : CanUnpinAll (pages_of (slot_all holding_slot slot (holdings r))) (marks s)
  marks_are : unpinned_all (pages_of (slot_all holding_slot slot (holdings r))) (marks s)
      ≡ marks (did s w r (action.Scatter slot))

scatters : (f : Parts) (s : State) (w slot : ℕ) (r : Running) → StandsFor f s → IsAsked s w r (action.Scatter slot)
    → Scatters f s w slot r
scatters f s w slot r st asked =
    let h = st.reached in
    let d = action.Scatter slot in
    let t = did s w r d in
    let few = asks_low s h w r d asked.at.seat (ap given_back asked.at.stage) (steps.asks_it s h w r d asked) in
    let all = totals.scatter_totals s t w r (good s h) slot asked refl in
    let out = slot_all holding_slot slot (holdings r) in
    let rest : Reseated s t = record { settings = refl; notes = refl } in
    record {
      few = few;
      pages = stack_told f s w slot r st asked.at.seat few (steps.scatter_finds s h w r slot asked).1;
      spare = can_go s t h out all.0 all.1 rest;
      marks_are = marks_after s t h out all.0 all.1 rest;
    }

pub can_scatter : (f : Parts) (w slot : ℕ) → IsKept f → Asks f w (ask.Scatter slot) → CanScatter f w slot
can_scatter f w slot k asks =
    let h = scatter_asked_of f w slot k asks in
    let s = h.state in
    let r = h.running in
    let st = h.stands in
    let goes = scatters f s w slot r st h.asked in
    let due = scatter_due f s w r st slot h.asked in
    record {
      can = can_act f s w r (action.Scatter slot) st h.asked.at.seat h.asked.at.stage due;
      place = omega (
        arith,
        st.bundles.places,
        place_low w slot (length s.seats) (slice_get_within s.seats w (Some r) h.asked.at.seat) goes.few,
      );
      fits = place_fits s st.reached w r slot h.asked.at.seat goes.few;
      spare = subst (λ (m : PageMap). CanUnpinAll (bundle_pages f w slot) m) (sym st.marks)
          (subst (λ ps. CanUnpinAll ps (marks s)) (sym goes.pages) goes.spare);
      budget = omega (arith, st.budget, asked_bound s w r (action.Scatter slot) st.reached h.asked);
    }

pub scatter_moves : (f g : Parts) (w slot : ℕ) → Asks f w (ask.Scatter slot)
    → Spent f g w (action.Scatter slot) (unpinned_all (bundle_pages f w slot) f.marks) → Moves f (move.Unfix w) Did g
scatter_moves f g w slot asks spent = moves_by f g (move.Unfix w) Did leads
  where
    leads : (s : State) → StandsFor f s → Leads f s (move.Unfix w) Did g
    leads s st =
        let a = asks s st in
        let r = a.0 in
        let d = action.Scatter slot in
        let asked = is_asked s w r (ask.Scatter slot) d a.1 a.2 refl in
        let t = did s w r d in
        let goes = scatters f s w slot r st asked in
        let same : SameRest s t = record {
          settings = refl;
          plans = refl;
          taken = refl;
          lists = refl;
          notes = refl;
          flush = refl;
          flushes_left = refl;
          in_flight = flights.scatter_flight s st.reached w r slot asked;
        } in
        let m : unpinned_all (bundle_pages f w slot) f.marks ≡ marks t =
        ap (λ (z : PageMap). unpinned_all (bundle_pages f w slot) z) st.marks
        ∙ ap (λ ps. unpinned_all ps (marks s)) goes.pages ∙ goes.marks_are in
        record {
          after = record { reply = Did; state = t };
          is = acted_outcome s w r (λ q. unfix_asked s w q (asked_by q)) a.1 ∙ ap (unfix_asked s w r) a.2;
          replies = refl;
          plans = ap (λ (z : Parts). z.plans) spent.rest;
          stands = λ reached. spent_stands f g s t w r d (unpinned_all (bundle_pages f w slot) f.marks) st reached asked
              spent (scatter_follow f s w r st slot asked) same refl m
              (numbers.scatter_peaks s st.reached w r slot asked) (numbers.scatter_bound s st.reached w r slot asked);
        }

-- ---- marks as they are told

-- The mark that the map has of a page is the state's.
pub mark_told : (s : State) (q : ℕ) → q < length s.notes → mark_in (marks s) q ≡ mark_at s q
mark_told s q low = ap (λ (x : PageMarks). unwrap_or x.stamp 0) (marks_is s q low)

room_of : (s : State) → IsReached s → (q : ℕ) (o : Option ℕ) → known_mark s q ≡ o → unwrap_or o 0 + 1 < 2 ^ 64
room_of s h q None e = omega arith
room_of s h q (Some m) e = omega (arith, marks_are_small s h q m e, events_small s.settings.span)

-- A mark can be raised.
pub mark_room : (s : State) → IsReached s → (q : ℕ) → mark_at s q + 1 < 2 ^ 64
mark_room s h q = room_of s h q (known_mark s q) refl

-- ---- other marks under way

pub can_spend_marked : (f : Parts) (m : PageMap) (w : ℕ) (a : Action) → CanSpend f w a
    → CanSpend (record f { marks = m }) w a
can_spend_marked f m w a h = record {
  can = record {
    seat = h.can.seat;
    accepted = h.can.accepted;
    runs = record { is_in = h.can.runs.is_in; plan = h.can.runs.plan };
    can = h.can.can;
  };
  budget = h.budget;
  stacks = h.stacks;
}

pub spent_marked : (f g : Parts) (m n : PageMap) (w : ℕ) (a : Action) → Spent (record f { marks = m }) g w a n
    → Spent f g w a n
spent_marked f g m n w a h = record {
  acted = record {
    seat = h.acted.seat;
    accepted = h.acted.accepted;
    runs = record { is_in = h.acted.runs.is_in; plan = h.acted.runs.plan };
    after = h.acted.after;
    did = h.acted.did;
    seats = h.acted.seats;
  };
  rest = h.rest;
}

-- ---- latch

-- A page in a slot is one of the pool's.
pub page_low : (s : State) (w slot : ℕ) (r : Running) (h : Holding) → IsReached s → seat_of s w ≡ Some (Some r)
    → holding_at (holdings r) slot ≡ Some h → h.page < length s.notes
page_low s w slot r h reached e found =
    omega (arith, (steps.slots_are_within s reached w r e slot h found).page, notes_length s reached)

pub goes_told : (s : State) (m : Mode) (page : ℕ) → page < length s.notes
    → goes_with s m page ≡ map.is_compatible (latch_mode_of m) (map.latches_of (marks s) page)
goes_told s mode.S page low = ap (map.is_compatible latch_mode.S) (sym (latches_told s page low))
goes_told s mode.X page low = ap (map.is_compatible latch_mode.X) (sym (latches_told s page low))

module _ (f : Parts) (w slot page : ℕ) (m : Mode) (asks : Asks f w (ask.Latch slot m))
    (told : IsPageIn f w slot page) where
  abbrev latch_of : (s : State) → StandsFor f s → Asked f w (action.Latch slot m)
  latch_of s st =
      let a = asks s st in
      record {
        state = s;
        stands = st;
        running = a.0;
        asked = is_asked s w a.0 (ask.Latch slot m) (action.Latch slot m) a.1 a.2 (refl, refl);
      }

  latch_low : (h : Asked f w (action.Latch slot m)) → page_in h.running slot < length h.state.notes
  latch_low h =
      let finds = steps.latch_finds h.state h.stands.reached w h.running slot m h.asked in
      omega (
        arith,
        finds.1.page_is,
        page_low h.state w slot h.running finds.0 h.stands.reached h.asked.at.seat
            finds.1.found,
      )

  pub can_grant : IsKept f → map.latch_count (map.latches_of f.marks page) < map.pins_of f.marks page
  can_grant k =
      let h = latch_of k.state k.stands in
      let at = page_is f h.state w slot page h.running h.stands h.asked.at.seat told in
      let spare = marked.latch_spares h.state h.stands.reached w h.running slot m h.asked in
      subst (λ (z : PageMap). map.latch_count (map.latches_of z page) < map.pins_of z page) (sym h.stands.marks)
      (subst (λ (p : ℕ). map.latch_count (map.latches_of (marks h.state) p) < map.pins_of (marks h.state) p)
      (sym at) spare)

  pub can_latch : IsKept f → (n : PageMap) → CanSpend (record f { marks = n }) w (action.Latch slot m)
  can_latch k n =
      let h = latch_of k.state k.stands in
      can_spend_marked f n w (action.Latch slot m)
      (spend_needs f w (action.Latch slot m) h (latch_due f h.state w h.running h.stands slot m h.asked) refl)

  -- Whether the latch goes with those that stand on the page, as the map tells it.
  pub latch_goes : (s : State) (st : StandsFor f s) (b : Bool)
      → b ≡ map.is_compatible (latch_mode_of m) (map.latches_of f.marks page)
      → goes_with s m (page_in (asks s st).0 slot) ≡ b
  latch_goes s st b e =
      let h = latch_of s st in
      let at = page_is f s w slot page h.running st h.asked.at.seat told in
      goes_told s m (page_in h.running slot) (latch_low h)
      ∙ ap (λ (p : ℕ). map.is_compatible (latch_mode_of m) (map.latches_of (marks s) p)) (sym at)
      ∙ ap (λ (z : PageMap). map.is_compatible (latch_mode_of m) (map.latches_of z page)) (sym st.marks)
      ∙ sym e

  -- The outcome, by the same.
  pub latch_outcome : (s : State) (st : StandsFor f s) (b : Bool)
      → b ≡ map.is_compatible (latch_mode_of m) (map.latches_of f.marks page)
      → outcome_of s (move.Latch w) ≡ latch_where s w (asks s st).0 slot m b
  latch_outcome s st b e =
      acted_outcome s w (asks s st).0 (λ q. latch_asked s w q (asked_by q)) (asks s st).1
      ∙ ap (latch_asked s w (asks s st).0) (asks s st).2
      ∙ ap (latch_where s w (asks s st).0 slot m) (latch_goes s st b e)

  pub latch_refused : (n : PageMap) → false ≡ map.is_compatible (latch_mode_of m) (map.latches_of f.marks page)
      → n ≡ f.marks → Moves f (move.Latch w) (NotNow LatchHeld) (record f { marks = n })
  latch_refused n e same =
      subst (λ (z : PageMap). Moves f (move.Latch w) (NotNow LatchHeld) (record f { marks = z })) (sym same)
      (refuses f (move.Latch w) (NotNow LatchHeld) (λ s st. latch_outcome s st false e))

  pub latch_moves : (g : Parts) (n : PageMap) (mark : ℕ)
      → true ≡ map.is_compatible (latch_mode_of m) (map.latches_of f.marks page)
      → n ≡ map.with_latches f.marks page (map.with_latch (latch_mode_of m) (map.latches_of f.marks page))
      → Spent (record f { marks = n }) g w (action.Latch slot m) n → mark ≡ mark_in g.marks page
      → Moves f (move.Latch w) (Latched mark) g
  latch_moves g n mark e is spent tells = moves_by f g (move.Latch w) (Latched mark) leads
    where
      leads : (s : State) → StandsFor f s → Leads f s (move.Latch w) (Latched mark) g
      leads s st =
          let h = latch_of s st in
          let r = h.running in
          let d = action.Latch slot m in
          let t = did s w r d in
          let at = page_is f s w slot page r st h.asked.at.seat told in
          let fit = latch_goes s st true e in
          let same : SameRest s t = record {
            settings = refl;
            plans = refl;
            taken = refl;
            lists = refl;
            notes = refl;
            flush = refl;
            flushes_left = refl;
            in_flight = flights.latch_flight s st.reached w r slot m h.asked;
          } in
          let now : n ≡ marks t =
          is ∙ ap (λ (z : PageMap). map.with_latches z page (map.with_latch (latch_mode_of m)
          (map.latches_of z page))) st.marks
          ∙ ap (λ (p : ℕ). map.with_latches (marks s) p (map.with_latch (latch_mode_of m) (map.latches_of
          (marks s) p))) at
          ∙ sym (marked.latch_marks s st.reached w r slot m h.asked fit) in
          let spent_here = spent_marked f g n n w d spent in
          let here : g.marks ≡ marks t = ap (λ (z : Parts). z.marks) spent.rest ∙ now in
          record {
            after = record { reply = Latched (mark_at s (page_in r slot)); state = t };
            is = latch_outcome s st true e;
            replies = ap Latched (tells ∙ ap (λ (z : PageMap). mark_in z page) here ∙ ap (mark_in (marks t)) at
                ∙ mark_told t (page_in r slot) (latch_low h));
            plans = ap (λ (z : Parts). z.plans) spent.rest;
            stands = λ reached. spent_stands f g s t w r d n st reached h.asked spent_here
                (latch_follow f s w r st slot m h.asked) same refl now (numbers.latch_peaks s
                st.reached w r slot m h.asked)
                (numbers.latch_bound s st.reached w r slot m h.asked);
          }
