-- The codes of what a core keeps, by which proofs tell its values apart: each record is stored as its fields, and each
-- value of an enum as the case that it is of and what it holds.
use Rattle.std.specs.Prelude.{◌≡◌, ℕ, zero, suc, Bool, true, false, Option, None, Some, List, refl}
use Rattle.std.specs.Coded.{Coded, code_by, coded×, coded_ℕ, coded_bool, coded_list, coded_option}
use Rattle.pp_settings.specs.declared.extent.Extent.{Extent}
use Rattle.pp_settings.specs.Layout.{Geometry}
use Rattle.pp_plan.specs.declared.mode.Mode.TheVariants as mode
use Rattle.pp_plan.specs.declared.action.Ask.{Ask}
use Rattle.pp_plan.specs.declared.action.Ask.TheVariants as ask
use Rattle.pp_cursor.specs.declared.cursor.Entry.{Entry}
use Rattle.pp_cursor.specs.Left.{Place}
use Rattle.pp_cursor.specs.Positions.{Spot}
use Rattle.pp_cert.specs.declared.note.Held.{Held}
use Rattle.pp_cert.specs.declared.note.Held.TheVariants.{Free, S, X}
use Rattle.pp_cert.specs.Accepted.{Acceptance, coded_acceptance}
use Rattle.pp_arc.specs.FourLists.{FourLists}
use Rattle.pp_bundles.specs.Bundles.{PageStacks}
use Rattle.pp_settings.specs.declared.span.Span.{Span}
use Rattle.pp_settings.specs.declared.span.Span.TheVariants.{Bounded, Endless}
use Rattle.pp_frames.specs.Marks.{Latches, Shared, Exclusive, PageMarks, PageMap}
use Rattle.pp_core.specs.declared.seat.Seat.{Seat}
use Rattle.pp_core.specs.declared.seat.Hold.{Hold}
use Rattle.pp_core.specs.declared.seat.Phase.{Phase}
use Rattle.pp_core.specs.declared.seat.Phase.TheVariants.{Acting, Writing, Reading, Leaving}
use Rattle.pp_core.specs.declared.table.Flush.{Flush}
use Rattle.pp_core.specs.Parts.{Parts}

-- ---- the layout

abbrev coded_extent : Coded Extent
coded_extent =
    code_by (ℕ × (ℕ × ℕ)) (coded× coded_ℕ (coded× coded_ℕ coded_ℕ)) (λ e. (e.first, (e.count, e.class)))
    (λ p. record { first = p.0; count = p.1.0; class = p.1.1 }) (λ _. refl)

abbrev coded_geometry : Coded Geometry
coded_geometry =
    code_by (ℕ × List Extent) (coded× coded_ℕ (coded_list coded_extent)) (λ g. (g.frames, g.extents))
    (λ p. record { frames = p.0; extents = p.1 }) (λ _. refl)

-- ---- a worker's seat

abbrev coded_entry : Coded Entry
coded_entry =
    code_by (ℕ × (ℕ × ℕ)) (coded× coded_ℕ (coded× coded_ℕ coded_ℕ)) (λ e. (e.index, (e.turns, e.branch)))
    (λ p. record { index = p.0; turns = p.1.0; branch = p.1.1 }) (λ _. refl)

abbrev coded_place : Coded Place
coded_place =
    code_by (List Entry × ℕ) (coded× (coded_list coded_entry) coded_ℕ) (λ p. (p.entries, p.index))
    (λ p. record { entries = p.0; index = p.1 }) (λ _. refl)

abbrev coded_spot : Coded Spot
coded_spot =
    code_by (Place × ℕ) (coded× coded_place coded_ℕ) (λ c. (c.place, c.at)) (λ p. record { place = p.0; at = p.1 })
    (λ _. refl)

-- Nothing for the end; else which pair of kinds it is of, its slot or number, and what else it has.
abbrev AskParts : Type 0
AskParts = Option (Option Bool × (ℕ × Option ℕ))

abbrev ask_to : Ask → AskParts
ask_to (ask.Fix slot region) = Some (None, (slot, Some region))
ask_to (ask.Unfix slot) = Some (None, (slot, None))
ask_to (ask.Latch slot mode.S) = Some (Some false, (slot, Some 0))
ask_to (ask.Latch slot mode.X) = Some (Some false, (slot, Some 1))
ask_to (ask.Unlatch slot) = Some (Some false, (slot, None))
ask_to (ask.Gather slot region) = Some (Some true, (slot, Some (suc region)))
ask_to (ask.Scatter slot) = Some (Some true, (slot, Some 0))
ask_to (ask.Choose branches) = Some (Some true, (branches, None))
ask_to ask.End = None

abbrev action_from : Option Bool → ℕ → Option ℕ → Ask
action_from None slot (Some region) = ask.Fix slot region
action_from None slot None = ask.Unfix slot
action_from (Some false) slot (Some zero) = ask.Latch slot mode.S
action_from (Some false) slot (Some (suc n)) = ask.Latch slot mode.X
action_from (Some false) slot None = ask.Unlatch slot
action_from (Some true) slot (Some zero) = ask.Scatter slot
action_from (Some true) slot (Some (suc region)) = ask.Gather slot region
action_from (Some true) branches None = ask.Choose branches

abbrev ask_from : AskParts → Ask
ask_from None = ask.End
ask_from (Some p) = action_from p.0 p.1.0 p.1.1

pub ask_back : (a : Ask) → ask_from (ask_to a) ≡ a
ask_back (ask.Fix slot region) = refl
ask_back (ask.Unfix slot) = refl
ask_back (ask.Latch slot mode.S) = refl
ask_back (ask.Latch slot mode.X) = refl
ask_back (ask.Unlatch slot) = refl
ask_back (ask.Gather slot region) = refl
ask_back (ask.Scatter slot) = refl
ask_back (ask.Choose branches) = refl
ask_back ask.End = refl

abbrev pub coded_ask : Coded Ask
coded_ask =
    code_by AskParts (coded_option (coded× (coded_option coded_bool) (coded× coded_ℕ (coded_option coded_ℕ)))) ask_to
    ask_from ask_back

abbrev held_to : Held → Option Bool
held_to Free = None
held_to S = Some false
held_to X = Some true

abbrev held_from : Option Bool → Held
held_from None = Free
held_from (Some false) = S
held_from (Some true) = X

pub held_back : (h : Held) → held_from (held_to h) ≡ h
held_back Free = refl
held_back S = refl
held_back X = refl

abbrev coded_held : Coded Held
coded_held = code_by (Option Bool) (coded_option coded_bool) held_to held_from held_back

abbrev coded_hold : Coded Hold
coded_hold =
    code_by (ℕ × (Held × Bool)) (coded× coded_ℕ (coded× coded_held coded_bool)) (λ h. (h.page, (h.held, h.bundled)))
    (λ p. record { page = p.0; held = p.1.0; bundled = p.1.1 }) (λ _. refl)

-- Whether the worker leaves its plan, and what is out for it: slot, page, and the victim if one is written back.
abbrev PhaseParts : Type 0
PhaseParts = Bool × Option (ℕ × (ℕ × Option ℕ))

abbrev phase_to : Phase → PhaseParts
phase_to Acting = (false, None)
phase_to (Writing slot page victim) = (false, Some (slot, (page, Some victim)))
phase_to (Reading slot page) = (false, Some (slot, (page, None)))
phase_to Leaving = (true, None)

abbrev errand_from : ℕ → ℕ → Option ℕ → Phase
errand_from slot page None = Reading slot page
errand_from slot page (Some victim) = Writing slot page victim

abbrev phase_from : PhaseParts → Phase
phase_from (true, out) = Leaving
phase_from (false, None) = Acting
phase_from (false, Some p) = errand_from p.0 p.1.0 p.1.1

pub phase_back : (p : Phase) → phase_from (phase_to p) ≡ p
phase_back Acting = refl
phase_back (Writing slot page victim) = refl
phase_back (Reading slot page) = refl
phase_back Leaving = refl

abbrev coded_phase : Coded Phase
coded_phase =
    code_by PhaseParts (coded× coded_bool (coded_option (coded× coded_ℕ (coded× coded_ℕ (coded_option coded_ℕ)))))
    phase_to phase_from phase_back

abbrev coded_seat : Coded Seat
coded_seat =
    code_by ((ℕ × ℕ) × (Spot × (Ask × (ℕ × (ℕ × (List (Option Hold) × Phase))))))
    (coded× (coded× coded_ℕ coded_ℕ) (coded× coded_spot (coded× coded_ask (coded× coded_ℕ (coded× coded_ℕ
    (coded× (coded_list (coded_option coded_hold)) coded_phase))))))
    (λ x. ((x.plan, x.place), (x.cursor, (x.ask, (x.actions, (x.holds, (x.slots, x.phase)))))))
    (λ p. record {
      plan = p.0.0;
      place = p.0.1;
      cursor = p.1.0;
      ask = p.1.1.0;
      actions = p.1.1.1.0;
      holds = p.1.1.1.1.0;
      slots = p.1.1.1.1.1.0;
      phase = p.1.1.1.1.1.1;
    }) (λ _. refl)

-- ---- pages

abbrev coded_lists : Coded FourLists
coded_lists =
    code_by (ℕ × (ℕ × (ℕ × (List ℕ × (List ℕ × (List ℕ × List ℕ))))))
    (coded× coded_ℕ (coded× coded_ℕ (coded× coded_ℕ (coded× (coded_list coded_ℕ) (coded× (coded_list coded_ℕ)
    (coded× (coded_list coded_ℕ) (coded_list coded_ℕ)))))))
    (λ l. (l.c, (l.pages, (l.target, (l.t1, (l.t2, (l.b1, l.b2)))))))
    (λ p. record {
      c = p.0;
      pages = p.1.0;
      target = p.1.1.0;
      t1 = p.1.1.1.0;
      t2 = p.1.1.1.1.0;
      b1 = p.1.1.1.1.1.0;
      b2 = p.1.1.1.1.1.1;
    }) (λ _. refl)

abbrev latches_to : Latches → Option ℕ
latches_to (Shared readers) = Some readers
latches_to Exclusive = None

abbrev latches_from : Option ℕ → Latches
latches_from None = Exclusive
latches_from (Some readers) = Shared readers

pub latches_back : (l : Latches) → latches_from (latches_to l) ≡ l
latches_back (Shared readers) = refl
latches_back Exclusive = refl

abbrev coded_latches : Coded Latches
coded_latches = code_by (Option ℕ) (coded_option coded_ℕ) latches_to latches_from latches_back

abbrev coded_marks : Coded PageMarks
coded_marks =
    code_by (Option ℕ × (ℕ × (Latches × (Bool × Option ℕ))))
    (coded× (coded_option coded_ℕ) (coded× coded_ℕ (coded× coded_latches (coded× coded_bool (coded_option coded_ℕ)))))
    (λ m. (m.frame, (m.pins, (m.latches, (m.dirty, m.stamp)))))
    (λ p. record { frame = p.0; pins = p.1.0; latches = p.1.1.0; dirty = p.1.1.1.0; stamp = p.1.1.1.1 }) (λ _. refl)

abbrev coded_map : Coded PageMap
coded_map =
    code_by (ℕ × List PageMarks) (coded× coded_ℕ (coded_list coded_marks)) (λ m. (m.frames, m.pages))
    (λ p. record { frames = p.0; pages = p.1 }) (λ _. refl)

abbrev coded_stacks : Coded PageStacks
coded_stacks =
    code_by (ℕ × List (List ℕ)) (coded× coded_ℕ (coded_list (coded_list coded_ℕ))) (λ b. (b.room, b.stacks))
    (λ p. record { room = p.0; stacks = p.1 }) (λ _. refl)

abbrev coded_flush : Coded Flush
coded_flush =
    code_by (ℕ × ℕ) (coded× coded_ℕ coded_ℕ) (λ f. (f.page, f.began)) (λ p. record { page = p.0; began = p.1 })
    (λ _. refl)

abbrev span_to : Span → Option ℕ
span_to Bounded = None
span_to (Endless waiting) = Some waiting

abbrev span_from : Option ℕ → Span
span_from None = Bounded
span_from (Some waiting) = Endless waiting

pub span_back : (k : Span) → span_from (span_to k) ≡ k
span_back Bounded = refl
span_back (Endless waiting) = refl

abbrev coded_span : Coded Span
coded_span = code_by (Option ℕ) (coded_option coded_ℕ) span_to span_from span_back

-- ---- a core

-- The settings, plans and seats; the pages; the numbers.
abbrev Kept : Type 0
Kept = (Geometry × Span) × (ℕ × (ℕ × ((List Acceptance × List ℕ) × (ℕ × List (Option Seat)))))

abbrev Pages : Type 0
Pages = FourLists × (PageMap × (PageStacks × (List Bool × Option Flush)))

abbrev Numbers : Type 0
Numbers = ℕ × (ℕ × ℕ)

abbrev coded_kept : Coded Kept
coded_kept =
    coded× (coded× coded_geometry coded_span) (coded× coded_ℕ (coded× coded_ℕ
    (coded× (coded× (coded_list coded_acceptance) (coded_list coded_ℕ)) (coded× coded_ℕ
    (coded_list (coded_option coded_seat))))))

abbrev coded_pages : Coded Pages
coded_pages =
    coded× coded_lists (coded× coded_map (coded× coded_stacks (coded× (coded_list coded_bool) (coded_option coded_flush))))

abbrev coded_numbers : Coded Numbers
coded_numbers = coded× coded_ℕ (coded× coded_ℕ coded_ℕ)

abbrev pub coded_parts : Coded Parts
coded_parts =
    code_by (Kept × (Pages × Numbers)) (coded× coded_kept (coded× coded_pages coded_numbers))
    (λ f. (
      ((f.layout, f.span), (f.flushes, (f.flushes_left, ((f.plans, f.waiting), (f.taken, f.seats))))),
      ((f.lists, (f.marks, (f.bundles, (f.in_flight, f.flush)))), (f.running, (f.need, f.budget))),
    ))
    (λ p. record {
      layout = p.0.0.0;
      span = p.0.0.1;
      flushes = p.0.1.0;
      flushes_left = p.0.1.1.0;
      plans = p.0.1.1.1.0.0;
      waiting = p.0.1.1.1.0.1;
      taken = p.0.1.1.1.1.0;
      seats = p.0.1.1.1.1.1;
      lists = p.1.0.0;
      marks = p.1.0.1.0;
      bundles = p.1.0.1.1.0;
      in_flight = p.1.0.1.1.1.0;
      flush = p.1.0.1.1.1.1;
      running = p.1.1.0;
      need = p.1.1.1.0;
      budget = p.1.1.1.1;
    }) (λ _. refl)
