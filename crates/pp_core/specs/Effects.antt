-- What the calls inside the core need of what it keeps, and what they do to it.
use Rattle.std.specs.Prelude.{◌≡◌, ℕ, ◌+◌, ◌-◌, ◌<◌, ◌≤◌, ◌^◌, Bool, true, false, Option, None, Some, option_map}
use Rattle.std.specs.Prelude.{option_and_then, unwrap_or, List, [], ◌∷◌, length, slice_get, slice_set}
use Rattle.pp_plan.specs.declared.action.Action.{Action}
use Rattle.pp_plan.specs.declared.action.Action.TheVariants as action
use Rattle.pp_plan.specs.declared.action.Ask.{Ask}
use Rattle.pp_plan.specs.declared.action.Ask.TheVariants as ask
use Rattle.pp_cert.specs.declared.note.Held.{Held}
use Rattle.pp_cert.specs.declared.note.Held.TheVariants.{Free, S, X}
use Rattle.pp_cert.specs.Accepted.{Acceptance}
use Rattle.pp_frames.specs.declared.mode.Mode.TheVariants as mode
use Rattle.pp_frames.specs.Marks.{PageMap, pins_of, frame_of, stamp_of, latches_of, with_pins, with_latches}
use Rattle.pp_frames.specs.Marks.{without_latch}
use Rattle.pp_bundles.specs.Bundles.{PageStacks, place_count, pages_at, free_records, with_pages, pushed}
use Rattle.pp_frames.specs.Marks.{with_dirty, with_stamp, with_frame, has_latch, latch_count}
use Rattle.pp_model.specs.declared.refusals.Cause.{Cause}
use Rattle.pp_model.specs.declared.refusals.Cause.TheVariants.{NoWorker, NotActing}
use Rattle.pp_core.specs.declared.seat.Phase.{Phase}
use Rattle.pp_core.specs.declared.seat.Phase.TheVariants.{Acting, Writing, Reading, Leaving}
use Rattle.pp_core.specs.declared.seat.Seat.{Seat}
use Rattle.pp_core.specs.declared.seat.Hold.{Hold}
use Rattle.pp_core.specs.declared.table.Flush.{Flush}
use Rattle.pp_core.specs.Seats.{CanDo, Did}
use Rattle.pp_core.specs.Slots.{hold_at}
use Rattle.pp_core.specs.Busy.{is_busy_in}
use Rattle.pp_core.specs.Parts.{Parts}
use Rattle.pp_core.specs.Gathered.{bundle_place}

-- ---- one worker's seat

-- What worker w is at: None where there is no such worker, Some None where it is idle.
abbrev pub phase_of : Parts → ℕ → Option (Option Phase)
phase_of f w = option_map (option_map (λ (x : Seat). x.phase)) (slice_get f.seats w)

-- Why a worker at this phase doesn't act; None where it does.
abbrev pub acting_fault : Option (Option Phase) → Option Cause
acting_fault None = Some NoWorker
acting_fault (Some None) = Some NotActing
acting_fault (Some (Some Acting)) = None
acting_fault (Some (Some (Writing slot page victim))) = Some NotActing
acting_fault (Some (Some (Reading slot page))) = Some NotActing
acting_fault (Some (Some Leaving)) = Some NotActing

-- What worker w's plan asks, as its seat has it; the end where the worker is in no plan.
abbrev pub ask_in : Parts → ℕ → Ask
ask_in f w = unwrap_or (option_map (λ (x : Seat). x.ask) (option_and_then (λ o. o) (slice_get f.seats w))) ask.End

-- Worker w is in its plan, and so.
abbrev pub IsIn : Parts → ℕ → Seat → Type 0
IsIn f w x = slice_get f.seats w ≡ Some (Some x)

-- Worker w has this seat, and runs this plan.
pub record Runs (f : Parts) (w : ℕ) (x : Seat) (a : Acceptance) : Type 0 where
  pub is_in : IsIn f w x
  pub plan : slice_get f.plans x.place ≡ Some a

-- Worker w can do the action.
pub record CanAct (f : Parts) (w : ℕ) (a : Action) : Type 0 where
  pub seat : Seat
  pub accepted : Acceptance
  pub runs : Runs f w seat accepted
  pub can : CanDo accepted.plan seat a

-- The stacks after an action of worker w: a gather puts its page on top, and a scatter takes all pages of the slot.
abbrev pub stacks_after : (w : ℕ) → Action → PageStacks → PageStacks
stacks_after w (action.Gather slot page) stacks = pushed stacks (bundle_place w slot) page
stacks_after w (action.Scatter slot) stacks = with_pages stacks (bundle_place w slot) []
stacks_after w _ stacks = stacks

-- Where an action puts a page on a stack, the stack is there, and a record is free.
abbrev pub HasRecord : (w : ℕ) → Action → PageStacks → Type 0
HasRecord w (action.Gather slot page) stacks =
    (bundle_place w slot < place_count stacks) × (0 < free_records stacks) × (bundle_place w slot < 2 ^ 32)
HasRecord w _ stacks = Unit {0}

-- It has done the action.
pub record Acted (f g : Parts) (w : ℕ) (a : Action) : Type 0 where
  pub seat : Seat
  pub accepted : Acceptance
  pub runs : Runs f w seat accepted
  pub after : Seat
  pub did : Did accepted.plan seat after a
  pub seats : g.seats ≡ slice_set f.seats w (Some after)

-- The parts with this seat of the worker.
abbrev pub with_seat : Parts → ℕ → Option Seat → Parts
with_seat f w x = record f { seats = slice_set f.seats w x }

-- The worker is at another phase.
abbrev pub at_phase : Parts → ℕ → Seat → Phase → Parts
at_phase f w x p = with_seat f w (Some (record x { phase = p }))

-- ---- pages

abbrev pub frame_at : PageMap → ℕ → ℕ
frame_at m page = unwrap_or (frame_of m page) 0

abbrev pub mark_at : PageMap → ℕ → ℕ
mark_at m page = unwrap_or (stamp_of m page) 0

-- The marks with one pin more, or one less.
abbrev pub pinned : PageMap → ℕ → PageMap
pinned m page = with_pins m page (pins_of m page + 1)

abbrev pub unpinned : PageMap → ℕ → PageMap
unpinned m page = with_pins m page (pins_of m page - 1)

-- The marks with one pin less for each of these pages, again for one that stands twice.
abbrev pub unpinned_all : List ℕ → PageMap → PageMap
unpinned_all [] m = m
unpinned_all (page ∷ pages) m = unpinned_all pages (unpinned m page)

-- They can go one after the other: each page has more pins than latches when it is its turn.
abbrev pub CanUnpinAll : List ℕ → PageMap → Type 0
CanUnpinAll [] m = Unit {0}
CanUnpinAll (page ∷ pages) m =
    (latch_count (latches_of m page) < pins_of m page) × CanUnpinAll pages (unpinned m page)

-- A pin goes off each page at the place, and no page is there from now on.
abbrev pub scattered : Parts → (place : ℕ) → Parts
scattered f place =
    record f {
      marks = unpinned_all (pages_at f.bundles place) f.marks;
      bundles = with_pages f.bundles place [];
    }

-- The page stands in the frame, and has one pin more.
abbrev pub placed : PageMap → (page frame : ℕ) → PageMap
placed m page frame = pinned (with_frame m page (Some frame)) page

-- The page has one pin less, and no frame.
abbrev pub displaced : PageMap → ℕ → PageMap
displaced m page = with_frame (unpinned m page) page None

-- One latch goes off the page.
abbrev pub unlatched : PageMap → ℕ → PageMap
unlatched m page = with_latches m page (without_latch (latches_of m page))

-- A latch of this kind goes off the page. Where that was X, the page was changed: its mark is raised by 1, and it is
-- newer than the device's.
abbrev pub released : Held → PageMap → ℕ → PageMap
released Free m page = m
released S m page = unlatched m page
released X m page = with_stamp (with_dirty (unlatched m page) page true) page (Some (mark_at m page + 1))

-- The page is latched so, and a mark can be raised.
abbrev pub IsLatched : Held → PageMap → ℕ → Type 0
IsLatched Free m page = Unit {0}
IsLatched S m page = has_latch mode.S (latches_of m page) ≡ true
IsLatched X m page = (has_latch mode.X (latches_of m page) ≡ true) × (page < length m.pages) ×
    (mark_at m page + 1 < 2 ^ 64)

-- ---- flights

-- The page that is being flushed.
abbrev pub flushed_page : Parts → Option ℕ
flushed_page f = option_map (λ (x : Flush). x.page) f.flush

-- Whether the page is in flight. A page past the last one isn't.
abbrev pub is_flying : Parts → ℕ → Bool
is_flying f page = unwrap_or (slice_get f.in_flight page) false

-- The pages that may not leave the cache.
abbrev pub is_busy : Parts → ℕ → Bool
is_busy f = is_busy_in f.marks (flushed_page f)

-- ---- moves of an acting worker

-- The page in the slot of worker w.
abbrev pub IsPageIn : Parts → (w slot page : ℕ) → Type 0
IsPageIn f w slot page =
    (x : Seat) → IsIn f w x → page ≡ unwrap_or (option_map (λ (h : Hold). h.page) (hold_at x.slots slot)) 0

-- And how the slot holds it.
abbrev pub IsHeldIn : Parts → (w slot : ℕ) → Held → Type 0
IsHeldIn f w slot held =
    (x : Seat) → IsIn f w x → held ≡ unwrap_or (option_map (λ (h : Hold). h.held) (hold_at x.slots slot)) Free

-- The pages of the slot of worker w, which is a bundle, the last first.
abbrev pub bundle_pages : Parts → (w slot : ℕ) → List ℕ
bundle_pages f w slot = pages_at f.bundles (bundle_place w slot)

-- The scatter can be done, and with it a pin goes off each page of the bundle.
pub record CanScatter (f : Parts) (w slot : ℕ) : Type 0 where
  pub can : CanAct f w (action.Scatter slot)
  pub place : bundle_place w slot < place_count f.bundles
  pub fits : bundle_place w slot < 2 ^ 32
  pub spare : CanUnpinAll (bundle_pages f w slot) f.marks
  pub budget : 3 ≤ f.budget

-- The action can be done, and with it a pin goes off the page.
pub record CanUnfix (f : Parts) (w slot page : ℕ) : Type 0 where
  pub can : CanAct f w (action.Unfix slot)
  pub spare : latch_count (latches_of f.marks page) < pins_of f.marks page
  pub budget : 3 ≤ f.budget

-- The action can be done, and the bound lowered; it is none that changes a bundle.
pub record CanSpend (f : Parts) (w : ℕ) (a : Action) : Type 0 where
  pub can : CanAct f w a
  pub budget : 3 ≤ f.budget
  pub stacks : stacks_after w a f.bundles ≡ f.bundles

-- The action was done, and these are the marks since.
pub record Spent (f g : Parts) (w : ℕ) (a : Action) (marks : PageMap) : Type 0 where
  pub acted : Acted f g w a
  pub rest : g ≡ record f {
    seats = g.seats;
    marks = marks;
    bundles = stacks_after w a f.bundles;
    budget = f.budget - 3;
  }
