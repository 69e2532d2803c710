-- What the calls of a device's answer need of what the core keeps, and what they do to it.
use Rattle.std.specs.Prelude.{◌≡◌, ℕ, ◌+◌, ◌-◌, ◌*◌, ◌<◌, ◌≤◌, ◌^◌, Bool, false, not, ◌||◌, ◌==◌, Option, None, Some}
use Rattle.std.specs.Prelude.{Result, Ok, Err, length, slice_set, IsTrue, IsFalse}
use Rattle.pp_model.specs.Budget.{spare_writing, spare_reading}
use Rattle.pp_settings.specs.Limits.{most_slots}
use Rattle.pp_cert.specs.Accepted.{Acceptance}
use Rattle.pp_arc.specs.FourLists.{is_cached}
use Rattle.pp_arc.specs.Figure.{forget, bring_back}
use Rattle.pp_frames.specs.Marks.{PageMap, pins_of, frame_of, latches_of, latch_count, stamp_of}
use Rattle.pp_frames.specs.Marks.{with_frame, with_dirty, with_stamp}
use Rattle.pp_model.specs.declared.refusals.Cause.{Cause}
use Rattle.pp_model.specs.declared.refusals.Cause.TheVariants.{NoWorker, NoErrand}
use Rattle.pp_model.specs.Fixing.{fixes}
use Rattle.pp_model.specs.Answers.{is_other}
use Rattle.pp_core.specs.declared.answering.Write.{Write}
use Rattle.pp_core.specs.declared.answering.Read.{Read}
use Rattle.pp_core.specs.declared.seat.Phase.{Phase}
use Rattle.pp_core.specs.declared.seat.Phase.TheVariants.{Acting, Writing, Reading, Leaving}
use Rattle.pp_core.specs.declared.seat.Seat.{Seat}
use Rattle.pp_core.specs.Parts.{Parts}
use Rattle.pp_core.specs.Effects.{ask_in, IsIn, Runs, CanAct, HasRecord, stacks_after, Acted, at_phase, frame_at, displaced}

-- ---- errands

-- The writing that a worker at this phase has asked of a device, or why there is none.
abbrev pub writing_of : Option (Option Phase) → Result Write Cause
writing_of None = Err NoWorker
writing_of (Some None) = Err NoErrand
writing_of (Some (Some Acting)) = Err NoErrand
writing_of (Some (Some (Writing slot page victim))) = Ok (record { slot = slot; page = page; victim = victim })
writing_of (Some (Some (Reading slot page))) = Err NoErrand
writing_of (Some (Some Leaving)) = Err NoErrand

-- The same of a reading.
abbrev pub reading_of : Option (Option Phase) → Result Read Cause
reading_of None = Err NoWorker
reading_of (Some None) = Err NoErrand
reading_of (Some (Some Acting)) = Err NoErrand
reading_of (Some (Some (Writing slot page victim))) = Err NoErrand
reading_of (Some (Some (Reading slot page))) = Ok (record { slot = slot; page = page })
reading_of (Some (Some Leaving)) = Err NoErrand

-- Whether an image that names this page and this stamp isn't the page's.
abbrev pub is_misread : PageMap → (page named stamp : ℕ) → Bool
is_misread m page named stamp = not (named == page) || is_other (stamp_of m page) stamp

-- ---- a fix that fails

-- The most moves that the worker might still have made, where its stage has this many beside three an action.
abbrev pub left_of : Acceptance → Seat → ℕ → ℕ
left_of a x spare = 3 * (a.steps - x.actions) + spare

-- The worker leaves its plan, and has as many moves left as it holds slots, and one.
abbrev pub lost : Parts → ℕ → Seat → Acceptance → ℕ → Parts
lost f w x a spare =
    record (at_phase f w x Leaving) { budget = f.budget - left_of a x spare + (x.holds + 1) }

pub record CanLose (f : Parts) (w spare : ℕ) : Type 0 where
  pub seat : Seat
  pub accepted : Acceptance
  pub runs : Runs f w seat accepted
  pub actions : seat.actions ≤ accepted.steps
  pub short : accepted.steps ≤ 1000000
  pub holds : seat.holds ≤ most_slots
  pub budget : left_of accepted seat spare ≤ f.budget
  pub small : f.budget < 2 ^ 62
  pub spare_is_small : spare ≤ 100

-- ---- writing

pub record CanWrite (f : Parts) (w page victim : ℕ) : Type 0 where
  pub seat : (x : Seat) × IsIn f w x
  pub flight : victim < length f.in_flight
  pub low : victim < length f.marks.pages
  pub budget : 1 ≤ f.budget

abbrev pub written : Parts → ℕ → Seat → (slot page victim : ℕ) → Parts
written f w x slot page v =
    record f {
      seats = slice_set f.seats w (Some (record x { phase = Reading slot page }));
      marks = with_dirty f.marks v false;
      in_flight = slice_set f.in_flight v false;
      budget = f.budget - 1;
    }

-- The page can lose its pin and its frame, and the victim can have the frame again.
pub record CanBring (f : Parts) (w page victim : ℕ) : Type 0 where
  pub lose : CanLose f w spare_writing
  pub pin : pins_of f.marks page ≡ 1
  pub unlatched : latch_count (latches_of f.marks page) ≡ 0
  pub placed : Some (frame_at f.marks page) ≡ frame_of f.marks page
  pub frame : frame_at f.marks page < f.marks.frames
  pub victim_low : victim < length (displaced f.marks page).pages
  pub victim_unpinned : pins_of (displaced f.marks page) victim ≡ 0
  pub flight : page < length f.in_flight
  pub victim_flight : victim < length f.in_flight
  pub cached : IsTrue (is_cached f.lists page)
  pub gone : IsFalse (is_cached f.lists victim)
  pub below : victim < f.lists.pages

abbrev pub brought : Parts → ℕ → Seat → Acceptance → (page victim : ℕ) → Parts
brought f w x a page v =
    record (lost f w x a spare_writing) {
      marks = with_frame (displaced f.marks page) v (Some (frame_at f.marks page));
      lists = bring_back f.lists page v;
      in_flight = slice_set (slice_set f.in_flight page false) v false;
    }

-- ---- reading

-- The page can lose its pin and its frame.
pub record CanForget (f : Parts) (w page : ℕ) : Type 0 where
  pub lose : CanLose f w spare_reading
  pub pin : pins_of f.marks page ≡ 1
  pub unlatched : latch_count (latches_of f.marks page) ≡ 0
  pub flight : page < length f.in_flight

abbrev pub forgotten : Parts → ℕ → Seat → Acceptance → (page : ℕ) → Parts
forgotten f w x a page =
    record (lost f w x a spare_reading) {
      marks = displaced f.marks page;
      lists = forget f.lists page;
      in_flight = slice_set f.in_flight page false;
    }

-- The page can go into the slot once the worker acts again.
pub record CanLoad (f : Parts) (w slot page : ℕ) : Type 0 where
  pub seat : Seat
  pub is_in : IsIn f w seat
  pub can : CanAct (at_phase f w seat Acting) w (fixes (ask_in f w) slot page)
  pub record_free : HasRecord w (fixes (ask_in f w) slot page) f.bundles
  pub flight : page < length f.in_flight
  pub low : page < length f.marks.pages
  pub budget : 1 ≤ f.budget

pub record Loaded (f g : Parts) (w slot page stamp : ℕ) : Type 0 where
  pub acted : Acted f g w (fixes (ask_in f w) slot page)
  pub rest : g ≡ record f {
    seats = g.seats;
    marks = with_stamp f.marks page (Some stamp);
    bundles = stacks_after w (fixes (ask_in f w) slot page) f.bundles;
    in_flight = slice_set f.in_flight page false;
    budget = f.budget - 1;
  }
