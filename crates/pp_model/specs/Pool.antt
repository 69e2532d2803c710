-- The state of a pool: what the definitions of moves start from and lead to. It keeps of each worker the list of
-- actions that it has done, and no position in a plan, no counter and no link; who holds what is computed from these
-- lists (Holders).
use Rattle.std.specs.Prelude.{ℕ, Bool, false, Option, None, unwrap_or, List, [], drop, replicate, count_by}
use Rattle.std.specs.Prelude.{slice_index_or}
use Rattle.pp_settings.specs.Layout.{Geometry, page_count}
use Rattle.pp_settings.specs.declared.span.Span.{Span}
use Rattle.pp_plan.specs.declared.action.Action.{Action}
use Rattle.pp_cert.specs.Accepted.{Acceptance}
use Rattle.pp_arc.specs.FourLists.{FourLists, empty_lists}
use Rattle.pp_model.specs.declared.reply.Ending.{Ending}

-- ---- workers

-- What a worker that has a plan is at.
pub data Stage : Type 0 where
  -- it runs its plan, and no errand is out
  acting : Stage
  -- a device writes the victim back, so that the page can have its frame and then be fixed into the slot
  writing : (slot page victim : ℕ) → Stage
  -- a device reads the page, which is then fixed into the slot
  reading : (slot page : ℕ) → Stage
  -- a fix failed, and the worker leaves its plan; it has given these slots back
  leaving : (given : List ℕ) → Stage

-- A worker in its plan: the plan and its number, the actions that it has done, the first of them first, and its stage.
pub record Running : Type 0 where
  pub number : ℕ
  pub accepted : Acceptance
  pub done : List Action
  pub stage : Stage

-- A plan that was ended, and how.
pub record Finished : Type 0 where
  pub number : ℕ
  pub ending : Ending

-- ---- pages

-- What is noted of a page: the frame that it has, if it is cached; whether it is newer than the device's; and its mark,
-- the stamp by which the pool knows it, where it knows one.
pub record Note : Type 0 where
  pub frame : Option ℕ
  pub dirty : Bool
  pub mark : Option ℕ

-- The note of a page that nothing was ever done with.
abbrev pub untouched : Note
untouched = record { frame = None; dirty = false; mark = None }

-- A flush in flight: its page, and the mark that the page had as it began.
pub record Flush : Type 0 where
  pub page : ℕ
  pub began : ℕ

-- ---- the pool

-- What a pool keeps of its settings: the layout, how many workers there are, how many flushes may begin in one life, and how
-- long a life may last.
pub record Settings : Type 0 where
  pub layout : Geometry
  pub workers : ℕ
  pub flushes : ℕ
  pub span : Span

pub record State : Type 0 where
  pub settings : Settings
  -- all plans that were submitted in this life, in order, and how many of them were taken
  pub plans : List Acceptance
  pub taken : ℕ
  -- at place w worker w: in its plan, or idle
  pub seats : List (Option Running)
  -- the plans that were ended in this life, in order
  pub finished : List Finished
  -- ARC's lists and target
  pub lists : FourLists
  -- at place p the note of page p
  pub notes : List Note
  pub flush : Option Flush
  pub flushes_left : ℕ

-- The state of a new pool: each worker idle, no plan, nothing cached or remembered, target 0, no flush begun, no mark
-- known.
abbrev pub opening : Settings → State
opening k =
    record {
      settings = k;
      plans = [];
      taken = 0;
      seats = replicate k.workers None;
      finished = [];
      lists = empty_lists k.layout.frames (page_count k.layout);
      notes = replicate (page_count k.layout) untouched;
      flush = None;
      flushes_left = k.flushes;
    }

-- The plans that wait, in order.
abbrev pub waiting : State → List Acceptance
waiting s = drop s.taken s.plans

-- ---- what is noted of a page

abbrev pub note_of : State → ℕ → Note
note_of s page = slice_index_or s.notes page untouched

abbrev pub frame_of : State → ℕ → Option ℕ
frame_of s page = (note_of s page).frame

-- Whether the page is newer than the device's.
abbrev pub is_dirty : State → ℕ → Bool
is_dirty s page = (note_of s page).dirty

abbrev pub known_mark : State → ℕ → Option ℕ
known_mark s page = (note_of s page).mark

-- The frame of a page that has one, and the mark of a page that has one. (0 without one; no move looks there.)
abbrev pub frame_at : State → ℕ → ℕ
frame_at s page = unwrap_or (frame_of s page) 0

abbrev pub mark_at : State → ℕ → ℕ
mark_at s page = unwrap_or (known_mark s page) 0

-- How many pages are newer than the device's.
abbrev pub dirty_pages : State → ℕ
dirty_pages s = count_by (λ n. n.dirty) s.notes
