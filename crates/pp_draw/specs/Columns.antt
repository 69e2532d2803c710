-- What a column of a picture shows: what there is in a state of the pool.
use Rattle.std.specs.Prelude.{◌≡◌, ℕ, zero, suc, Bool, false, Option, None, Some, if◌then◌else◌, List, [], ◌∷◌}
use Rattle.std.specs.Prelude.{◌++◌, length, map, slice_index_or}
use Rattle.std.specs.List.{range_with_len}
use Rattle.std.specs.Prelude.{true, option_map}
use Rattle.std.specs.Option.{option_or}
use Rattle.pp_settings.specs.Limits.{most_slots}
use Rattle.pp_plan.specs.declared.action.Ask.{Ask}
use Rattle.pp_plan.specs.declared.action.Ask.TheVariants as asks
use Rattle.pp_cert.specs.declared.note.Held.{Held}
use Rattle.pp_cert.specs.declared.note.Held.TheVariants as held
use Rattle.pp_arc.specs.FourLists.{FourLists}
use Rattle.pp_frames.specs.declared.mode.Mode.TheVariants as mode
use Rattle.pp_frames.specs.Marks.{PageMap, page_count, frame_of, stamp_of, is_dirty, has_latch, latches_of}
use Rattle.pp_model.specs.Pool.{Stage, acting, writing, reading, leaving, Running, State, dirty_pages}
use Rattle.pp_model.specs.Marks.{marks}
use Rattle.pp_model.specs.Moves.{seat_of}
use Rattle.pp_model.specs.declared.moves.Move.TheVariants as move
use Rattle.pp_model.specs.declared.refusals.Delay.TheVariants.{LatchHeld, NoRoom}
use Rattle.pp_model.specs.declared.reply.Reply.{Reply}
use Rattle.pp_model.specs.declared.reply.Reply.TheVariants.{NotNow}
use Rattle.pp_core.specs.Queries.{held_of, ask_of, flushed_page}
use Rattle.pp_core.specs.Refusals.{refusal_to}
use Rattle.pp_draw.specs.declared.column.Column.{Column}
use Rattle.pp_draw.specs.declared.column.Doing.{Doing}
use Rattle.pp_draw.specs.declared.column.Doing.TheVariants.{Idle, Acting, Writing, Reading, Leaving}
use Rattle.pp_draw.specs.declared.column.Wait.{Wait}
use Rattle.pp_draw.specs.declared.column.Wait.TheVariants.{Latch, Room}
use Rattle.pp_draw.specs.declared.column.Latches.{Latches}
use Rattle.pp_draw.specs.declared.column.WorkerAt.{WorkerAt}
use Rattle.pp_draw.specs.declared.column.PageAt.{PageAt}
use Rattle.pp_draw.specs.declared.column.Lengths.{Lengths}

-- ---- a worker

-- What a worker in its plan is at.
abbrev pub doing_in : Stage → Doing
doing_in acting = Acting
doing_in (writing slot page victim) = Writing page victim
doing_in (reading slot page) = Reading page
doing_in (leaving given) = Leaving

-- The same of a seat. A worker that there isn't is shown as an idle one.
abbrev pub doing_by : Option (Option Running) → Doing
doing_by None = Idle
doing_by (Some None) = Idle
doing_by (Some (Some r)) = doing_in r.stage

-- A page where it is held S, and a page where it is held X.
abbrev pub if_shared : (page : ℕ) → Held → Option ℕ
if_shared page held.Free = None
if_shared page held.S = Some page
if_shared page held.X = None

abbrev pub if_exclusive : (page : ℕ) → Held → Option ℕ
if_exclusive page held.Free = None
if_exclusive page held.S = None
if_exclusive page held.X = Some page

abbrev pub shared_in : Option (ℕ × Held) → Option ℕ
shared_in None = None
shared_in (Some h) = if_shared h.0 h.1

abbrev pub exclusive_in : Option (ℕ × Held) → Option ℕ
exclusive_in None = None
exclusive_in (Some h) = if_exclusive h.0 h.1

-- The page that the greatest slot below n holds S, of those that hold one so; and the same of X.
unfoldable pub latches_below : State → (w n : ℕ) → Latches
latches_below s w zero = record { shared = None; exclusive = None }
latches_below s w (suc n) = record {
  shared = option_or (shared_in (held_of s w n)) (latches_below s w n).shared;
  exclusive = option_or (exclusive_in (held_of s w n)) (latches_below s w n).exclusive;
}

-- Whether a move is refused since others have latched the page; and whether it is since the plan that waits first doesn't fit.
abbrev pub is_latch_held : Option Reply → Bool
is_latch_held (Some (NotNow LatchHeld)) = true
is_latch_held _ = false

abbrev pub is_no_room : Option Reply → Bool
is_no_room (Some (NotNow NoRoom)) = true
is_no_room _ = false

-- The page that the worker's plan asks a latch on.
abbrev pub page_held : Option (ℕ × Held) → Option ℕ
page_held None = None
page_held (Some h) = Some h.0

abbrev pub latch_in : State → (w : ℕ) → Option Ask → Option ℕ
latch_in s w (Some (asks.Latch slot mode)) = page_held (held_of s w slot)
latch_in s w _ = None

abbrev pub latch_asked : State → (w : ℕ) → Option ℕ
latch_asked s w = latch_in s w (ask_of s w)

-- What a worker waits for: a latch on the page that others have latched, or room for the plan that waits first.
abbrev pub wait_of : State → (w : ℕ) → Option Wait
wait_of s w =
    if is_latch_held (refusal_to s (move.Latch w)) then option_map Latch (latch_asked s w)
    else if is_no_room (refusal_to s (move.Take w)) then Some Room
    else None

abbrev pub worker_at : State → (w : ℕ) → WorkerAt
worker_at s w = record { doing = doing_by (seat_of s w); latches = latches_below s w most_slots; wait = wait_of s w }

-- ---- the pages in frames

-- Whether the frame has a row in the picture.
abbrev pub is_drawn : List Bool → (frame : ℕ) → Bool
is_drawn drawn frame = slice_index_or drawn frame false

-- The page in its frame, where it has one that is drawn.
abbrev pub page_in : PageMap → List Bool → (page : ℕ) → Option ℕ → Option PageAt
page_in m drawn page None = None
page_in m drawn page (Some frame) = if is_drawn drawn frame then Some (record {
  page = page;
  frame = frame;
  mark = stamp_of m page;
  is_dirty = is_dirty m page;
  is_exclusive = has_latch mode.X (latches_of m page);
}) else None

abbrev pub page_at : PageMap → List Bool → (page : ℕ) → Option PageAt
page_at m drawn page = page_in m drawn page (frame_of m page)

abbrev pub listed : Option PageAt → List PageAt
listed None = []
listed (Some at) = at ∷ []

-- The pages below this number that have a frame that is drawn, in the order of their numbers.
abbrev pub pages_below : PageMap → List Bool → (number : ℕ) → List PageAt
pages_below m drawn zero = []
pages_below m drawn (suc n) = pages_below m drawn n ++ listed (page_at m drawn n)

-- ---- a whole column

abbrev pub lengths_of : FourLists → Lengths
lengths_of l = record {
  recent = length l.t1;
  frequent = length l.t2;
  left_recent = length l.b1;
  left_frequent = length l.b2;
  target = l.target;
}

-- The column shows the state: what each of so many workers is at, which page is flushed, how many pages are newer than the
-- device's, ARC's lengths and target, and each page in a frame that is drawn.
pub record Shows (workers : ℕ) (drawn : List Bool) (c : Column) (s : State) : Type 0 where
  pub workers_are : c.workers.items ≡ map (worker_at s) (range_with_len 0 workers)
  pub flushed : c.flushed ≡ flushed_page s
  pub dirty : c.dirty ≡ dirty_pages s
  pub lengths : c.lengths ≡ lengths_of s.lists
  pub pages : c.pages.items ≡ pages_below (marks s) drawn (page_count (marks s))
