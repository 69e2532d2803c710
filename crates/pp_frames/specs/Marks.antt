-- The marks of the pages: a plain finite map from pages to what is noted of each one.
use Rattle.std.specs.Prelude.{◌≡◌, ℕ, ◌+◌, ◌-◌, ◌<◌, ◌≤◌, ◌==◌, ◌&&◌, nat_eq, nat_lt, nat_le, not, Bool, true, false}
use Rattle.std.specs.Prelude.{Option, None, Some, is_some, IsSome, List, length, replicate, slice_index_or, slice_set}
use Rattle.std.specs.Prelude.{sum_by, count_by}
use Rattle.std.specs.List.{list_any}
use Rattle.std.specs.Option.{option_or, option_eq}
use Rattle.pp_frames.specs.declared.mode.Mode.{Mode}
use Rattle.pp_frames.specs.declared.mode.Mode.TheVariants.{S, X}
use Rattle.pp_frames.specs.Least.{least_below}

-- ---- latches

-- How a page is latched: by so many readers at once (by none where that is 0), or by one writer alone.
pub data Latches : Type 0 where
  Shared : ℕ → Latches
  Exclusive : Latches

-- How many latches stand on the page.
abbrev pub latch_count : Latches → ℕ
latch_count (Shared readers) = readers
latch_count Exclusive = 1

-- Whether a writer has the page.
abbrev pub is_exclusive : Latches → Bool
is_exclusive (Shared readers) = false
is_exclusive Exclusive = true

-- Whether a latch of this mode goes with those that stand: S goes with S, and X goes with nothing (Gray and Reuter,
-- chapter 13).
abbrev pub is_compatible : Mode → Latches → Bool
is_compatible S (Shared readers) = true
is_compatible S Exclusive = false
is_compatible X (Shared readers) = readers == 0
is_compatible X Exclusive = false

-- These latches and one more of this mode, which goes with them.
abbrev pub with_latch : Mode → Latches → Latches
with_latch S latches = Shared (latch_count latches + 1)
with_latch X latches = Exclusive

-- Whether a latch of this mode stands.
abbrev pub has_latch : Mode → Latches → Bool
has_latch S (Shared readers) = nat_lt 0 readers
has_latch S Exclusive = false
has_latch X latches = is_exclusive latches

-- These latches without one of them.
abbrev pub without_latch : Latches → Latches
without_latch latches = Shared (latch_count latches - 1)

-- ---- the map

-- What is noted of one page: the frame that has it, if one has it; how many pins and which latches stand on it;
-- whether its bytes are newer than the disk's; and its stamp, where that is known.
pub record PageMarks : Type 0 where
  pub frame : Option ℕ
  pub pins : ℕ
  pub latches : Latches
  pub dirty : Bool
  pub stamp : Option ℕ

-- What is noted of a page that nothing was ever done with: in no frame, not pinned, not latched, clean, no stamp known.
abbrev pub untouched_marks : PageMarks
untouched_marks = record { frame = None; pins = 0; latches = Shared 0; dirty = false; stamp = None }

-- The number of frames, and what is noted of each page: the marks of page p stand at place p.
pub record PageMap : Type 0 where
  pub frames : ℕ
  pub pages : List PageMarks

-- The map of a pool in which nothing was done yet.
abbrev pub opening : ℕ → ℕ → PageMap
opening frames pages = record { frames = frames; pages = replicate pages untouched_marks }

-- How many pages there are; they are numbered from 0.
abbrev pub page_count : PageMap → ℕ
page_count m = length m.pages

-- What is noted of a page. A page past the last one is untouched.
abbrev pub marks_of : PageMap → ℕ → PageMarks
marks_of m page = slice_index_or m.pages page untouched_marks

abbrev pub frame_of : PageMap → ℕ → Option ℕ
frame_of m page = (marks_of m page).frame

abbrev pub pins_of : PageMap → ℕ → ℕ
pins_of m page = (marks_of m page).pins

abbrev pub latches_of : PageMap → ℕ → Latches
latches_of m page = (marks_of m page).latches

abbrev pub is_dirty : PageMap → ℕ → Bool
is_dirty m page = (marks_of m page).dirty

abbrev pub stamp_of : PageMap → ℕ → Option ℕ
stamp_of m page = (marks_of m page).stamp

-- The map in which these are the marks of the page, and all else is as before.
abbrev pub with_marks : PageMap → ℕ → PageMarks → PageMap
with_marks m page marks = record { frames = m.frames; pages = slice_set m.pages page marks }

-- The map in which one mark of one page is another, and all else is as before.
abbrev pub with_frame : PageMap → ℕ → Option ℕ → PageMap
with_frame m page frame = with_marks m page (record (marks_of m page) { frame = frame })

abbrev pub with_pins : PageMap → ℕ → ℕ → PageMap
with_pins m page pins = with_marks m page (record (marks_of m page) { pins = pins })

abbrev pub with_latches : PageMap → ℕ → Latches → PageMap
with_latches m page latches = with_marks m page (record (marks_of m page) { latches = latches })

abbrev pub with_dirty : PageMap → ℕ → Bool → PageMap
with_dirty m page dirty = with_marks m page (record (marks_of m page) { dirty = dirty })

abbrev pub with_stamp : PageMap → ℕ → Option ℕ → PageMap
with_stamp m page stamp = with_marks m page (record (marks_of m page) { stamp = stamp })

-- ---- what is asked of the whole map

-- The pins of all pages together.
abbrev pub all_pins : PageMap → ℕ
all_pins m = sum_by (λ marks. marks.pins) m.pages

-- How many pages are dirty.
abbrev pub all_dirty : PageMap → ℕ
all_dirty m = count_by (λ marks. marks.dirty) m.pages

-- Whether the page stands in this frame.
abbrev pub is_in : ℕ → PageMarks → Bool
is_in frame marks = option_eq nat_eq marks.frame (Some frame)

-- Whether no page stands in this frame.
abbrev pub is_free : PageMap → ℕ → Bool
is_free m frame = not (list_any (is_in frame) m.pages)

-- The least frame in which no page stands, if there is one.
abbrev pub least_free : PageMap → Option ℕ
least_free m = least_below (is_free m) m.frames

-- Whether the stamp is known, and is this one or a later one.
abbrev pub has_reached : (limit : ℕ) → Option ℕ → Bool
has_reached limit None = false
has_reached limit (Some stamp) = nat_le limit stamp

-- The least page whose stamp has reached this one, if there is one.
abbrev pub first_stamped : PageMap → (limit : ℕ) → Option ℕ
first_stamped m limit = least_below (λ page. has_reached limit (stamp_of m page)) (page_count m)

-- Whether the page itself lets a flush begin: it is dirty, stands in a frame, and has no writer.
abbrev pub is_flushable : PageMarks → Bool
is_flushable marks = marks.dirty && is_some marks.frame && not (is_exclusive marks.latches)

-- The least page from n on that lets a flush begin, if there is one.
abbrev pub least_flushable : PageMap → ℕ → Option ℕ
least_flushable m n = least_below (λ page. nat_le n page && is_flushable (marks_of m page)) (page_count m)

-- That page; where there is none from n on, the least such page of all.
abbrev pub dirty_from : PageMap → ℕ → Option ℕ
dirty_from m n = option_or (least_flushable m n) (least_flushable m 0)

-- ---- the same as facts, for callers

-- No page stands in the frame.
abbrev pub IsFree : PageMap → ℕ → Type 0
IsFree m frame = (page : ℕ) → frame_of m page ≡ Some frame → ⊥

-- The page is dirty, stands in a frame, and has no writer.
pub record IsFlushable (m : PageMap) (page : ℕ) : Type 0 where
  pub dirty : is_dirty m page ≡ true
  pub placed : IsSome (frame_of m page)
  pub no_writer : is_exclusive (latches_of m page) ≡ false

-- What holds whatever calls were made. That the latches of a page are all shared or a single exclusive one lies in the
-- type Latches.
pub record IsSound (m : PageMap) : Type 0 where
  -- a page's frame is one of the pool's
  pub in_range : (page frame : ℕ) → frame_of m page ≡ Some frame → frame < m.frames
  -- no frame has two pages
  pub no_frame_twice : (p q frame : ℕ) → frame_of m p ≡ Some frame → frame_of m q ≡ Some frame → p ≡ q
  -- a page with pins stands in a frame
  pub pinned_is_placed : (page : ℕ) → 0 < pins_of m page → IsSome (frame_of m page)
  -- a page has no more latches than pins
  pub latched_is_pinned : (page : ℕ) → latch_count (latches_of m page) ≤ pins_of m page
  -- there are no more pins in all than frames
  pub pins_fit : all_pins m ≤ m.frames
