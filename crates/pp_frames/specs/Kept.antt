-- What is kept beside the marks of each page, so that questions about all of them are answered at once.
use Rattle.std.specs.Prelude.{◌≡◌, ℕ, ◌<◌, ◌≤◌, ◌^◌, ◌+◌, ◌↔◌, Bool, true, Option, None, Some, IsSome, List, length}
use Rattle.std.specs.Prelude.{slice_set, if◌then◌else◌}
use Rattle.pp_frames.specs.Numbers.{is_member}
use Rattle.pp_frames.specs.Marks.{latch_count, PageMarks, PageMap, page_count, marks_of, frame_of, pins_of, all_pins}
use Rattle.pp_frames.specs.Marks.{all_dirty, is_flushable, IsFree, IsSound}

-- What the code keeps: the marks of all pages, the number of all pins, the number of the dirty pages, the set of the
-- free frames, and the set of the pages that let a flush begin.
pub record Parts : Type 0 where
  pub marks : PageMap
  pub pins : ℕ
  pub dirty : ℕ
  pub free : List Bool
  pub flushable : List Bool

-- What holds of them whenever no call is under way: the map is sound, and the numbers and the two sets say what it
-- says.
pub record IsKept (p : Parts) : Type 0 where
  pub sound : IsSound p.marks
  pub pins : p.pins ≡ all_pins p.marks
  pub dirty : p.dirty ≡ all_dirty p.marks
  pub frames : length p.free ≡ p.marks.frames
  pub free : (frame : ℕ) → frame < length p.free → (is_member p.free frame ≡ true) ↔ IsFree p.marks frame
  pub pages : length p.flushable ≡ page_count p.marks
  pub flushable : (page : ℕ) → is_member p.flushable page ≡ is_flushable (marks_of p.marks page)
  pub frames_fit : length p.free < 2 ^ 32
  pub pages_fit : length p.flushable < 2 ^ 32

-- The marks that a page may get in place of its own: the same frame, no pins without one, no more latches than pins,
-- and no more pins in all than frames.
pub record Fits (m : PageMap) (page : ℕ) (marks : PageMarks) : Type 0 where
  pub frame : marks.frame ≡ frame_of m page
  pub placed : 0 < marks.pins → IsSome marks.frame
  pub pinned : latch_count marks.latches ≤ marks.pins
  pub room : all_pins m + marks.pins ≤ m.frames + pins_of m page

-- What one page counts for: 1 where it is so.
abbrev pub bit : Bool → ℕ
bit is = if is then 1 else 0

-- The set in which this number, if there is one, is a member or none.
abbrev pub put : List Bool → Option ℕ → Bool → List Bool
put set None is = set
put set (Some number) is = slice_set set number is
