-- How what is kept by page and by frame stands for the map of the pages.
use Rattle.std.specs.Prelude.{◌≡◌, ℕ, ◌-◌, ◌<◌, ◌≤◌, ◌^◌, ◌==◌, Bool, false, if◌then◌else◌, Option, None, Some}
use Rattle.std.specs.Prelude.{List, map, length, slice_index_or}
use Rattle.std.specs.List.{range_with_len}
use Rattle.pp_frames.specs.declared.held.Held.{Held}
use Rattle.pp_frames.specs.Numbers.{is_member}
use Rattle.pp_frames.specs.Marks.{Latches, Shared, Exclusive, PageMarks, PageMap}

-- What the code keeps: of each page its stamp, whether that is known, whether it is dirty, and its home; of each frame
-- the pins and the latches of the page in it; and a number that no stamp exceeds.
pub record Arrays : Type 0 where
  pub stamps : List ℕ
  pub known : List Bool
  pub dirty : List Bool
  pub homes : List ℕ
  pub held : List Held
  pub top : ℕ

-- The frame that a home stands for: 0 for none, and else one more than the frame's number.
abbrev pub frame_at : ℕ → Option ℕ
frame_at home = if home == 0 then None else Some (home - 1)

-- The latches that a frame's record stands for.
abbrev pub latches_at : Held → Latches
latches_at held = if held.has_writer then Exclusive else Shared held.readers

-- The record of a frame without pins and without latches.
abbrev pub not_held : Held
not_held = record { pins = 0; readers = 0; has_writer = false }

-- How a page in this frame is held. A page in no frame isn't.
abbrev pub held_in : List Held → Option ℕ → Held
held_in held None = not_held
held_in held (Some frame) = slice_index_or held frame not_held

-- The stamp, where it is known.
abbrev pub stamp_at : Bool → ℕ → Option ℕ
stamp_at known stamp = if known then Some stamp else None

-- The marks of a page in this frame, held in this way, with this dirty mark and stamp.
abbrev pub marks_by : Option ℕ → Held → Bool → Option ℕ → PageMarks
marks_by frame held dirty stamp =
    record { frame = frame; pins = held.pins; latches = latches_at held; dirty = dirty; stamp = stamp }

-- The frame in which a page stands.
abbrev pub home_in : Arrays → ℕ → Option ℕ
home_in a page = frame_at (slice_index_or a.homes page 0)

-- All the marks of a page.
abbrev pub marks_in : Arrays → ℕ → PageMarks
marks_in a page =
    marks_by (home_in a page) (held_in a.held (home_in a page)) (is_member a.dirty page)
    (stamp_at (is_member a.known page) (slice_index_or a.stamps page 0))

-- The map that they stand for.
abbrev pub map_of : Arrays → PageMap
map_of a = record { frames = length a.held; pages = map (marks_in a) (range_with_len 0 (length a.homes)) }

-- What holds of them whenever no call is under way.
pub record IsTidy (a : Arrays) : Type 0 where
  -- there is as much of each for each page
  pub stamps : length a.stamps ≡ length a.homes
  pub known : length a.known ≡ length a.homes
  pub dirty : length a.dirty ≡ length a.homes
  -- a page stands in one of the frames, and no other page stands there
  pub in_range : (page frame : ℕ) → home_in a page ≡ Some frame → frame < length a.held
  pub no_frame_twice : (p q frame : ℕ) → home_in a p ≡ Some frame → home_in a q ≡ Some frame → p ≡ q
  -- a frame in which no page stands is not held
  pub at_rest : (frame : ℕ) → ((page : ℕ) → home_in a page ≡ Some frame → ⊥)
      → slice_index_or a.held frame not_held ≡ not_held
  -- no stamp exceeds the top
  pub top : (page : ℕ) → slice_index_or a.stamps page 0 ≤ a.top
  -- a frame's number has 32 bits
  pub frames_fit : length a.held < 2 ^ 32
