-- How what the code keeps stands for the map of the frames.
use Rattle.std.specs.Prelude.{◌≡◌, ℕ, ◌+◌, ◌<◌, ◌≤◌, ◌^◌, ◌==◌, Bool, false, Option, None, Some, is_some, List, length, drop}
use Rattle.std.specs.Prelude.{count_by}
use Rattle.pp_arc.specs.Pages.{times_in}
use Rattle.pp_cache.specs.declared.resident.Resident.{Resident}
use Rattle.pp_cache.specs.Frames.{FrameMap, is_held}

-- Where the page of each key is; all frames in an order in which those without a page stand last; how many frames have
-- one; and how many pages are pinned.
pub record Parts : Type 0 where
  pub pages : List (Option Resident)
  pub order : List ℕ
  pub taken : ℕ
  pub pinned : ℕ

-- The map that they stand for.
abbrev pub frame_map : Parts → FrameMap
frame_map p = record { frames = length p.order; pages = p.pages }

-- The frames that have no page.
abbrev pub free_frames : Parts → List ℕ
free_frames p = drop p.taken p.order

-- Whether the page stands in this frame.
abbrev pub is_in : ℕ → Option Resident → Bool
is_in frame None = false
is_in frame (Some page) = page.frame == frame

-- How often a frame is free, or has a page.
abbrev pub uses : Parts → ℕ → ℕ
uses p frame = times_in (free_frames p) frame + count_by (is_in frame) p.pages

-- What holds of them whenever no call is under way: each frame is free or has one page.
pub record IsKept (p : Parts) : Type 0 where
  pub taken : p.taken ≡ count_by is_some p.pages
  pub pinned : p.pinned ≡ count_by is_held p.pages
  pub within : p.taken ≤ length p.order
  pub keys_fit : length p.pages + 4 ≤ 2 ^ 32
  pub frames_fit : length p.order < 2 ^ 32
  pub once : (frame : ℕ) → frame < length p.order → uses p frame ≡ 1
  pub never : (frame : ℕ) → length p.order ≤ frame → uses p frame ≡ 0
