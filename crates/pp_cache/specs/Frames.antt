-- Which frame has the page of a key, and which pages are pinned: a map from keys.
use Rattle.std.specs.Prelude.{◌≡◌, ℕ, ◌+◌, ◌-◌, ◌<◌, ◌==◌, Bool, false, Option, None, Some, is_some, List, [], ◌++◌}
use Rattle.std.specs.Prelude.{length, replicate, slice_index_or, slice_set, count_by, if◌then◌else◌}
use Rattle.std.specs.Option.{option_map}
use Rattle.pp_cache.specs.declared.resident.Resident.{Resident}

-- How many frames there are, numbered from 0, and where the page of each key is, if it stands in a frame: the page of
-- key k stands at place k.
pub record FrameMap : Type 0 where
  pub frames : ℕ
  pub pages : List (Option Resident)

-- There is no frame, and room for no key.
abbrev pub no_frames : FrameMap
no_frames = record { frames = 0; pages = [] }

-- Where the page of a key is, if it stands in a frame. That of a key past the last one stands in none.
abbrev pub page_of : FrameMap → ℕ → Option Resident
page_of m key = slice_index_or m.pages key None

abbrev pub frame_of : FrameMap → ℕ → Option ℕ
frame_of m key = option_map (λ (page : Resident). page.frame) (page_of m key)

-- Whether the page is pinned. Only a page that stands in a frame is.
abbrev pub is_held : Option Resident → Bool
is_held None = false
is_held (Some page) = page.is_pinned

abbrev pub is_pinned : FrameMap → ℕ → Bool
is_pinned m key = is_held (page_of m key)

-- How many pages stand in frames, and how many of them are pinned.
abbrev pub resident_count : FrameMap → ℕ
resident_count m = count_by is_some m.pages

abbrev pub pinned_count : FrameMap → ℕ
pinned_count m = count_by is_held m.pages

-- The map in which this is where the page of the key is, and all else is as before.
abbrev pub with_page : FrameMap → ℕ → Option Resident → FrameMap
with_page m key page = record m { pages = slice_set m.pages key page }

-- The same page, pinned or not.
abbrev pub pinned_to : Bool → Option Resident → Option Resident
pinned_to is None = None
pinned_to is (Some page) = Some (record page { is_pinned = is })

-- The map in which the page of the key, where it stands in a frame, is pinned or isn't.
abbrev pub with_pinned : FrameMap → ℕ → Bool → FrameMap
with_pinned m key is = with_page m key (pinned_to is (page_of m key))

-- The map in which the page of one key is that of another.
abbrev pub moved : FrameMap → ℕ → ℕ → FrameMap
moved m from to = with_page (with_page m from None) to (page_of m from)

-- The map with room for so many keys.
abbrev pub with_keys : FrameMap → ℕ → FrameMap
with_keys m keys = record m { pages = m.pages ++ replicate (keys - length m.pages) None }

-- The map with one more frame where each frame has a page.
abbrev pub with_free_frame : FrameMap → FrameMap
with_free_frame m = record m { frames = if resident_count m == m.frames then m.frames + 1 else m.frames }

-- No page stands in the frame.
abbrev pub IsFree : FrameMap → ℕ → Type 0
IsFree m frame = (key : ℕ) → frame_of m key ≡ Some frame → ⊥

-- Whatever calls were made: frames are below their number, and no frame has the pages of two keys.
pub record IsOneToOne (m : FrameMap) : Type 0 where
  pub in_range : (key frame : ℕ) → frame_of m key ≡ Some frame → frame < m.frames
  pub no_frame_twice : (p q frame : ℕ) → frame_of m p ≡ Some frame → frame_of m q ≡ Some frame → p ≡ q
