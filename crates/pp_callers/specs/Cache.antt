-- What a tiny cache keeps true of its directory and its marks.
use Rattle.std.specs.Prelude.{◌≡◌, ℕ, nat_lt, Bool, IsTrue, IsSome}
use Rattle.pp_arc.specs.FourLists.{FourLists, is_cached}
use Rattle.pp_frames.specs.Marks.{PageMap, page_count, frame_of, pins_of, latches_of, latch_count}

-- Whether the page is pinned.
abbrev pub is_pinned : PageMap → ℕ → Bool
is_pinned m page = nat_lt 0 (pins_of m page)

-- The directory and the marks are of 3 frames and of 24 pages, each page in a frame is one that the directory has
-- cached, and no page is latched.
pub record AreOfOneCache (s : FourLists) (m : PageMap) : Type 0 where
  pub pages : s.pages ≡ 24
  pub marked_pages : page_count m ≡ 24
  pub frames : m.frames ≡ 3
  pub cached : (page : ℕ) → IsSome (frame_of m page) → IsTrue (is_cached s page)
  pub unlatched : (page : ℕ) → latch_count (latches_of m page) ≡ 0
