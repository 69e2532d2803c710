-- What holds of ARC's lists at all times.
-- (The bounds of Megiddo and Modha, FAST 2003, section III. Unlike there, names may be remembered while a frame is
-- free, and a busy page may stay though it is older than one that left.)
use Rattle.std.specs.Prelude.{ℕ, ◌*◌, ◌<◌, ◌≤◌}
use Rattle.pp_arc.specs.FourLists.{FourLists, cached_count, recent_count, total_count, times_named}

pub record IsWithinBounds (s : FourLists) : Type 0 where
  -- the cache holds at least one page
  pub holds_a_page : 1 ≤ s.c
  -- |T1| + |T2| <= c
  pub cached : cached_count s ≤ s.c
  -- |T1| + |B1| <= c
  pub recent : recent_count s ≤ s.c
  -- all four together <= 2c
  pub total : total_count s ≤ 2 * s.c
  -- no page stands twice
  pub once : (x : ℕ) → times_named s x ≤ 1
  -- every page that stands in a list is below `pages`
  pub below : (x : ℕ) → 0 < times_named s x → x < s.pages
  -- 0 <= target <= c
  pub aimed : s.target ≤ s.c
