-- How a directory keeps ARC's lists.
use Rattle.std.specs.Prelude.{ℕ, ◌*◌, ◌≤◌, ◌⊎◌}
use Rattle.pp_arc.specs.FourLists.{FourLists}
use Rattle.pp_arc.specs.Bounds.{IsWithinBounds}

-- the lists are those of the links; how many pages the cache holds, and the target, are fields
abbrev pub lists_with : FourLists → ℕ → ℕ → FourLists
lists_with links c target = record links { c = c; target = target }

-- What holds of a directory's fields at all times.
pub record IsSound (links : FourLists) (c target : ℕ) : Type 0 where
  pub bounds : IsWithinBounds (lists_with links c target)
  -- the links have room for all pages that may stand in the lists
  pub room : (2 * c ≤ links.c) ⊎ (links.pages ≤ links.c)
