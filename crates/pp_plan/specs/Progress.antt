-- How far the reading of a plan is.
use Rattle.std.specs.Prelude.{◌≡◌, ℕ, ◌≤◌, Bool, List, length}
use Rattle.pp_settings.specs.Limits.{most_statements, most_slots}

-- The slot names in the order of their first use, which of them were first used as bundles, and how many statements have
-- begun. The table of bundles has a place for each slot that may be named.
pub record Progress : Type 0 where
  pub names : List (List ℕ)
  pub bundles : List Bool
  pub count : ℕ

pub record IsProgress (p : Progress) : Type 0 where
  pub names : length p.names ≤ most_slots
  pub bundles : length p.bundles ≡ most_slots
  pub count : p.count ≤ most_statements
