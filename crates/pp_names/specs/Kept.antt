-- How what the code keeps stands for the names and their keys.
use Rattle.std.specs.Prelude.{◌≡◌, ◌≢◌, ℕ, ◌≤◌, ◌==◌, Option, None, Some, List, map, if◌then◌else◌}
use Rattle.pp_names.specs.Slots.{none, at, IsTable}

-- the key, if it is one
abbrev pub as_key : ℕ → Option ℕ
as_key k = if k == none then None else Some k

-- the key of each name
abbrev pub keys_of : List ℕ → List (Option ℕ)
keys_of keys = map as_key keys

-- What holds of a table whenever no call is under way.
pub record IsKept (keys slots : List ℕ) : Type 0 where
  pub table : IsTable keys slots
  -- a key is below the number that stands for none
  pub low : (name : ℕ) → at keys name ≤ none
  -- no key has two names
  pub apart : (p q : ℕ) → at keys p ≢ none → at keys p ≡ at keys q → p ≡ q
