-- How the pages of bundles are kept: the first stack has the records that are free, the others those of the places.
use Rattle.std.specs.Prelude.{ℕ, ◌<◌, ◌≤◌, ◌^◌, List, length, drop, sum_by}
use Rattle.pp_bundles.specs.Bundles.{PageStacks}

-- What these stacks are to a caller: there is room for as many pages as there are records.
abbrev pub stacks_behind : List (List ℕ) → PageStacks
stacks_behind all = record { room = sum_by length all; stacks = drop 1 all }

-- There is the stack of the free records, and the number of the others fits 32 bits.
pub record HasFree (all : List (List ℕ)) : Type 0 where
  pub some : 0 < length all
  pub fits : length all ≤ 2 ^ 32
