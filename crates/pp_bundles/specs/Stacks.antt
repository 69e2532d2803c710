-- A list of stacks, each of them as the list of its pages, the first on top.
use Rattle.std.specs.Prelude.{ℕ, List, [], ◌∷◌, drop, slice_index_or, slice_set}

-- The pages of one stack. Past the last stack there are none.
abbrev pub stack_at : List (List ℕ) → ℕ → List ℕ
stack_at all k = slice_index_or all k []

-- One stack loses what is on top, and another gets this page on top.
abbrev pub moved : List (List ℕ) → (from to page : ℕ) → List (List ℕ)
moved all from to page = slice_set (slice_set all from (drop 1 (stack_at all from))) to (page ∷ stack_at all to)
