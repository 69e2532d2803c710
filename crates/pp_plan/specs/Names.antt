-- Slot names.
use Rattle.std.specs.Prelude.{ℕ, List, Bool}
use Rattle.std.specs.Ordering.{is_lt, nat_cmp}
use Rattle.std.specs.Cmp.Lexicographic.{slice_cmp}
use Rattle.pp_text.specs.Names.{is_name}
use Rattle.pp_plan.specs.Limits.{longest_name}

-- A slot name: 1 to 16 lower-case letters, digits and `_`, a letter first.
abbrev pub is_slot_name : List ℕ → Bool
is_slot_name text = is_name longest_name text

-- The first name stands before the second in byte order.
abbrev pub comes_before : List ℕ → List ℕ → Bool
comes_before a b = is_lt (slice_cmp nat_cmp a b)
