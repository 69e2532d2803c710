-- A set of numbers below a limit, as a list with one Bool for each of them: whether it is a member.
use Rattle.std.specs.Prelude.{ℕ, ◌&&◌, nat_le, Bool, false, Option, List, length, slice_index_or}
use Rattle.pp_frames.specs.Least.{least_below}

-- Whether the number is a member. One from the limit on is none.
abbrev pub is_member : List Bool → ℕ → Bool
is_member set number = slice_index_or set number false

-- The least member from a number on, if there is one.
abbrev pub least_from : List Bool → ℕ → Option ℕ
least_from set from = least_below (λ k. nat_le from k && is_member set k) (length set)
