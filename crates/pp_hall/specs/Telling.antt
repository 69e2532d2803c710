-- Two that may start, together.
use Rattle.std.specs.Prelude.{ℕ, Bool, false, not, ◌==◌, Option, None, Some}

-- The first of two tickets, or the second where there is no first.
abbrev pub both_next : Option ℕ → Option ℕ → Option ℕ
both_next None second = second
both_next (Some ticket) second = Some ticket

-- Whether they are two tickets, and not the same.
abbrev pub are_apart : Option ℕ → Option ℕ → Bool
are_apart (Some first) (Some second) = not (first == second)
are_apart _ _ = false
