-- How many pages have a number.
use Rattle.std.specs.Prelude.{◌≡◌, ℕ, ◌<◌, ◌^◌, List, length, nat_lt, sum_by, if◌then◌else◌}

-- 1 for a number, 0 for none
abbrev pub counts : ℕ → ℕ
counts n = if nat_lt 0 n then 1 else 0

-- so many of the pages have a number, and their count fits 32 bits
pub record IsCounted (passed : ℕ) (numbers : List ℕ) : Type 0 where
  pub count : passed ≡ sum_by counts numbers
  pub fits : length numbers < 2 ^ 32
