-- Sets of bells, as numbers, and which bell is a worker's.
use Rattle.std.specs.Prelude.{ℕ, ◌%◌, ◌==◌, Bool}
use Rattle.std.specs.Int.{bit_at}
use Rattle.pp_settings.specs.Limits.{bell_count}

-- Whether the set has the bell: its bit is 1.
abbrev pub has_bell : (mask bell : ℕ) → Bool
has_bell mask bell = bit_at mask bell == 1

-- The worker's bell. There are 32, so workers whose numbers are 32 apart share one.
abbrev pub bell_of : (worker : ℕ) → ℕ
bell_of worker = worker % bell_count
