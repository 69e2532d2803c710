-- The number of a record in an image.
use Rattle.std.specs.Prelude.{ℕ, nat_lt, List, length, take, drop, if◌then◌else◌}
use Rattle.std.specs.Int.{w64, from_be_bytes}

-- Bytes 12 to 19, big-endian; 0 where there are no such bytes.
abbrev pub number_of : List ℕ → ℕ
number_of image = if nat_lt (length image) 20 then 0 else from_be_bytes w64 (take 8 (drop 12 image))
