-- The number of the last record in the image of a page of the tree.
use Rattle.std.specs.Prelude.{ℕ, nat_lt, List, length, take, drop, if◌then◌else◌}
use Rattle.std.specs.Int.{w64, from_be_bytes}

-- The number that stands in eight bytes, of which this is the first, big-endian.
unfoldable pub number_at : List ℕ → ℕ → ℕ
number_at bytes at = from_be_bytes w64 (take 8 (drop at bytes))

-- That in bytes 4084 to 4091, behind the 253 entries of a node; 0 where there are no such bytes.
abbrev pub number_of : List ℕ → ℕ
number_of image = if nat_lt (length image) 4092 then 0 else number_at image 4084
