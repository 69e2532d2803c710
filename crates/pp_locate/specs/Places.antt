-- Lines and columns of a text, as editors count them.
use Rattle.std.specs.Prelude.{ℕ, ◌+◌, ◌-◌, ◌==◌, List, [], length, take, Bool, not, count_by, bit_and, slice_index_or}
use Rattle.std.specs.List.{slice_split}

-- the lines of a text, without their line feeds
abbrev pub lines : List ℕ → List (List ℕ)
lines text = slice_split (λ b. b == 10) text

-- the line with this number, from 1; empty where the text has no such line
abbrev pub line_of : (number : ℕ) → List ℕ → List ℕ
line_of number text = slice_index_or (lines text) (number - 1) []

-- whether a character begins at the byte: it is no later byte of a character of UTF-8
abbrev pub begins_character : ℕ → Bool
begins_character b = not (bit_and b 192 == 128)

-- the line that the place behind these bytes is in, from 1
abbrev pub line_behind : List ℕ → ℕ
line_behind before = length (lines before)

-- the column that it is in, from 1: one more than the characters of the last line begun
abbrev pub column_behind : List ℕ → ℕ
column_behind before = 1 + count_by begins_character (line_of (line_behind before) before)
