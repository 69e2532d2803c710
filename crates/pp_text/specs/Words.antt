-- How texts are put together: words in quotes, and lists.
use Rattle.std.specs.Prelude.{ℕ, List, ◌++◌, codes}
use Rattle.std.specs.List.{join_with_byte}

-- A word in quotes.
abbrev pub in_quotes : List ℕ → List ℕ
in_quotes word = codes "\"" ++ word ++ codes "\""

-- Texts with a comma between each two.
abbrev pub with_commas : List (List ℕ) → List ℕ
with_commas texts = join_with_byte 44 texts

-- The same in brackets.
abbrev pub in_brackets : List (List ℕ) → List ℕ
in_brackets texts = codes "[" ++ with_commas texts ++ codes "]"
