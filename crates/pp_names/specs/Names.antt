-- Which key each name has, and which name each key.
use Rattle.std.specs.Prelude.{◌≡◌, ◌≢◌, ℕ, Option, None, Some, is_some, List, count_by, slice_index_or}

-- The key of a name, if it has one: that of name n stands at place n. A name past the last one has none.
abbrev pub key_of : List (Option ℕ) → ℕ → Option ℕ
key_of names name = slice_index_or names name None

-- No name has this key.
abbrev pub IsUnnamed : List (Option ℕ) → ℕ → Type 0
IsUnnamed names key = (name : ℕ) → key_of names name ≢ Some key

-- No key has two names.
abbrev pub IsOneToOne : List (Option ℕ) → Type 0
IsOneToOne names = (p q key : ℕ) → key_of names p ≡ Some key → key_of names q ≡ Some key → p ≡ q

-- How many names have a key.
abbrev pub named_count : List (Option ℕ) → ℕ
named_count names = count_by is_some names
