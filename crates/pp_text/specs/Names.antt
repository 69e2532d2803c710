-- Which texts are names.
use Rattle.std.specs.Prelude.{ℕ, List, [], ◌∷◌, length, Bool, false, ◌&&◌, ◌||◌, ◌==◌, nat_lt}
use Rattle.std.specs.List.{list_all}
use Rattle.std.specs.Char.{is_ascii_digit, is_ascii_lowercase}

-- A small letter, a digit or the underscore.
abbrev pub is_name_byte : ℕ → Bool
is_name_byte b = is_ascii_lowercase b || is_ascii_digit b || b == 95

-- 1 to so many of these bytes, the first a letter.
abbrev pub is_name : (most : ℕ) → List ℕ → Bool
is_name most [] = false
is_name most (b ∷ bs) = is_ascii_lowercase b && nat_lt (length bs) most && list_all is_name_byte bs
