-- A text in parts: the lines of a text, and the words of a line.
use Rattle.std.specs.Prelude.{ℕ, ◌==◌, List, [], ◌∷◌, Option, None, Some, if◌then◌else◌}
use Rattle.std.specs.Borrow.{Bor}
use Rattle.std.specs.List.{slice_split}

-- The parts of a text, which is cut at each such byte. There is one part more than cuts.
abbrev pub parts : ℕ → List ℕ → List (List ℕ)
parts separator text = slice_split (λ b. b == separator) text

-- The parts of what is left of a text, if anything is left.
abbrev pub later_parts : ℕ → Option (Bor (List ℕ)) → List (List ℕ)
later_parts separator None = []
later_parts separator (Some rest) = parts separator rest.now

-- What stands before the first such byte; the whole text where there is none.
abbrev pub ahead : ℕ → List ℕ → List ℕ
ahead separator [] = []
ahead separator (b ∷ bs) = if b == separator then [] else b ∷ ahead separator bs

-- What stands behind the first such byte, if there is one.
abbrev pub behind : ℕ → List ℕ → Option (List ℕ)
behind separator [] = None
behind separator (b ∷ bs) = if b == separator then Some bs else behind separator bs
