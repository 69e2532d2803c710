-- The lines of a journal's text.
use Rattle.std.specs.Prelude.{ℕ, ◌==◌, List, [], ◌∷◌, if◌then◌else◌}

-- One more byte in front of the first line.
abbrev pub onto_first : ℕ → List (List ℕ) → List (List ℕ)
onto_first b [] = (b ∷ []) ∷ []
onto_first b (line ∷ lines) = (b ∷ line) ∷ lines

-- Each line feed ends a line; what follows the last one is a line too, where anything follows.
abbrev pub journal_lines : List ℕ → List (List ℕ)
journal_lines [] = []
journal_lines (b ∷ bs) = if b == 10 then [] ∷ journal_lines bs else onto_first b (journal_lines bs)
