-- The lines of a text, and what a line says.
use Rattle.std.specs.Prelude.{◌≡◌, ℕ, List, []}
use Rattle.pp_text.specs.Parts.{parts}
use Rattle.pp_script.specs.declared.line.Line.{Line}
use Rattle.pp_script.specs.declared.line.Line.TheVariants.{Blank, Cued, Planted}
use Rattle.pp_script.specs.Cues.{with_spaces, cue_words, FitsCue, trouble_words, FitsTrouble}

-- The lines of a text: it is cut at line feeds.
abbrev pub lines : List ℕ → List (List ℕ)
lines text = parts 10 text

-- The words of a line: it is cut at spaces.
abbrev pub words : List ℕ → List (List ℕ)
words line = parts 32 line

-- The words of what a line says: none, those of a cue, or those of a trouble.
abbrev pub said_words : Line → List (List ℕ)
said_words Blank = []
said_words (Cued cue) = cue_words cue
said_words (Planted n trouble) = trouble_words n trouble

-- Its numbers are within their bounds.
abbrev pub FitsLine : Line → Type 0
FitsLine Blank = Unit {0}
FitsLine (Cued cue) = FitsCue cue
FitsLine (Planted n trouble) = FitsTrouble n trouble

-- The text of a line says this: it is empty, or it is the words of a cue or of a trouble, with single spaces, numbers
-- in decimal without leading zeros, and each number within its bounds.
abbrev pub Says : List ℕ → Line → Type 0
Says text line = FitsLine line × (text ≡ with_spaces (said_words line))
