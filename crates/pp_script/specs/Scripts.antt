-- What a script has, which text spells which script, and which line is the first that is wrong.
use Rattle.std.specs.Prelude.{◌≡◌, ℕ, ◌+◌, List, [], ◌∷◌, ◌++◌, length}
use Rattle.std.specs.List.{AllByRecursion}
use Rattle.pp_device.specs.declared.failing.Trouble.{Trouble}
use Rattle.pp_script.specs.declared.cue.Cue.{Cue}
use Rattle.pp_script.specs.declared.line.Line.{Line}
use Rattle.pp_script.specs.declared.line.Line.TheVariants.{Blank, Cued, Planted}
use Rattle.pp_script.specs.declared.error.ScriptError.{ScriptError}
use Rattle.pp_script.specs.declared.error.ScriptError.TheVariants.{NotACue, OutOfMemory}
use Rattle.pp_script.specs.Lines.{lines, Says}

-- The cues of a script, and its troubles, each with the number of the call of the device at which it is planted.
pub record Scenario : Type 0 where
  pub cues : List Cue
  pub troubles : List (ℕ × Trouble)

-- The cues that the lines say, in their order.
abbrev pub cues_of : List Line → List Cue
cues_of [] = []
cues_of (Blank ∷ said) = cues_of said
cues_of (Cued cue ∷ said) = cue ∷ cues_of said
cues_of (Planted n trouble ∷ said) = cues_of said

-- The troubles that the lines say, in their order.
abbrev pub troubles_of : List Line → List (ℕ × Trouble)
troubles_of [] = []
troubles_of (Blank ∷ said) = troubles_of said
troubles_of (Cued cue ∷ said) = troubles_of said
troubles_of (Planted n trouble ∷ said) = (n, trouble) ∷ troubles_of said

-- Each line says what stands at its place.
abbrev pub SayAll : List (List ℕ) → List Line → Type 0
SayAll [] [] = Unit {0}
SayAll (text ∷ texts) (line ∷ said) = Says text line × SayAll texts said
SayAll _ _ = ⊥

-- The text spells the script: each of its lines is empty or says a cue or a trouble, and the script has these cues and
-- these troubles, in the order of the lines, and no others.
pub record Spells (text : List ℕ) (script : Scenario) : Type 0 where
  pub said : List Line
  pub each : SayAll (lines text) said
  pub cues : script.cues ≡ cues_of said
  pub troubles : script.troubles ≡ troubles_of said

-- The line says nothing that a script can say.
abbrev pub IsWrong : List ℕ → Type 0
IsWrong text = (line : Line) → ¬ Says text line

-- The line says something.
abbrev pub IsRight : List ℕ → Type 0
IsRight text = (line : Line) × Says text line

-- The line with number n, from 1, is the first of the text that is wrong.
pub record IsFirstWrong (text : List ℕ) (n : ℕ) : Type 0 where
  pub before : List (List ℕ)
  pub line : List ℕ
  pub after : List (List ℕ)
  pub stands : lines text ≡ before ++ (line ∷ after)
  pub number : n ≡ length before + 1
  pub right : AllByRecursion IsRight before
  pub wrong : IsWrong line

-- The refusal tells the first wrong line. Want of memory tells nothing.
abbrev pub TellsFirst : List ℕ → ScriptError → Type 0
TellsFirst text (NotACue n) = IsFirstWrong text n
TellsFirst text OutOfMemory = Unit {0}
