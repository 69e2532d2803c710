-- The lines of a simulation.
use Rattle.std.specs.Prelude.{ℕ, zero, suc, ◌+◌, List, [], ◌∷◌, ◌++◌, Option, None, Some, codes}
use Rattle.std.specs.Fmt.{decimal}
use Rattle.pp_model.specs.Budget.{bound}
use Rattle.pp_model.specs.Pool.{State}
use Rattle.pp_model.specs.Turns.{next_turn}
use Rattle.pp_model.specs.Words.{turn_words}
use Rattle.pp_model.specs.declared.event.Event.TheVariants.{Submit}
use Rattle.pp_model.specs.declared.turn.Turn.{Turn}
use Rattle.pp_play.specs.Words.{printed_words}
use Rattle.pp_play.specs.declared.line.Line.{Line}
use Rattle.pp_report.specs.Lines.{event_words, line_of, line_words}
use Rattle.pp_script.specs.declared.cue.Cue.{Cue}

-- The plan of this number waits behind the others, as a journal has it: `submit 0 = queued`.
abbrev pub queued_text : ℕ → List ℕ
queued_text number = line_words (line_of (Submit number))

-- The same, ended by a line feed.
abbrev pub queued_line : ℕ → List ℕ
queued_line number = event_words (Submit number)

-- The lines of so many plans, from this number on.
abbrev pub queued_lines : (number count : ℕ) → List ℕ
queued_lines number zero = []
queued_lines number (suc count) = queued_line number ++ queued_lines (number + 1) count

-- A cue and what it came to, as in `fix 0 16 = mustread 1`, ended by a line feed.
abbrev pub cue_line : Cue → Line → List ℕ
cue_line cue line = printed_words cue line ++ codes "\n"

-- The lines of cues, each with its own.
abbrev pub cue_lines : List Cue → List Line → List ℕ
cue_lines (cue ∷ cues) (line ∷ lines) = cue_line cue line ++ cue_lines cues lines
cue_lines _ _ = []

-- Whose move is next, if there is one.
abbrev pub turn_text : Option Turn → List ℕ
turn_text None = codes "none"
turn_text (Some turn) = turn_words turn

-- Whose move is next, and how many moves are left at most, as in `next act 1 budget 53`.
abbrev pub next_text : Option Turn → ℕ → List ℕ
next_text turn budget = codes "next " ++ turn_text turn ++ codes " budget " ++ decimal budget

-- The same of a state, ended by a line feed.
abbrev pub next_line : State → List ℕ
next_line s = next_text (next_turn s) (bound s) ++ codes "\n"

-- All lines: of so many plans, of the cues, and of the state at the end.
abbrev pub transcript : (plans : ℕ) → List Cue → List Line → State → List ℕ
transcript plans cues lines s = queued_lines 0 plans ++ cue_lines cues lines ++ next_line s
