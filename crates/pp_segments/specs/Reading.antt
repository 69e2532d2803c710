-- Reading a line of a segment, in steps.
use Rattle.std.specs.Prelude.{ℕ, List, Option, Some, None, if◌then◌else◌, option_map, option_and_then, codes}
use Rattle.std.specs.Str.{bytes_eq}
use Rattle.pp_text.specs.Parts.{ahead, behind}
use Rattle.pp_text.specs.Numbers.{number_in, small_number}
use Rattle.pp_model.specs.declared.moves.Move.{Move}
use Rattle.pp_model.specs.declared.reply.Reply.TheVariants.{Taken}
use Rattle.pp_report.specs.declared.line.Asked.{Asked}
use Rattle.pp_report.specs.declared.line.Asked.TheVariants as asked
use Rattle.pp_report.specs.declared.line.Told.{Told}
use Rattle.pp_report.specs.declared.line.Told.TheVariants.{Answer}
use Rattle.pp_report.specs.Reading.{sides, asked_in, told_in}
use Rattle.pp_segments.specs.declared.line.SegmentLine.{SegmentLine}
use Rattle.pp_segments.specs.declared.line.SegmentLine.TheVariants.{Head, Submit, Step}

-- The head of the segment that has this number, behind so many plans.
abbrev pub head_in : List ℕ → List ℕ → Option SegmentLine
head_in segment plans_before =
    option_and_then (λ n. option_map (λ k. Head n k) (number_in plans_before)) (number_in segment)

-- The submit of the plan and the prepared plan that have these numbers.
abbrev pub submit_of : List ℕ → Option SegmentLine
submit_of numbers =
    option_and_then (λ k. option_and_then (λ rest. option_map (λ p. Submit k p) (small_number rest))
    (behind 32 numbers)) (number_in (ahead 32 numbers))

-- That submit, where it is told that the plan waits. A submit has no other reply.
abbrev pub submit_in : List ℕ → List ℕ → Option SegmentLine
submit_in numbers told = if bytes_eq told (codes "queued") then submit_of numbers else None

-- What is asked in a journal, where it is a move.
abbrev pub move_of : Asked → Option Move
move_of (asked.Submit plan) = None
move_of (asked.Do did) = Some did

-- The move that the text asks, in the words of a journal.
abbrev pub move_in : List ℕ → Option Move
move_in text = option_and_then move_of (asked_in text)

-- The plan of a number of 64 bits that stands behind a word.
abbrev pub taken_in : List ℕ → Option Told
taken_in text = option_and_then (λ rest. option_map (λ plan. Answer (Taken plan)) (number_in rest)) (behind 32 text)

-- What the text tells of a move: such a plan, or anything else in the words of a journal.
abbrev pub answered_in : List ℕ → Option Told
answered_in text = if bytes_eq (ahead 32 text) (codes "taken") then taken_in text else told_in text

-- The move and what is told of it.
abbrev pub step_in : (left right : List ℕ) → Option SegmentLine
step_in left right =
    option_and_then (λ did. option_map (λ told. Step did told) (answered_in right)) (move_in left)

-- What a text says that has these sides.
abbrev pub line_from : (left right : List ℕ) → Option SegmentLine
line_from left right =
    if bytes_eq (ahead 32 left) (codes "segment") then option_and_then (λ rest. head_in rest right) (behind 32 left)
    else (if bytes_eq (ahead 32 left) (codes "submit")
    then option_and_then (λ rest. submit_in rest right) (behind 32 left)
    else step_in left right)

-- What the line says, if it is one of a segment.
abbrev pub line_in : List ℕ → Option SegmentLine
line_in text = option_and_then (λ p. line_from p.0 p.1) (sides text)
