-- How a line of a segment is spelled: `segment 1 = 2`, `submit 2 0 = queued`, `fix 0 16 = mustread 1`.
use Rattle.std.specs.Prelude.{◌≡◌, ℕ, ◌<◌, ◌^◌, List, ◌++◌, codes}
use Rattle.std.specs.Fmt.{decimal}
use Rattle.pp_model.specs.declared.reply.Reply.TheVariants.{Taken}
use Rattle.pp_model.specs.Words.{move_words}
use Rattle.pp_report.specs.declared.line.Told.{Told}
use Rattle.pp_report.specs.declared.line.Told.TheVariants.{Answer}
use Rattle.pp_report.specs.Lines.{told_words, FitsMove, FitsTold}
use Rattle.pp_segments.specs.declared.line.SegmentLine.{SegmentLine}
use Rattle.pp_segments.specs.declared.line.SegmentLine.TheVariants.{Head, Submit, Step}

-- ---- words

-- What stands before the equals sign: of a head its number, of a submit those of the plan and of the prepared plan,
-- or a move.
abbrev pub left_words : SegmentLine → List ℕ
left_words (Head segment plans_before) = codes "segment " ++ decimal segment
left_words (Submit plan prepared) = codes "submit " ++ decimal plan ++ codes " " ++ decimal prepared
left_words (Step did told) = move_words did

-- And what stands behind it: of a head how many plans were submitted before it, that the plan waits, or what a move
-- is told.
abbrev pub right_words : SegmentLine → List ℕ
right_words (Head segment plans_before) = decimal plans_before
right_words (Submit plan prepared) = codes "queued"
right_words (Step did told) = told_words told

abbrev pub line_words : SegmentLine → List ℕ
line_words l = left_words l ++ codes " = " ++ right_words l

-- ---- which numbers a line may have

-- What a move is told fits as in a journal, but that a plan's number is below 2^64: an endless life needs so many.
abbrev pub FitsAnswered : Told → Type 0
FitsAnswered (Answer (Taken plan)) = plan < 2 ^ 64
FitsAnswered told = FitsTold told

-- Numbers of segments and of plans have 64 bits wherever they stand, those of prepared plans 32, and all others as many
-- as in a journal.
abbrev pub FitsLine : SegmentLine → Type 0
FitsLine (Head segment plans_before) = (segment < 2 ^ 64) × (plans_before < 2 ^ 64)
FitsLine (Submit plan prepared) = (plan < 2 ^ 64) × (prepared < 2 ^ 32)
FitsLine (Step did told) = FitsMove did × FitsAnswered told

-- The text of a line says this: it is its words, and nothing else.
abbrev pub Says : List ℕ → SegmentLine → Type 0
Says text l = FitsLine l × (text ≡ line_words l)
