-- Auditing segments, line by line.
use Rattle.std.specs.Prelude.{ℕ, ◌+◌, ◌-◌, ◌^◌, ◌==◌, ◌&&◌, nat_lt, Bool, true, false, List, [], ◌∷◌, Option, Some}
use Rattle.std.specs.Prelude.{None, length}
use Rattle.std.specs.Prelude.{if◌then◌else◌, slice_get, flat_map, Result, Ok, Err}
use Rattle.std.specs.Option.{ok_or}
use Rattle.pp_text.specs.Steps.{◌>>=◌, must}
use Rattle.pp_settings.specs.declared.span.Span.{Span}
use Rattle.pp_settings.specs.declared.span.Span.TheVariants.{Bounded, Endless}
use Rattle.pp_settings.specs.Layout.{Geometry}
use Rattle.pp_settings.specs.Settings.{Configuration}
use Rattle.pp_cert.specs.Accepted.{Acceptance}
use Rattle.pp_cert.specs.Walk.{same_layout}
use Rattle.pp_model.specs.declared.moves.Move.{Move}
use Rattle.pp_model.specs.Pool.{State, opening}
use Rattle.pp_model.specs.Moves.{reply_of, next_of}
use Rattle.pp_model.specs.Submitting.{submit_error, after_submit}
use Rattle.pp_model.specs.Turns.{next_turn}
use Rattle.pp_core.specs.declared.error.PrepareError.{PrepareError}
use Rattle.pp_core.specs.declared.error.PrepareError.TheVariants.{OtherSettings, TooManyPrepared}
use Rattle.pp_core.specs.Limits.{most_kept}
use Rattle.pp_core.specs.Opening.{kept_of}
use Rattle.pp_report.specs.declared.line.Asked.{Asked}
use Rattle.pp_report.specs.declared.line.Asked.TheVariants as asked
use Rattle.pp_report.specs.declared.line.Told.{Told}
use Rattle.pp_report.specs.declared.error.AuditError.TheVariants.{NotALine, NotPossible, ReplyDiffers, Unfinished}
use Rattle.pp_report.specs.Auditing.{told_reply, is_none}
use Rattle.pp_report.specs.Journals.{journal_lines}
use Rattle.pp_report.specs.Sameness.{same_told}
use Rattle.pp_segments.specs.declared.line.SegmentLine.{SegmentLine}
use Rattle.pp_segments.specs.declared.line.SegmentLine.TheVariants.{Head, Submit, Step}
use Rattle.pp_segments.specs.declared.error.SegmentError.{SegmentError}
use Rattle.pp_segments.specs.declared.error.SegmentError.TheVariants.{Audit, OtherSegment, NotPrepared, OtherLife}
use Rattle.pp_segments.specs.declared.error.SegmentError.TheVariants.{Prepare}
use Rattle.pp_segments.specs.Reading.{line_in}

-- How far an audit has come: the state that the lines lead to, how many lines there were, and how many of them were
-- heads.
pub record Progress : Type 0 where
  pub state : State
  pub lines : ℕ
  pub segments : ℕ

-- Lines and segments are told by numbers of 64 bits. Counting stops at the greatest one, which no text comes to.
abbrev pub told_count : ℕ → ℕ
told_count n = if nat_lt n (2 ^ 64) then n else 2 ^ 64 - 1

-- ---- the beginning

-- Why one of the plans can't be prepared, where so many were before them: the first that is of another layout, or the
-- first for which there is no room.
abbrev pub prepare_fault : Geometry → Span → (before : ℕ) → List Acceptance → Option PrepareError
prepare_fault g span before [] = None
prepare_fault g span before (a ∷ plans) =
    if same_layout g a.plan.layout
    then (if nat_lt before (most_kept span) then prepare_fault g span (before + 1) plans else Some TooManyPrepared)
    else Some OtherSettings

-- That a plan can't be prepared, as an error of an audit.
abbrev pub prepared_unless : Option PrepareError → Option SegmentError
prepared_unless None = None
prepared_unless (Some error) = Some (Prepare error)

-- Why no auditor is made, by the layout and the span of the settings: the life is bounded, or a plan can't be prepared.
abbrev pub span_fault : Geometry → Span → List Acceptance → Option SegmentError
span_fault g Bounded prepared = Some OtherLife
span_fault g (Endless waiting) prepared = prepared_unless (prepare_fault g (Endless waiting) 0 prepared)

-- The same, by the settings.
abbrev pub begin_fault : Configuration → List Acceptance → Option SegmentError
begin_fault c prepared = span_fault (kept_of c).layout c.span prepared

-- Nothing was done yet.
abbrev pub outset : Configuration → Progress
outset c = record { state = opening (kept_of c); lines = 0; segments = 0 }

-- ---- one line

-- The number of the next line.
abbrev pub next_line : Progress → ℕ
next_line p = told_count (p.lines + 1)

-- What is asked isn't possible.
abbrev pub not_possible : Progress → Asked → SegmentError
not_possible p asked = Audit (NotPossible (next_line p) asked (record { turn = next_turn p.state }))

-- A head is passed where its number is the next one, and as many plans were submitted before it as it tells.
abbrev pub pass_head : Progress → (segment plans_before : ℕ) → Result Progress SegmentError
pass_head p segment plans_before =
    must (segment == p.segments && plans_before == length p.state.plans) (OtherSegment (next_line p)) >>= λ passed.
    Ok (record p { lines = p.lines + 1; segments = p.segments + 1 })

-- A prepared plan is submitted where the pool takes it in.
abbrev pub pass_plan : Progress → (plan : ℕ) → Acceptance → Result Progress SegmentError
pass_plan p plan a =
    must (is_none (submit_error p.state a)) (not_possible p (asked.Submit plan)) >>= λ passed.
    Ok (record p { state = after_submit p.state a; lines = p.lines + 1 })

-- A submit is passed where its number is the next one, and its plan a prepared one that the pool takes in.
abbrev pub pass_submit : List Acceptance → Progress → (plan name : ℕ) → Result Progress SegmentError
pass_submit prepared p plan name =
    must (plan == length p.state.plans) (not_possible p (asked.Submit plan)) >>= λ passed.
    ok_or (slice_get prepared name) (NotPrepared (next_line p)) >>= pass_plan p plan

-- A move that is possible is passed where the line tells what the pool tells.
abbrev pub pass_told : Progress → Move → Told → (due : Told) → Result Progress SegmentError
pass_told p did told due =
    must (same_told told due) (Audit (ReplyDiffers (next_line p) told due)) >>= λ passed.
    Ok (record p { state = next_of p.state did; lines = p.lines + 1 })

abbrev pub pass_step : Progress → Move → Told → Result Progress SegmentError
pass_step p did told =
    ok_or (told_reply (reply_of p.state did)) (not_possible p (asked.Do did)) >>= pass_told p did told

-- Before the first head nothing else is passed.
abbrev pub in_segment : Progress → Result (Unit {0}) SegmentError
in_segment p = must (nat_lt 0 p.segments) (OtherSegment (next_line p))

-- A line is passed by its kind.
abbrev pub pass : List Acceptance → Progress → SegmentLine → Result Progress SegmentError
pass prepared p (Head segment plans_before) = pass_head p segment plans_before
pass prepared p (Submit plan name) = in_segment p >>= λ passed. pass_submit prepared p plan name
pass prepared p (Step did told) = in_segment p >>= λ passed. pass_step p did told

-- The text of a line is passed.
abbrev pub pass_text : List Acceptance → Progress → List ℕ → Result Progress SegmentError
pass_text prepared p text = ok_or (line_in text) (Audit (NotALine (next_line p))) >>= pass prepared p

-- ---- texts

-- The lines are passed, or the first fault is told.
abbrev pub pass_lines : List Acceptance → Progress → List (List ℕ) → Result Progress SegmentError
pass_lines prepared p [] = Ok p
pass_lines prepared p (line ∷ lines) = pass_text prepared p line >>= λ q. pass_lines prepared q lines

-- Nothing is left to do: no plan waits or is with a worker, and no flush is in flight.
abbrev pub is_over : Progress → Bool
is_over p = is_none (next_turn p.state)

-- At the end nothing is left to do, where that is wanted.
abbrev pub see_end : (ended : Bool) → Progress → Result Progress SegmentError
see_end true p = must (is_over p) (Audit Unfinished) >>= λ passed. Ok p
see_end false p = Ok p

-- A fault as an answer: it is the error, and where there is none nothing is wrong.
abbrev pub no_fault : Option SegmentError → Result (Unit {0}) SegmentError
no_fault None = Ok tt
no_fault (Some error) = Err error

-- How many lines and segments there were.
abbrev pub counts_of : Progress → ℕ × ℕ
counts_of p = (told_count p.lines, told_count p.segments)

-- The verdict on texts, the lines of which follow each other: how many lines and segments there are, or the first
-- fault.
abbrev pub auditing : Configuration → List Acceptance → (ended : Bool) → (texts : List (List ℕ))
    → Result (ℕ × ℕ) SegmentError
auditing c prepared ended texts =
    no_fault (begin_fault c prepared) >>= λ begun.
    pass_lines prepared (outset c) (flat_map journal_lines texts) >>= see_end ended >>= λ p. Ok (counts_of p)
