-- Auditing a journal, line by line.
use Rattle.std.specs.Prelude.{ℕ, ◌+◌, Bool, true, false, ◌&&◌, ◌==◌, List, [], ◌∷◌, Option, Some, None, length}
use Rattle.std.specs.Prelude.{if◌then◌else◌, Result, Ok}
use Rattle.std.specs.Option.{ok_or}
use Rattle.pp_text.specs.Steps.{◌>>=◌, must}
use Rattle.pp_settings.specs.Settings.{Configuration}
use Rattle.pp_cert.specs.Accepted.{Acceptance}
use Rattle.pp_model.specs.declared.refusals.SubmitError.{SubmitError}
use Rattle.pp_model.specs.declared.reply.Reply.{Reply}
use Rattle.pp_model.specs.Pool.{State, opening}
use Rattle.pp_model.specs.Moves.{reply_of, next_of, is_refusal}
use Rattle.pp_model.specs.Submitting.{submit_error, after_submit}
use Rattle.pp_model.specs.Turns.{next_turn}
use Rattle.pp_core.specs.Opening.{kept_of}
use Rattle.pp_report.specs.declared.line.Asked.{Asked}
use Rattle.pp_report.specs.declared.line.Asked.TheVariants.{Submit, Do}
use Rattle.pp_report.specs.declared.line.Told.{Told}
use Rattle.pp_report.specs.declared.line.Told.TheVariants.{Queued, Answer}
use Rattle.pp_report.specs.declared.line.Line.{Line}
use Rattle.pp_report.specs.declared.error.AuditError.{AuditError}
use Rattle.pp_report.specs.declared.error.AuditError.TheVariants.{NotALine, NotPossible, ReplyDiffers, Unfinished}
use Rattle.pp_report.specs.Journals.{journal_lines}
use Rattle.pp_report.specs.Reading.{line_in}
use Rattle.pp_report.specs.Sameness.{same_told}

-- How far an audit has come: the state that the lines lead to, and the plans that no line has submitted.
pub record Progress : Type 0 where
  pub state : State
  pub waiting : List Acceptance

-- ---- what the pool tells

-- A plan that is taken in waits; one that is refused tells nothing.
abbrev pub told_unless : Option SubmitError → Option Told
told_unless None = Some Queued
told_unless (Some error) = None

-- A plan is submitted where its number is the next one, and there is one more.
abbrev pub told_plan : State → (number : ℕ) → List Acceptance → Option Told
told_plan s number [] = None
told_plan s number (a ∷ rest) = if number == length s.plans then told_unless (submit_error s a) else None

-- A move that is refused tells nothing.
abbrev pub told_reply : Reply → Option Told
told_reply reply = if is_refusal reply then None else Some (Answer reply)

-- What the pool tells where this is asked; None where it isn't possible.
abbrev pub told_to : Progress → Asked → Option Told
told_to p (Submit number) = told_plan p.state number p.waiting
told_to p (Do move) = told_reply (reply_of p.state move)

-- What follows where it is possible.
abbrev pub after_next : State → List Acceptance → Progress
after_next s [] = record { state = s; waiting = [] }
after_next s (a ∷ rest) = record { state = after_submit s a; waiting = rest }

abbrev pub after_asked : Progress → Asked → Progress
after_asked p (Submit number) = after_next p.state p.waiting
after_asked p (Do move) = record p { state = next_of p.state move }

-- ---- the verdict

-- A line that is possible and tells what the pool tells is passed.
abbrev pub pass_told : Progress → (number : ℕ) → Line → (due : Told) → Result Progress AuditError
pass_told p number line due =
    must (same_told line.told due) (ReplyDiffers number line.told due) >>= λ passed. Ok (after_asked p line.asked)

abbrev pub pass : Progress → (number : ℕ) → Line → Result Progress AuditError
pass p number line =
    ok_or (told_to p line.asked) (NotPossible number line.asked (record { turn = next_turn p.state })) >>= pass_told p number line

-- The text of the line with this number is passed.
abbrev pub pass_text : Progress → (number : ℕ) → List ℕ → Result Progress AuditError
pass_text p number text = ok_or (line_in text) (NotALine number) >>= pass p number

-- At the end each plan was submitted, and nothing more is possible.
abbrev pub is_none : {A : Type 0} → Option A → Bool
is_none None = true
is_none (Some x) = false

abbrev pub is_over : Progress → Bool
is_over p = length p.waiting == 0 && is_none (next_turn p.state)

-- The number of lines, after so many before these; or the first fault.
abbrev pub auditing_from : Progress → (before : ℕ) → List (List ℕ) → Result ℕ AuditError
auditing_from p before [] = must (is_over p) Unfinished >>= λ passed. Ok before
auditing_from p before (text ∷ texts) =
    pass_text p (before + 1) text >>= λ q. auditing_from q (before + 1) texts

-- Nothing was done yet.
abbrev pub outset : Configuration → List Acceptance → Progress
outset c plans = record { state = opening (kept_of c); waiting = plans }

-- The verdict on a journal's text.
abbrev pub auditing : Configuration → List Acceptance → List ℕ → Result ℕ AuditError
auditing c plans text = auditing_from (outset c plans) 0 (journal_lines text)
