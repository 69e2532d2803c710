-- What an auditor keeps, and what its steps do.
use Rattle.std.specs.Prelude.{◌≡◌, ℕ, List, Option, Some, None, Result, Ok, Err, IfErr, reverse}
use Rattle.pp_settings.specs.declared.span.Span.TheVariants.{Bounded}
use Rattle.pp_core.specs.StandsFor.{StandsFor}
use Rattle.pp_report.specs.declared.auditor.Auditor.{Auditor}
use Rattle.pp_report.specs.declared.error.AuditError.{AuditError}
use Rattle.pp_report.specs.declared.error.AuditError.TheVariants.{ReplyDiffers}
use Rattle.pp_report.specs.declared.line.Asked.{Asked}
use Rattle.pp_report.specs.declared.line.Line.{Line}
use Rattle.pp_report.specs.declared.line.Told.{Told}
use Rattle.pp_report.specs.Auditing.{Progress, told_to, after_asked}
use Rattle.pp_report.specs.Reading.{line_in}

-- The auditor has come so far: its core stands for the state, whose life is bounded, and it keeps the plans that wait, the next
-- one last.
pub record IsAt (a : Auditor) (p : Progress) : Type 0 where
  pub stands : StandsFor a.core p.state
  pub bounded : p.state.settings.span ≡ Bounded
  pub waiting : reverse a.waiting.items ≡ p.waiting

-- Where it was possible it is done, and else nothing is.
abbrev pub progress_after : Progress → Asked → Option Told → Progress
progress_after p asked None = p
progress_after p asked (Some told) = after_asked p asked

-- What is told is what the pool tells, wherever the auditor had come.
abbrev pub Asks : Auditor → Auditor → Asked → Option Told → Type 0
Asks old new asked told =
    (p : Progress) → IsAt old p → (told ≡ told_to p asked) × IsAt new (progress_after p asked told)

-- The line is passed, and the auditor has come past it; or its fault is told.
abbrev pub Passes : Auditor → Result Progress AuditError → Result (Unit {0}) AuditError → Type 0
Passes a (Ok p) (Ok done) = IsAt a p
Passes a (Err e) (Err told) = told ≡ e
Passes a _ _ = ⊥

-- ---- behind a fault

-- How far an audit has come behind a line that has this fault. What the line asks was done where something else is told of it, and
-- else nothing.
abbrev pub progress_behind : Progress → Asked → AuditError → Progress
progress_behind p asked (ReplyDiffers number told due) = after_asked p asked
progress_behind p asked _ = p

abbrev pub progress_at : Progress → Option Line → AuditError → Progress
progress_at p None e = p
progress_at p (Some line) e = progress_behind p line.asked e

-- So far has the auditor come, where the text of a line has a fault.
abbrev pub StopsAt : Auditor → Auditor → List ℕ → Result (Unit {0}) AuditError → Type 0
StopsAt old new text told = (p : Progress) → IsAt old p → IfErr told (λ e. IsAt new (progress_at p (line_in text) e))
