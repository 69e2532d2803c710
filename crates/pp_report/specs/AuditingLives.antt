-- Auditing the journals of a pool's lives, one behind the other in one text, line by line.
use Rattle.std.specs.Prelude.{ℕ, ◌+◌, List, [], ◌∷◌, Option, Some, None, codes, if◌then◌else◌, Result, Ok, Err}
use Rattle.std.specs.Str.{bytes_eq}
use Rattle.pp_text.specs.Steps.{◌>>=◌, must}
use Rattle.pp_settings.specs.Settings.{Configuration}
use Rattle.pp_cert.specs.Accepted.{Acceptance}
use Rattle.pp_model.specs.declared.refusals.RenewError.{RenewError}
use Rattle.pp_model.specs.Renewing.{renew_error, renewed}
use Rattle.pp_model.specs.Turns.{next_turn}
use Rattle.pp_report.specs.declared.error.AuditError.{AuditError}
use Rattle.pp_report.specs.declared.error.AuditError.TheVariants.{NotRenewed, Unfinished}
use Rattle.pp_report.specs.Journals.{journal_lines}
use Rattle.pp_report.specs.Auditing.{Progress, pass_text, is_over, outset}

-- The line between the journals of two lives. No line of a journal is spelled so.
abbrev pub renewal_line : List ℕ
renewal_line = codes "renew = renewed"

-- The next life begins, and the plans that wait go into it; or there is a reason why it can't begin.
abbrev pub renewal_passed_unless : Option RenewError → Progress → (number : ℕ) → Result Progress AuditError
renewal_passed_unless None p number = Ok (record p { state = renewed p.state })
renewal_passed_unless (Some why) p number = Err (NotRenewed number why (record { turn = next_turn p.state }))

-- The line between two lives is passed where the pool can be renewed.
abbrev pub pass_renewal : Progress → (number : ℕ) → Result Progress AuditError
pass_renewal p number = renewal_passed_unless (renew_error p.state) p number

-- The text of the line with this number is passed: it is the one between two lives, or a line of a journal.
abbrev pub pass_in_lives : Progress → (number : ℕ) → List ℕ → Result Progress AuditError
pass_in_lives p number text = if bytes_eq text renewal_line then pass_renewal p number else pass_text p number text

-- The number of lines, after so many before these; or the first fault.
abbrev pub lives_from : Progress → (before : ℕ) → List (List ℕ) → Result ℕ AuditError
lives_from p before [] = must (is_over p) Unfinished >>= λ passed. Ok before
lives_from p before (text ∷ texts) =
    pass_in_lives p (before + 1) text >>= λ q. lives_from q (before + 1) texts

-- The verdict on a text of lives.
abbrev pub auditing_lives : Configuration → List Acceptance → List ℕ → Result ℕ AuditError
auditing_lives c plans text = lives_from (outset c plans) 0 (journal_lines text)
