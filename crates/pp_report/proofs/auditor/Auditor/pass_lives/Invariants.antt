use Rattle.std.proofs.Common.{◌≡◌, ◌+◌, ◌≤◌, length}
use Rattle.pp_report.specs.Auditing.{Progress}
use Rattle.pp_report.specs.AuditingLives.{lives_from}
use Rattle.pp_report.specs.Auditors.{IsAt}
use Rattle.pp_report.specs.Journals.{journal_lines}
use Rattle.pp_report.proofs.auditor.Auditor.pass_lives.Given as goal

abbrev pub invariant-loop-rest : goal.invariant-loop-rest
invariant-loop-rest l = record {
  counted : l.lines + length l.rest ≤ length l.fn.journals;
  goes : (p : Progress) → IsAt l.fn.self p → (q : Progress) × IsAt l.self q
      × (lives_from p 0 (journal_lines l.fn.journals) ≡ lives_from q l.lines (journal_lines l.rest));
}

abbrev pub decreases-loop-rest : goal.decreases-loop-rest
decreases-loop-rest l = length l.rest
