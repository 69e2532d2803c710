use Rattle.std.proofs.Common.{◌≡◌, ◌+◌, ◌≤◌, length}
use Rattle.pp_report.specs.Auditing.{Progress, auditing_from}
use Rattle.pp_report.specs.Auditors.{IsAt}
use Rattle.pp_report.specs.Journals.{journal_lines}
use Rattle.pp_report.proofs.auditor.Auditor.pass_all.Given as goal

abbrev pub invariant-loop-left : goal.invariant-loop-left
invariant-loop-left l = record {
  counted : l.lines + length l.left ≤ length l.fn.journal;
  goes : (p : Progress) → IsAt l.fn.self p → (q : Progress) × IsAt l.self q
      × (auditing_from p 0 (journal_lines l.fn.journal) ≡ auditing_from q l.lines (journal_lines l.left));
}

abbrev pub decreases-loop-left : goal.decreases-loop-left
decreases-loop-left l = length l.left
