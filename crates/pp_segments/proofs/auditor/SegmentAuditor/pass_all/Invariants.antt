use Rattle.std.proofs.Common.{◌≡◌, List, length}
use Rattle.pp_cert.specs.Accepted.{Acceptance}
use Rattle.pp_report.specs.Journals.{journal_lines}
use Rattle.pp_segments.specs.Auditing.{Progress, pass_lines}
use Rattle.pp_segments.specs.Auditors.{IsAt}
use Rattle.pp_segments.proofs.auditor.SegmentAuditor.pass_all.Given as goal

abbrev pub invariant-loop-left : goal.invariant-loop-left
invariant-loop-left l =
    (prepared : List Acceptance) (p : Progress) → IsAt prepared l.fn.self p → (q : Progress) × IsAt prepared l.self q
    × (pass_lines prepared p (journal_lines l.fn.text) ≡ pass_lines prepared q (journal_lines l.left))

abbrev pub decreases-loop-left : goal.decreases-loop-left
decreases-loop-left l = length l.left
