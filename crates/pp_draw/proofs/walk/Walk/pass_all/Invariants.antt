use Rattle.std.proofs.Common.{◌≡◌, ◌+◌, ◌≤◌, ◌++◌, length, map}
use Rattle.pp_report.specs.Auditing.{Progress, auditing_from}
use Rattle.pp_report.specs.Auditors.{IsAt}
use Rattle.pp_report.specs.Journals.{journal_lines}
use Rattle.pp_report.specs.declared.figure.Figure.{Figure}
use Rattle.pp_draw.specs.Counted.{count_of, total_of, turns_from}
use Rattle.pp_draw.specs.Walks.{settled}
use Rattle.pp_draw.proofs.Drawn.{Continues}
use Rattle.pp_draw.proofs.walk.Walk.pass_all.Given as goal

abbrev pub invariant-loop-left : goal.invariant-loop-left
invariant-loop-left l = record {
  counted : l.lines + length l.left ≤ length l.fn.journal;
  goes : (p : Progress) → IsAt l.fn.self.auditor p → (q : Progress) × IsAt l.self.auditor q
      × (auditing_from p 0 (journal_lines l.fn.journal) ≡ auditing_from q l.lines (journal_lines l.left))
      × Continues l.extent p q l.lines (journal_lines l.fn.journal) (journal_lines l.left) l.self.columns.items;
  few : (f : Figure) → total_of l.self.tally.totals f ≤ l.lines;
  totals : (f : Figure) → total_of l.self.tally.totals f + count_of f (journal_lines l.left)
      ≡ count_of f (journal_lines l.fn.journal);
  turns : map (settled (l.lines + 1) (journal_lines l.left)) l.self.tally.turns.items
      ++ turns_from (l.lines + 1) (journal_lines l.left) ≡ turns_from 1 (journal_lines l.fn.journal);
}

abbrev pub decreases-loop-left : goal.decreases-loop-left
decreases-loop-left l = length l.left
