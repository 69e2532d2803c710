use Rattle.std.proofs.Common.{◌+◌, arith, subst, ◌∙◌}
use Rattle.pp_report.specs.Auditing.{pass_text}
use Rattle.pp_report.specs.Auditors.{Passes}
use Rattle.pp_report.specs.Journals.{journal_lines}
use Rattle.pp_report.proofs.Passing.{went_on}
use Rattle.pp_report.proofs.auditor.Auditor.pass_all.Goals as goal

pub loop-left-preserved : goal.loop-left-preserved
loop-left-preserved c = record {
  counted = omega (arith, c.first_line.ensures.shorter);
  goes = λ p at.
      let (q, here, e) = c.loop-left.invariant.goes p at in
      let line = c.first_line.result.0.now in
      let done = subst (λ r. Passes c.pass_text.new.self (pass_text q (c.loop-left.lines + 1) line) r)
      c.in_ok-pass_text.was (c.pass_text.ensures.passes q here) in
      let (r, there, f) =
      went_on c.pass_text.new.self q c.loop-left.lines (journal_lines c.loop-left.left.now) line
      (journal_lines c.first_line.result.1.now) c.in_ok-pass_text.field-0 c.first_line.ensures.lines done in
      (r, there, e ∙ f);
}
