use Rattle.std.proofs.Common.{◌≡◌, ◌+◌, Err, arith, rules, subst, ◌∙◌}
use Rattle.pp_report.specs.AuditingLives.{lives_from, pass_in_lives}
use Rattle.pp_report.specs.Auditors.{Passes}
use Rattle.pp_report.specs.Journals.{journal_lines}
use Rattle.pp_report.proofs.LivesPassing.{went_on, went_wrong}
use Rattle.pp_report.proofs.auditor.Auditor.pass_lives.Goals as goal

pub loop-rest-preserved : goal.loop-rest-preserved
loop-rest-preserved c = record {
  counted = omega (arith, c.first_line.ensures.shorter);
  goes = λ p at.
      let (q, here, e) = c.loop-rest.invariant.goes p at in
      let line = c.first_line.result.0.now in
      let done = subst (λ r. Passes c.pass_in_lives.new.self (pass_in_lives q (c.loop-rest.lines + 1) line) r)
      c.in_ok-pass_in_lives.was (c.pass_in_lives.ensures.passes q here) in
      let (r, there, f) =
      went_on c.pass_in_lives.new.self q c.loop-rest.lines (journal_lines c.loop-rest.rest.now) line
      (journal_lines c.first_line.result.1.now) c.in_ok-pass_in_lives.field-0 c.first_line.ensures.lines done in
      (r, there, e ∙ f);
}

pub returns-in_err-pass_in_lives : goal.returns-in_err-pass_in_lives
returns-in_err-pass_in_lives c = λ p at.
    let (q, here, e) = c.loop-rest.invariant.goes p at in
    let line = c.first_line.result.0.now in
    let done = subst (λ r. Passes c.pass_in_lives.new.self (pass_in_lives q (c.loop-rest.lines + 1) line) r)
    c.in_err-pass_in_lives.was (c.pass_in_lives.ensures.passes q here) in
    let wrong : lives_from p 0 (journal_lines c.args.journals.now) ≡ Err c.in_err-pass_in_lives.field-0.0 =
    e ∙ went_wrong c.pass_in_lives.new.self q c.loop-rest.lines (journal_lines c.loop-rest.rest.now) line
    (journal_lines c.first_line.result.1.now) c.in_err-pass_in_lives.field-0.0 c.first_line.ensures.lines done in
    rw wrong (search rules)
