use Rattle.std.proofs.Common.{◌≡◌, Err, length, refl, rules, subst, ◌∙◌}
use Rattle.pp_report.specs.Journals.{journal_lines}
use Rattle.pp_segments.specs.Auditing.{pass_text, pass_lines}
use Rattle.pp_segments.specs.Auditors.{Passes}
use Rattle.pp_segments.proofs.Passing.{went_on, went_wrong, went_through, went_short}
use Rattle.pp_segments.proofs.auditor.SegmentAuditor.pass_all.Goals as goal

pub loop-left-preserved : goal.loop-left-preserved
loop-left-preserved c = λ prepared p at.
    let (q, here, e) = c.loop-left.invariant prepared p at in
    let line = c.first_line.result.0.now in
    let done = subst (λ r. Passes prepared c.pass_text.new.self (pass_text prepared q line) r)
    c.in_ok-pass_text.was (c.pass_text.ensures prepared q here) in
    let (r, there, f) =
    went_on prepared c.pass_text.new.self q (journal_lines c.loop-left.left.now) line
    (journal_lines c.first_line.result.1.now) c.in_ok-pass_text.field-0 c.first_line.ensures.lines done in
    (r, there, e ∙ f)

pub returns-in_err-pass_text : goal.returns-in_err-pass_text
returns-in_err-pass_text c = λ prepared p at.
    let (q, here, e) = c.loop-left.invariant prepared p at in
    let line = c.first_line.result.0.now in
    let done = subst (λ r. Passes prepared c.pass_text.new.self (pass_text prepared q line) r)
    c.in_err-pass_text.was (c.pass_text.ensures prepared q here) in
    let wrong : pass_lines prepared p (journal_lines c.args.text.now) ≡ Err c.in_err-pass_text.field-0.0 =
    e ∙ went_wrong prepared c.pass_text.new.self q (journal_lines c.loop-left.left.now) line
    (journal_lines c.first_line.result.1.now) c.in_err-pass_text.field-0.0 c.first_line.ensures.lines done in
    let result : c.from_residual.result ≡ Err c.in_err-pass_text.field-0.0 = search rules in
    rw result
    (went_short prepared c.pass_text.new.self p c.args.text.now c.in_err-pass_text.field-0.0
    c.in_err-pass_text.field-0.0 wrong
    refl)

pub returns : goal.returns
returns c = λ prepared p at.
    let (q, here, e) = c.loop-left.invariant prepared p at in
    let none : length c.loop-left.left.now ≡ 0 = search rules in
    went_through prepared c.loop-left.self p q c.args.text.now c.loop-left.left.now none here e
