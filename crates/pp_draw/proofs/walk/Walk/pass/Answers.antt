use Rattle.std.proofs.Common.{subst, sym, ap}
use Rattle.pp_report.specs.Auditing.{pass_text}
use Rattle.pp_report.specs.declared.auditor.Auditor.{Auditor}
use Rattle.pp_report.specs.Auditors.{IsAt, Passes}
use Rattle.pp_draw.proofs.Drawn.{added, went_by, passed}
use Rattle.pp_draw.proofs.walk.Walk.pass.Goals as goal

pub returns-in_ok-add_column-clause-passed : goal.returns-in_ok-add_column-clause-passed
returns-in_ok-add_column-clause-passed c = λ p at.
    let done = subst (λ r. Passes c.pass_text.new.self (pass_text p c.args.number c.args.text.now) r)
    c.in_ok-pass_text.was (c.pass_text.ensures.passes p at) in
    let (q, is, here) = passed c.pass_text.new.self (pass_text p c.args.number c.args.text.now)
    c.in_ok-pass_text.field-0 done in
    let there = subst (λ (a : Auditor). IsAt a q) (sym c.note_shares.ensures.auditor) here in
    added c.args.extent.now c.args.number p q c.args.text.now c.note_shares.new.self.auditor
    c.add_column.new.self.auditor c.args.self.now.columns.items c.note_shares.new.self.columns.items
    c.add_column.new.self.columns.items c.args.ends is there c.in_ok-add_column.ensures.auditor
    (ap (λ columns. columns.items) c.note_shares.ensures.columns) c.in_ok-add_column.ensures.added c.if-ends.true

pub returns-else-ends-clause-passed : goal.returns-else-ends-clause-passed
returns-else-ends-clause-passed c = λ p at.
    let done = subst (λ r. Passes c.pass_text.new.self (pass_text p c.args.number c.args.text.now) r)
    c.in_ok-pass_text.was (c.pass_text.ensures.passes p at) in
    let (q, is, here) = passed c.pass_text.new.self (pass_text p c.args.number c.args.text.now)
    c.in_ok-pass_text.field-0 done in
    let there = subst (λ (a : Auditor). IsAt a q) (sym c.note_shares.ensures.auditor) here in
    went_by c.args.extent.now c.args.number p q c.args.text.now c.note_shares.new.self.auditor
    c.args.self.now.columns.items c.note_shares.new.self.columns.items c.args.ends is there
    (ap (λ columns. columns.items) c.note_shares.ensures.columns) c.if-ends.false
