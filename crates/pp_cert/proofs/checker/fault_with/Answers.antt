use Rattle.std.proofs.Common.{length, sym, ap, ◌∙◌, arith}
use Rattle.pp_plan.specs.View.{sequence_of}
use Rattle.pp_cert.specs.Walk.{claims_of, first_fault, sequence_end, same_layout}
use Rattle.pp_cert.proofs.Places.{sequence_end-most}
use Rattle.pp_cert.proofs.Steps.{all_tests, plan_end, plan_err, plan_ok}
use Rattle.pp_cert.proofs.checker.fault_with.Goals as goal

pub walk_over-requires : goal.walk_over-requires
walk_over-requires c =
    let p = c.args.plan.now in
    let body = c.body-stmts.ensures.facts.body in
    let ends = ap (sequence_end 0) c.body-stmts.ensures.is in
    omega (arith, ends, sequence_end-most (length p.slots) (length p.layout.extents) 0 p.body body.parts, body.count)

pub last_fault-requires : goal.last_fault-requires
last_fault-requires c =
    let p = c.args.plan.now in
    let body = c.body-stmts.ensures.facts.body in
    let ends = ap (sequence_end 0) c.body-stmts.ensures.is in
    let end =
    plan_end c.args.stop c.args.layout.now c.args.certificate.now (sequence_of c.body-stmts.result.now) c.in-Ok.end
    c.in-Ok.ensures in
    omega (
      arith,
      end,
      ends,
      sequence_end-most (length p.slots) (length p.layout.extents) 0 p.body body.parts,
      body.count,
    )

pub returns-in-Err-clause-is : goal.returns-in-Err-clause-is
returns-in-Err-clause-is c =
    let g = c.args.layout.now in
    let cert = c.args.certificate.now in
    let same = ap (same_layout g) (sym c.layout.ensures) ∙ sym c.is_same_layout.ensures
    ∙ c.if-not-is_same_layout.false in
    plan_err c.args.stop g cert c.args.plan.now.layout (sequence_of c.body-stmts.result.now) c.in-Err.fault same c.in-Err.ensures
    ∙ ap (λ b. first_fault g (claims_of cert) (all_tests c.args.stop c.args.plan.now.layout b)) c.body-stmts.ensures.is

pub returns-in-Ok-clause-is : goal.returns-in-Ok-clause-is
returns-in-Ok-clause-is c =
    let g = c.args.layout.now in
    let cert = c.args.certificate.now in
    let same = ap (same_layout g) (sym c.layout.ensures) ∙ sym c.is_same_layout.ensures
    ∙ c.if-not-is_same_layout.false in
    c.last_fault.ensures ∙ plan_ok c.args.stop g cert c.args.plan.now.layout (sequence_of c.body-stmts.result.now) c.in-Ok.end same
    c.in-Ok.ensures ∙ ap (λ b. first_fault g (claims_of cert) (all_tests c.args.stop c.args.plan.now.layout b))
    c.body-stmts.ensures.is
