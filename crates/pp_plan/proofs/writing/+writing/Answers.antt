use Rattle.std.proofs.Common.{◌≡◌, length, ap, sym, subst, ◌∙◌, arith}
use Rattle.pp_plan.specs.Tree.{Sequence, Alternatives, sequence_size, alternatives_size}
use Rattle.pp_plan.specs.View.{sequence_of, alternatives_of}
use Rattle.pp_plan.specs.Rules.{IsSequence, AreAlternatives}
use Rattle.pp_plan.proofs.Values.{statement_at, branch_at, statement_falls, branch_falls, statements_turn}
use Rattle.pp_plan.proofs.Values.{branches_turn}
use Rattle.pp_plan.proofs.writing.+writing.Goals as goal

pub body_value-statement_value-requires : goal.body_value-statement_value-requires
body_value-statement_value-requires t c =
    let slots = length c.args.plan.now.slots in
    let regions = length c.args.settings.now.regions in
    let all : sequence_of c.deref-stmt-items.result.now ≡ c.args.body.now =
    ap sequence_of c.deref-stmt-items.ensures.value ∙ c.body.view_is in
    let keeps = subst (λ (b : Sequence). IsSequence slots regions b) (sym all) c.requires in
    let size = ap sequence_size all in
    let falls =
    statement_falls c.deref-stmt-items.result.now c.loop-stmt.stmt-index c.stmt-item.result c.stmt-item.is
    c.loop-stmt-test.true in (
      omega (arith, falls, size, c.decreases),
      statement_at slots regions c.deref-stmt-items.result.now c.loop-stmt.stmt-index c.stmt-item.result
          c.stmt-item.is c.loop-stmt-test.true keeps,
    )

pub body_value-loop-stmt-preserved : goal.body_value-loop-stmt-preserved
body_value-loop-stmt-preserved t c =
    rw c.in_ok-push.ensures.items (statements_turn c.args.settings.now c.args.plan.now.slots c.loop-stmt.values.items _
    c.loop-stmt.stmt-index c.stmt-item.result c.in_ok-statement_value.field-0 c.stmt-item.is c.loop-stmt-test.true
    c.in_ok-statement_value.ensures c.loop-stmt.invariant)

pub branches_value-body_value-requires : goal.branches_value-body_value-requires
branches_value-body_value-requires t c =
    let slots = length c.args.plan.now.slots in
    let regions = length c.args.settings.now.regions in
    let all : alternatives_of c.deref-body-items.result.now ≡ c.args.branches.now =
    ap alternatives_of c.deref-body-items.ensures.value ∙ c.branches.view_is in
    let keeps = subst (λ (bs : Alternatives). AreAlternatives slots regions bs) (sym all) c.requires in
    let size = ap alternatives_size all in
    let falls =
    branch_falls c.deref-body-items.result.now c.loop-body.body-index c.body-item.result c.body-item.is
    c.loop-body-test.true in (
      omega (arith, falls, size, c.decreases),
      branch_at slots regions c.deref-body-items.result.now c.loop-body.body-index c.body-item.result c.body-item.is
          c.loop-body-test.true keeps,
    )

pub branches_value-loop-body-preserved : goal.branches_value-loop-body-preserved
branches_value-loop-body-preserved t c =
    rw c.in_ok-push.ensures.items (branches_turn c.args.settings.now c.args.plan.now.slots c.loop-body.values.items _
    c.loop-body.body-index c.body-item.result c.in_ok-body_value.field-0 c.body-item.is c.loop-body-test.true
    c.in_ok-body_value.ensures c.loop-body.invariant)
