use Rattle.std.proofs.Common.{◌∙◌, subst}
use Rattle.std.proofs.lemmas.List.{get_or_default}
use Rattle.std.proofs.lemmas.List.Elements.{AllWithin-more}
use Rattle.pp_cert.specs.Accepted.{IsAccepted}
use Rattle.pp_report.proofs.lives.are_accepted.Goals as goal

pub loop-plan-preserved : goal.loop-plan-preserved
loop-plan-preserved c =
    let plans = c.args.plans.now in
    let i = c.loop-plan.plan-index in
    AllWithin-more IsAccepted plans 0 i c.loop-plan.invariant
    (λ d. subst IsAccepted
    (c.plan-item.is ∙ get_or_default plans i c.plan-item.result d c.loop-plan-test.true) c.is_accepted.ensures)
