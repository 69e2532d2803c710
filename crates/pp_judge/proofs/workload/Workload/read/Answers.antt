use Rattle.std.proofs.Common.{map}
use Rattle.pp_judge.specs.Judgement.{workload_in}
use Rattle.pp_judge.specs.Steps.{is_want_of_memory}
use Rattle.pp_judge.proofs.Audited.{both_read, no_plans, unsettled}
use Rattle.pp_judge.proofs.Refusals.{tells}
use Rattle.pp_judge.proofs.Steps.{handed_on}
use Rattle.pp_judge.proofs.workload.Workload.read.Goals as goal

pub returns-in_err-settings-clause-exact : goal.returns-in_err-settings-clause-exact
returns-in_err-settings-clause-exact c =
    let plans = map (λ plan. plan.items) c.args.plans.now in
    handed_on _ c.from_residual.result c.in_err-settings.field-0.0 (workload_in c.args.settings.now plans)
    c.from_residual.ensures.1
    (λ memory. unsettled c.args.settings.now plans c.in_err-settings.field-0.0
    (tells (is_want_of_memory c.in_err-settings.field-0.0) c.in_err-settings.field-0.0 _ c.in_err-settings.ensures.exact
    memory))

pub returns-in_err-plans-clause-exact : goal.returns-in_err-plans-clause-exact
returns-in_err-plans-clause-exact c =
    let plans = map (λ plan. plan.items) c.args.plans.now in
    handed_on _ c.from_residual-in_err-plans.result c.in_err-plans.field-0.0 (workload_in c.args.settings.now plans)
    c.from_residual-in_err-plans.ensures.1
    (λ memory. no_plans c.args.settings.now plans c.in_ok-settings.settings c.in_err-plans.field-0.0
    c.in_ok-settings.ensures.exact
    (tells (is_want_of_memory c.in_err-plans.field-0.0) c.in_err-plans.field-0.0 _ c.in_err-plans.ensures memory))

pub returns-clause-exact : goal.returns-clause-exact
returns-clause-exact c =
    both_read c.args.settings.now (map (λ plan. plan.items) c.args.plans.now) c.in_ok-settings.settings
    c.in_ok-plans.plans.items c.in_ok-settings.ensures.exact c.in_ok-plans.ensures
