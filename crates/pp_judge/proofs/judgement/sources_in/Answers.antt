use Rattle.pp_judge.specs.Judgement.{sources_in}
use Rattle.pp_judge.proofs.Judged.{both_read, no_plan, no_settings}
use Rattle.pp_judge.specs.Steps.{is_want_of_memory}
use Rattle.pp_judge.proofs.Refusals.{tells}
use Rattle.pp_judge.proofs.Steps.{handed_on}
use Rattle.pp_judge.proofs.judgement.sources_in.Goals as goal

pub returns-in_err-settings : goal.returns-in_err-settings
returns-in_err-settings c =
    handed_on _ c.from_residual.result c.in_err-settings.field-0.0
    (sources_in c.args.settings.now c.args.plan.now) c.from_residual.ensures.1
    (λ memory. no_settings c.args.settings.now c.args.plan.now c.in_err-settings.field-0.0
    (tells
    (is_want_of_memory c.in_err-settings.field-0.0) c.in_err-settings.field-0.0 _ c.in_err-settings.ensures memory))

pub returns-in_err-plan : goal.returns-in_err-plan
returns-in_err-plan c =
    handed_on _ c.from_residual-in_err-plan.result c.in_err-plan.field-0.0
    (sources_in c.args.settings.now c.args.plan.now)
    c.from_residual-in_err-plan.ensures.1
    (λ memory. no_plan c.args.settings.now c.args.plan.now c.in_ok-settings.settings c.in_err-plan.field-0.0
    c.in_ok-settings.ensures
    (tells (is_want_of_memory c.in_err-plan.field-0.0) c.in_err-plan.field-0.0 _ c.in_err-plan.ensures memory))

pub returns : goal.returns
returns c =
    both_read c.args.settings.now c.args.plan.now c.in_ok-settings.settings c.in_ok-plan.plan c.in_ok-settings.ensures
    c.in_ok-plan.ensures
