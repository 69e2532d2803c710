use Rattle.std.proofs.Common.{map, string_bytes}
use Rattle.pp_judge.specs.Judgement.{staged_in}
use Rattle.pp_judge.specs.Steps.{is_want_of_memory}
use Rattle.pp_judge.proofs.Refusals.{tells}
use Rattle.pp_judge.proofs.Rehearsed.{not_played, played, stopped}
use Rattle.pp_judge.proofs.Staged.{no_plans, no_script, staged, unsettled}
use Rattle.pp_judge.proofs.rehearsal.rehearse.Goals as goal

pub returns-in_err-settings : goal.returns-in_err-settings
returns-in_err-settings c =
    let plans = map (λ plan. plan.items) c.args.files.plans.now in
    stopped (staged_in c.args.files.settings.now c.args.files.script.now plans) c.from_residual.result
    c.in_err-settings.field-0.0 c.from_residual.ensures.1
    (λ memory. unsettled c.args.files.settings.now c.args.files.script.now plans c.in_err-settings.field-0.0
    (tells (is_want_of_memory c.in_err-settings.field-0.0) c.in_err-settings.field-0.0 _ c.in_err-settings.ensures
    memory))

pub returns-in_err-script : goal.returns-in_err-script
returns-in_err-script c =
    let plans = map (λ plan. plan.items) c.args.files.plans.now in
    stopped (staged_in c.args.files.settings.now c.args.files.script.now plans) c.from_residual-in_err-script.result
    c.in_err-script.field-0.0 c.from_residual-in_err-script.ensures.1
    (λ memory. no_script c.args.files.settings.now c.args.files.script.now plans c.in_ok-settings.settings
    c.in_err-script.field-0.0 c.in_ok-settings.ensures
    (tells (is_want_of_memory c.in_err-script.field-0.0) c.in_err-script.field-0.0 _ c.in_err-script.ensures memory))

pub returns-in_err-plans : goal.returns-in_err-plans
returns-in_err-plans c =
    let plans = map (λ plan. plan.items) c.args.files.plans.now in
    stopped (staged_in c.args.files.settings.now c.args.files.script.now plans) c.from_residual-in_err-plans.result
    c.in_err-plans.field-0.0 c.from_residual-in_err-plans.ensures.1
    (λ memory. no_plans c.args.files.settings.now c.args.files.script.now plans c.in_ok-settings.settings
    c.in_ok-script.script c.in_err-plans.field-0.0 c.in_ok-settings.ensures c.in_ok-script.ensures
    (tells (is_want_of_memory c.in_err-plans.field-0.0) c.in_err-plans.field-0.0 _ c.in_err-plans.ensures memory))

pub returns-in_err-simulate : goal.returns-in_err-simulate
returns-in_err-simulate c =
    let plans = map (λ plan. plan.items) c.args.files.plans.now in
    not_played (staged_in c.args.files.settings.now c.args.files.script.now plans) _
    c.from_residual-in_err-simulate.result c.in_err-simulate.field-0.0
    (staged c.args.files.settings.now c.args.files.script.now plans c.in_ok-settings.settings c.in_ok-script.script
    c.in_ok-plans.plans.items c.in_ok-settings.ensures c.in_ok-script.ensures c.in_ok-plans.ensures)
    c.from_residual-in_err-simulate.ensures.1 c.in_err-simulate.ensures.err

pub returns : goal.returns
returns c =
    let plans = map (λ plan. plan.items) c.args.files.plans.now in
    played (staged_in c.args.files.settings.now c.args.files.script.now plans) _
    (string_bytes c.in_ok-simulate.field-0)
    (staged c.args.files.settings.now c.args.files.script.now plans c.in_ok-settings.settings c.in_ok-script.script
    c.in_ok-plans.plans.items c.in_ok-settings.ensures c.in_ok-script.ensures c.in_ok-plans.ensures)
    c.in_ok-simulate.ensures.ok
