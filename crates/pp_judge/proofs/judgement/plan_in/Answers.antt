use Rattle.pp_plan.specs.Reading.{reading as of}
use Rattle.pp_plan.specs.declared.error.PlanError.TheVariants.{NotJson}
use Rattle.pp_judge.specs.declared.error.JudgeError.TheVariants.{Plan}
use Rattle.pp_judge.specs.Judgement.{plan_in}
use Rattle.pp_judge.specs.Steps.{is_want_of_memory}
use Rattle.pp_judge.proofs.Refusals.{tells}
use Rattle.pp_judge.proofs.Steps.{handed_on, none_in, read_in, refused_in}
use Rattle.pp_judge.proofs.judgement.plan_in.Goals as goal

pub returns-in_default : goal.returns-in_default
unfolding plan_in
returns-in_default c =
    none_in Plan
    (of c.args.settings.now) NotJson c.args.bytes.now c.in_default.ensures.cases.0

pub returns-in_err-from_text : goal.returns-in_err-from_text
unfolding plan_in
returns-in_err-from_text c =
    handed_on _ c.from_residual.result (Plan c.in_err-from_text.field-0.0)
    (plan_in c.args.settings.now c.args.bytes.now) c.from_residual.ensures.1
    (λ memory. refused_in Plan (of c.args.settings.now) NotJson c.args.bytes.now c.in-Ok.text.now
    c.in_err-from_text.field-0.0
    c.in-Ok.ensures.cases.0 c.in-Ok.ensures.cases.1
    (tells (is_want_of_memory (Plan c.in_err-from_text.field-0.0)) c.in_err-from_text.field-0.0
    (of c.args.settings.now c.in-Ok.text.now) c.in_err-from_text.ensures.exact memory))

pub returns : goal.returns
unfolding plan_in
returns c =
    read_in Plan (of c.args.settings.now) NotJson c.args.bytes.now c.in-Ok.text.now c.in_ok-from_text.field-0
    c.in-Ok.ensures.cases.0 c.in-Ok.ensures.cases.1
    c.in_ok-from_text.ensures.exact
