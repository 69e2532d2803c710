-- What is left to show of plan_in: what the bytes spell, and how they are refused.
use Rattle.pp_plan.specs.Reading.{reading as of}
use Rattle.pp_pool_c.specs.declared.refusal.Refusal.TheVariants.{Plan}
use Rattle.pp_pool_c.specs.Texts.{is_memory, plan_in}
use Rattle.pp_pool_c.proofs.TextLemmas.{handed_on, none_in, read_in, refused_in, tells}
use Rattle.pp_pool_c.proofs.texts.plan_in.Goals as goal

pub returns-in_default-clause-gives : goal.returns-in_default-clause-gives
unfolding plan_in
returns-in_default-clause-gives c = none_in Plan (of c.args.settings.now) c.args.bytes.now c.in_default.ensures.cases.0

pub returns-in_err-from_text-clause-gives : goal.returns-in_err-from_text-clause-gives
unfolding plan_in
returns-in_err-from_text-clause-gives c =
    handed_on _ c.from_residual.result (Plan c.in_err-from_text.field-0.0)
    (plan_in c.args.settings.now c.args.bytes.now) c.from_residual.ensures.1
    (λ memory. refused_in Plan (of c.args.settings.now) c.args.bytes.now c.in-Ok.text.now c.in_err-from_text.field-0.0
    c.in-Ok.ensures.cases.0 c.in-Ok.ensures.cases.1
    (tells (is_memory (Plan c.in_err-from_text.field-0.0)) c.in_err-from_text.field-0.0
    (of c.args.settings.now c.in-Ok.text.now) c.in_err-from_text.ensures.exact memory))

pub returns-clause-gives : goal.returns-clause-gives
unfolding plan_in
returns-clause-gives c =
    read_in Plan (of c.args.settings.now) c.args.bytes.now c.in-Ok.text.now c.in_ok-from_text.field-0
    c.in-Ok.ensures.cases.0 c.in-Ok.ensures.cases.1 c.in_ok-from_text.ensures.exact
