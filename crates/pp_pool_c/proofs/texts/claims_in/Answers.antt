-- What is left to show of claims_in: what the bytes spell, and how they are refused.
use Rattle.pp_cert.specs.Reading.{reading as of}
use Rattle.pp_cert.specs.Claims.{claims_of}
use Rattle.pp_pool_c.specs.declared.refusal.Refusal.TheVariants.{Certificate}
use Rattle.pp_pool_c.specs.Texts.{is_memory, claims_in}
use Rattle.pp_pool_c.proofs.TextLemmas.{handed_on, none_in, read_in, refused_in, tells}
use Rattle.pp_pool_c.proofs.texts.claims_in.Goals as goal

pub returns-in_default : goal.returns-in_default
unfolding claims_in
returns-in_default c =
    none_in Certificate (of c.args.settings.now c.args.plan.now) c.args.bytes.now c.in_default.ensures.cases.0

pub returns-in_err-from_text : goal.returns-in_err-from_text
unfolding claims_in
returns-in_err-from_text c =
    handed_on _ c.from_residual.result (Certificate c.in_err-from_text.field-0.0)
    (claims_in c.args.settings.now c.args.plan.now c.args.bytes.now) c.from_residual.ensures.1
    (λ memory. refused_in Certificate (of c.args.settings.now c.args.plan.now) c.args.bytes.now c.in-Ok.text.now
    c.in_err-from_text.field-0.0
    c.in-Ok.ensures.cases.0 c.in-Ok.ensures.cases.1
    (tells (is_memory (Certificate c.in_err-from_text.field-0.0)) c.in_err-from_text.field-0.0
    (of c.args.settings.now c.args.plan.now c.in-Ok.text.now) c.in_err-from_text.ensures.exact memory))

pub returns : goal.returns
unfolding claims_in
returns c =
    read_in Certificate (of c.args.settings.now c.args.plan.now) c.args.bytes.now c.in-Ok.text.now
    (claims_of c.in_ok-from_text.field-0) c.in-Ok.ensures.cases.0 c.in-Ok.ensures.cases.1
    c.in_ok-from_text.ensures.exact
