-- What is left to show of certified_in: which refusal it is, and which plan is accepted.
use Rattle.std.proofs.Common.{Ok, refl, ap, sym, ◌∙◌}
use Rattle.pp_cert.specs.Claims.{claims_of}
use Rattle.pp_pool_c.specs.Texts.{is_memory, certified_in}
use Rattle.pp_pool_c.proofs.TextLemmas.{certified, faulty, no_claims, no_plan, handed_on, tells}
use Rattle.pp_pool_c.proofs.texts.certified_in.Goals as goal

pub returns-in_err-plan-clause-gives : goal.returns-in_err-plan-clause-gives
returns-in_err-plan-clause-gives c =
    handed_on _ c.from_residual.result c.in_err-plan.field-0.0
    (certified_in c.args.settings.now c.args.plan.now c.args.certificate.now) c.from_residual.ensures.1
    (λ memory. no_plan c.args.settings.now c.args.plan.now c.args.certificate.now c.in_err-plan.field-0.0
    (tells (is_memory c.in_err-plan.field-0.0) c.in_err-plan.field-0.0 _ c.in_err-plan.ensures.gives memory))

pub returns-in_err-certificate-clause-gives : goal.returns-in_err-certificate-clause-gives
returns-in_err-certificate-clause-gives c =
    handed_on _ c.from_residual-in_err-certificate.result c.in_err-certificate.field-0.0
    (certified_in c.args.settings.now c.args.plan.now c.args.certificate.now)
    c.from_residual-in_err-certificate.ensures.1
    (λ memory. no_claims c.args.settings.now c.args.plan.now c.args.certificate.now c.in_ok-plan.plan
    c.in_err-certificate.field-0.0 c.in_ok-plan.ensures.gives
    (tells (is_memory c.in_err-certificate.field-0.0) c.in_err-certificate.field-0.0 _ c.in_err-certificate.ensures
    memory))

pub returns-in-Ok-clause-gives : goal.returns-in-Ok-clause-gives
returns-in-Ok-clause-gives c =
    certified c.args.settings.now c.args.plan.now c.args.certificate.now c.in_ok-plan.plan
    (claims_of c.in_ok-certificate.certificate) c.in_ok-plan.ensures.gives c.in_ok-certificate.ensures
    (c.in-Ok.ensures.ok.0 refl)
    ∙ ap Ok (sym c.in-Ok.ensures.accepted)

pub returns-clause-gives : goal.returns-clause-gives
returns-clause-gives c =
    faulty c.args.settings.now c.args.plan.now c.args.certificate.now c.in_ok-plan.plan
    (claims_of c.in_ok-certificate.certificate) c.in-Err.error c.in_ok-plan.ensures.gives
    c.in_ok-certificate.ensures c.in-Err.ensures.err.1
