use Rattle.std.proofs.Common.{Ok, refl, ap, sym, ◌∙◌}
use Rattle.pp_cert.specs.Claims.{claims_of}
use Rattle.pp_judge.specs.declared.error.JudgeError.TheVariants.{Annotate}
use Rattle.pp_judge.specs.Judgement.{accepted_in}
use Rattle.pp_judge.specs.Steps.{is_want_of_memory}
use Rattle.pp_judge.proofs.Refusals.{tells}
use Rattle.pp_judge.proofs.Staged.{none_accepted, not_claimed, not_taken, taken}
use Rattle.pp_judge.proofs.Steps.{handed_on}
use Rattle.pp_judge.proofs.workload.accepted_in.Goals as goal

pub returns-in_err-plan : goal.returns-in_err-plan
returns-in_err-plan c =
    handed_on _ c.from_residual.result c.in_err-plan.field-0.0 (accepted_in c.args.settings.now c.args.bytes.now)
    c.from_residual.ensures.1
    (λ memory. none_accepted c.args.settings.now c.args.bytes.now c.in_err-plan.field-0.0
    (tells (is_want_of_memory c.in_err-plan.field-0.0) c.in_err-plan.field-0.0 _ c.in_err-plan.ensures memory))

pub returns-in_err-certificate : goal.returns-in_err-certificate
returns-in_err-certificate c =
    handed_on _ c.from_residual-in_err-certificate.result (Annotate c.in_err-certificate.field-0.0)
    (accepted_in c.args.settings.now c.args.bytes.now)
    c.from_residual-in_err-certificate.ensures.1
    (λ memory. not_claimed c.args.settings.now c.args.bytes.now c.in_ok-plan.plan c.in_err-certificate.field-0.0
    c.in_ok-plan.ensures c.in_err-certificate.ensures.exact memory)

pub returns-in-Ok : goal.returns-in-Ok
returns-in-Ok c =
    taken c.args.settings.now c.args.bytes.now c.in_ok-plan.plan (claims_of c.in_ok-certificate.certificate)
    c.in_ok-plan.ensures c.in_ok-certificate.ensures.exact (c.in-Ok.ensures.ok.0 refl)
    ∙ ap Ok (sym c.in-Ok.ensures.accepted)

pub returns : goal.returns
returns c =
    not_taken c.args.settings.now c.args.bytes.now c.in_ok-plan.plan (claims_of c.in_ok-certificate.certificate)
    c.in-Err.error c.in_ok-plan.ensures c.in_ok-certificate.ensures.exact c.in-Err.ensures.err.1
