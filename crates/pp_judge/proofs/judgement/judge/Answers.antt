use Rattle.std.proofs.Common.{Ok, refl, ap, sym, ◌∙◌}
use Rattle.pp_cert.specs.Claims.{claims_of}
use Rattle.pp_judge.specs.Judgement.{judgement}
use Rattle.pp_judge.proofs.Judged.{accepted, faulty, no_claims, no_sources}
use Rattle.pp_judge.specs.Steps.{is_want_of_memory}
use Rattle.pp_judge.proofs.Refusals.{tells}
use Rattle.pp_judge.proofs.Steps.{handed_on}
use Rattle.pp_judge.proofs.judgement.judge.Goals as goal

pub returns-in_err-settings : goal.returns-in_err-settings
returns-in_err-settings c =
    handed_on _ c.from_residual.result c.in_err-settings.field-0.0
    (judgement c.args.files.settings.now c.args.files.plan.now c.args.files.certificate.now) c.from_residual.ensures.1
    (λ memory. no_sources c.args.files.settings.now c.args.files.plan.now c.args.files.certificate.now
    c.in_err-settings.field-0.0
    (tells (is_want_of_memory c.in_err-settings.field-0.0) c.in_err-settings.field-0.0 _ c.in_err-settings.ensures
    memory))

pub returns-in_err-certificate : goal.returns-in_err-certificate
returns-in_err-certificate c =
    handed_on _ c.from_residual-in_err-certificate.result c.in_err-certificate.field-0.0
    (judgement c.args.files.settings.now c.args.files.plan.now c.args.files.certificate.now)
    c.from_residual-in_err-certificate.ensures.1
    (λ memory. no_claims c.args.files.settings.now c.args.files.plan.now c.args.files.certificate.now
    c.in_ok-settings.field-0 c.in_err-certificate.field-0.0 c.in_ok-settings.ensures
    (tells (is_want_of_memory c.in_err-certificate.field-0.0) c.in_err-certificate.field-0.0 _
    c.in_err-certificate.ensures memory))

pub returns-in-Ok : goal.returns-in-Ok
returns-in-Ok c =
    accepted c.args.files.settings.now c.args.files.plan.now c.args.files.certificate.now c.in_ok-settings.field-0
    (claims_of c.in_ok-certificate.certificate) c.in_ok-settings.ensures
    c.in_ok-certificate.ensures (c.in-Ok.ensures.ok.0 refl)
    ∙ ap Ok (sym c.in-Ok.ensures.accepted)

pub returns : goal.returns
returns c =
    faulty c.args.files.settings.now c.args.files.plan.now c.args.files.certificate.now c.in_ok-settings.field-0
    (claims_of c.in_ok-certificate.certificate) c.in-Err.error c.in_ok-settings.ensures
    c.in_ok-certificate.ensures c.in-Err.ensures.err.1
