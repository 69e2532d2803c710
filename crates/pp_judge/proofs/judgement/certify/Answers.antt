use Rattle.std.proofs.Common.{Ok, is_ok, string_bytes, refl, ap, sym, ◌∙◌}
use Rattle.std.proofs.lemmas.Str.{IsUtf8-string_bytes}
use Rattle.pp_cert.specs.Reading.{reading as of}
use Rattle.pp_cert.specs.declared.error.CertError.TheVariants.{NotJson}
use Rattle.pp_cert.specs.Claims.{claims_of}
use Rattle.pp_judge.specs.declared.error.JudgeError.TheVariants.{Annotate, Certificate}
use Rattle.pp_judge.specs.Judgement.{certification, claims_in}
use Rattle.pp_judge.proofs.Judged.{accepted, certified, none_certified, not_certified}
use Rattle.pp_judge.specs.Steps.{is_want_of_memory}
use Rattle.pp_judge.proofs.Refusals.{tells}
use Rattle.pp_judge.proofs.Steps.{handed_on, read_in}
use Rattle.pp_judge.proofs.judgement.certify.Goals as goal

pub returns-in_err-settings-clause-exact : goal.returns-in_err-settings-clause-exact
returns-in_err-settings-clause-exact c =
    handed_on _ c.from_residual.result c.in_err-settings.field-0.0
    (certification c.args.files.settings.now c.args.files.plan.now) c.from_residual.ensures.1
    (λ memory. none_certified c.args.files.settings.now c.args.files.plan.now c.in_err-settings.field-0.0
    (tells
    (is_want_of_memory c.in_err-settings.field-0.0) c.in_err-settings.field-0.0 _ c.in_err-settings.ensures memory))

pub returns-in_err-certificate-clause-exact : goal.returns-in_err-certificate-clause-exact
returns-in_err-certificate-clause-exact c =
    handed_on _ c.from_residual-in_err-certificate.result (Annotate c.in_err-certificate.field-0.0)
    (certification c.args.files.settings.now c.args.files.plan.now)
    c.from_residual-in_err-certificate.ensures.1
    (λ memory. not_certified c.args.files.settings.now c.args.files.plan.now c.in_ok-settings.field-0
    c.in_err-certificate.field-0.0 c.in_ok-settings.ensures
    c.in_err-certificate.ensures.exact memory)

pub returns-clause-exact : goal.returns-clause-exact
returns-clause-exact c =
    certified c.args.files.settings.now c.args.files.plan.now c.in_ok-settings.field-0
    (Ok (claims_of c.in_ok-certificate.certificate)) c.in_ok-settings.ensures
    c.in_ok-certificate.ensures.exact
    ∙ ap Ok (sym c.in_ok-to_text.ensures.text)

pub returns-clause-accepted : goal.returns-clause-accepted
unfolding claims_in
returns-clause-accepted c =
    ap is_ok (accepted c.args.files.settings.now c.args.files.plan.now
    (string_bytes c.in_ok-to_text.field-0) c.in_ok-settings.field-0
    (claims_of c.in_ok-certificate.certificate) c.in_ok-settings.ensures
    (read_in Certificate (of c.in_ok-settings.field-0.settings c.in_ok-settings.field-0.plan) NotJson
    (string_bytes c.in_ok-to_text.field-0)
    (string_bytes c.in_ok-to_text.field-0) (claims_of c.in_ok-certificate.certificate) refl
    (IsUtf8-string_bytes c.in_ok-to_text.field-0) c.in_ok-to_text.ensures.reads_back)
    c.in_ok-certificate.ensures.accepted)
