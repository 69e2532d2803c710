use Rattle.pp_settings.specs.Reading.{reading as of}
use Rattle.pp_settings.specs.declared.error.SettingsError.TheVariants.{NotToml}
use Rattle.pp_judge.specs.declared.error.JudgeError.TheVariants.{Settings}
use Rattle.pp_judge.specs.Judgement.{settings_in}
use Rattle.pp_judge.specs.Steps.{is_want_of_memory}
use Rattle.pp_judge.proofs.Refusals.{tells}
use Rattle.pp_judge.proofs.Steps.{handed_on, none_in, read_in, refused_in}
use Rattle.pp_judge.proofs.judgement.settings_in.Goals as goal

pub returns-in_default : goal.returns-in_default
unfolding settings_in
returns-in_default c =
    none_in Settings of NotToml c.args.bytes.now c.in_default.ensures.cases.0

pub returns-in_err-from_text : goal.returns-in_err-from_text
unfolding settings_in
returns-in_err-from_text c =
    handed_on _ c.from_residual.result (Settings c.in_err-from_text.field-0.0)
    (settings_in c.args.bytes.now) c.from_residual.ensures.1
    (λ memory. refused_in Settings of NotToml c.args.bytes.now c.in-Ok.text.now c.in_err-from_text.field-0.0
    c.in-Ok.ensures.cases.0 c.in-Ok.ensures.cases.1
    (tells (is_want_of_memory (Settings c.in_err-from_text.field-0.0)) c.in_err-from_text.field-0.0
    (of c.in-Ok.text.now) c.in_err-from_text.ensures.exact memory))

pub returns : goal.returns
unfolding settings_in
returns c =
    read_in Settings of NotToml c.args.bytes.now c.in-Ok.text.now c.in_ok-from_text.field-0 c.in-Ok.ensures.cases.0
    c.in-Ok.ensures.cases.1
    c.in_ok-from_text.ensures.exact
