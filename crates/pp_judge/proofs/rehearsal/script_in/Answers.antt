use Rattle.pp_script.specs.Reading.{reading as of}
use Rattle.pp_script.specs.declared.error.ScriptError.TheVariants.{NotACue}
use Rattle.pp_judge.specs.declared.error.JudgeError.TheVariants.{Script}
use Rattle.pp_judge.specs.Judgement.{script_in}
use Rattle.pp_judge.specs.Steps.{is_want_of_memory}
use Rattle.pp_judge.proofs.Refusals.{tells}
use Rattle.pp_judge.proofs.Steps.{handed_on, none_in, read_in, refused_in}
use Rattle.pp_judge.proofs.rehearsal.script_in.Goals as goal

pub returns-in_default : goal.returns-in_default
unfolding script_in
returns-in_default c =
    none_in Script of (NotACue 1) c.args.bytes.now c.in_default.ensures.cases.0

pub returns-in_err-from_text : goal.returns-in_err-from_text
unfolding script_in
returns-in_err-from_text c =
    handed_on _ c.from_residual.result (Script c.in_err-from_text.field-0.0)
    (script_in c.args.bytes.now) c.from_residual.ensures.1
    (λ memory. refused_in Script of (NotACue 1) c.args.bytes.now c.in-Ok.text.now c.in_err-from_text.field-0.0
    c.in-Ok.ensures.cases.0 c.in-Ok.ensures.cases.1
    (tells (is_want_of_memory (Script c.in_err-from_text.field-0.0)) c.in_err-from_text.field-0.0
    (of c.in-Ok.text.now) c.in_err-from_text.ensures.exact memory))

pub returns : goal.returns
unfolding script_in
returns c =
    read_in Script of (NotACue 1) c.args.bytes.now c.in-Ok.text.now c.in_ok-from_text.field-0 c.in-Ok.ensures.cases.0
    c.in-Ok.ensures.cases.1
    c.in_ok-from_text.ensures.exact
