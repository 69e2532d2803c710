use Rattle.std.proofs.Common.{sym}
use Rattle.pp_judge.specs.Judgement.{endless_in}
use Rattle.pp_judge.specs.Steps.{is_want_of_memory}
use Rattle.pp_judge.proofs.Segmented.{bounded_refused, endless_settled, none_settled}
use Rattle.pp_judge.proofs.Refusals.{tells}
use Rattle.pp_judge.proofs.Steps.{handed_on}
use Rattle.pp_judge.proofs.judgement.endless_in.Goals as goal

pub returns-in_err-settings : goal.returns-in_err-settings
returns-in_err-settings c =
    handed_on _ c.from_residual.result c.in_err-settings.field-0.0 (endless_in c.args.bytes.now)
    c.from_residual.ensures.1
    (λ memory. none_settled c.args.bytes.now c.in_err-settings.field-0.0
    (tells (is_want_of_memory c.in_err-settings.field-0.0) c.in_err-settings.field-0.0 _ c.in_err-settings.ensures
    memory))

pub returns-in-Ok : goal.returns-in-Ok
returns-in-Ok c =
    bounded_refused c.args.bytes.now c.in_ok-settings.settings c.in_ok-settings.ensures (sym c.in-Ok.ensures.exact)

pub returns-in-Err : goal.returns-in-Err
returns-in-Err c =
    endless_settled c.args.bytes.now c.in_ok-settings.settings c.in_ok-settings.ensures (sym c.in-Err.ensures.exact)
