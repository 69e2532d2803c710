use Rattle.std.proofs.Common.{sym}
use Rattle.pp_judge.specs.declared.error.JudgeError.TheVariants.{OtherLife}
use Rattle.pp_judge.specs.Judgement.{bounded_in}
use Rattle.pp_judge.specs.Steps.{is_want_of_memory}
use Rattle.pp_judge.proofs.Audited.{bounded_settled, endless_settled, none_settled}
use Rattle.pp_judge.proofs.Refusals.{tells}
use Rattle.pp_judge.proofs.Steps.{handed_on}
use Rattle.pp_judge.proofs.judgement.bounded_in.Goals as goal

pub returns-in_err-settings-clause-exact : goal.returns-in_err-settings-clause-exact
returns-in_err-settings-clause-exact c =
    handed_on _ c.from_residual.result c.in_err-settings.field-0.0 (bounded_in c.args.bytes.now)
    c.from_residual.ensures.1
    (λ memory. none_settled c.args.bytes.now c.in_err-settings.field-0.0
    (tells (is_want_of_memory c.in_err-settings.field-0.0) c.in_err-settings.field-0.0 _ c.in_err-settings.ensures
    memory))

pub returns-in_err-see_bounded-clause-exact : goal.returns-in_err-see_bounded-clause-exact
returns-in_err-see_bounded-clause-exact c =
    handed_on _ c.from_residual-in_err-see_bounded.result OtherLife (bounded_in c.args.bytes.now)
    c.from_residual-in_err-see_bounded.ensures.1
    (λ memory. endless_settled c.args.bytes.now c.in_ok-settings.settings c.in_ok-settings.ensures
    (sym c.in_err-see_bounded.ensures.exact))

pub returns-clause-exact : goal.returns-clause-exact
returns-clause-exact c =
    bounded_settled c.args.bytes.now c.in_ok-settings.settings c.in_ok-settings.ensures
    (sym c.in_ok-see_bounded.ensures.exact)
