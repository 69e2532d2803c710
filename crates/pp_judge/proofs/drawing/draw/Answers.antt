use Rattle.std.proofs.Common.{map}
use Rattle.pp_judge.specs.Judgement.{audited_in}
use Rattle.pp_judge.proofs.Painted.{not_painted, painted}
use Rattle.pp_judge.proofs.drawing.draw.Goals as goal

pub returns-in_err-view : goal.returns-in_err-view
returns-in_err-view c =
    not_painted (audited_in c.args.files.settings.now c.args.files.journal.now
    (map (λ plan. plan.items) c.args.files.plans.now))
    c.from_residual.result c.in_err-view.field-0.0 c.from_residual.ensures.1 c.in_err-view.ensures

pub returns-in-Ok : goal.returns-in-Ok
returns-in-Ok c =
    painted (audited_in c.args.files.settings.now c.args.files.journal.now
    (map (λ plan. plan.items) c.args.files.plans.now)) _ _ c.in_ok-view.ensures
