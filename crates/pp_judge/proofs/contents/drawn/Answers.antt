use Rattle.std.proofs.Common.{map, inl}
use Rattle.pp_judge.specs.Judgement.{audited_in}
use Rattle.pp_judge.specs.Steps.{is_want_of_memory}
use Rattle.pp_judge.proofs.Painted.{not_drawn}
use Rattle.pp_judge.proofs.contents.drawn.Goals as goal

pub returns-in-Ok : goal.returns-in-Ok
returns-in-Ok c = inl c.in-Ok.ensures

pub returns-in-Err : goal.returns-in-Err
returns-in-Err c =
    not_drawn (is_want_of_memory c.in-Err.refusal)
    (audited_in c.args.files.settings.now c.args.files.journal.now (map (λ plan. plan.items) c.args.files.plans.now))
    c.in-Err.refusal c.from.result c.from.ensures c.in-Err.ensures
