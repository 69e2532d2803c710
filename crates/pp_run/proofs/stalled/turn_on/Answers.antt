use Rattle.std.proofs.Common.{◌∙◌}
use Rattle.pp_run.proofs.GoingOn.{then_goes, turned}
use Rattle.pp_run.proofs.stalled.turn_on.Goals as goal

pub returns-in_default : goal.returns-in_default
returns-in_default g c = record {
  book =
      then_goes _ _ _ c.loop.invariant.0
      (turned _ _ _ c.loop.worker c.loop.work c.turn.result c.turn.new.self c.turn.new.work c.turn.ensures.turn
      (λ x asked response y given. given));
  worker = c.turn.ensures.worker ∙ c.loop.invariant.1;
}

pub loop-preserved : goal.loop-preserved
loop-preserved g c = (
  then_goes _ _ _ c.loop.invariant.0
      (turned _ _ _ c.loop.worker c.loop.work c.turn.result c.turn.new.self c.turn.new.work c.turn.ensures.turn
      (λ x asked response y given. given)),
  c.turn.ensures.worker ∙ c.loop.invariant.1,
)
