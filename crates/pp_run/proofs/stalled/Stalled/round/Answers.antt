use Rattle.std.proofs.Common.{◌∙◌}
use Rattle.pp_run.proofs.GoingOn.{then_goes}
use Rattle.pp_run.proofs.stalled.Stalled.round.Goals as goal

pub loop-worker-preserved : goal.loop-worker-preserved
loop-worker-preserved g c = (
  then_goes _ _ _ c.loop-worker.invariant.0 c.work_on-next.ensures.goes_on,
  c.work_on-next.ensures.from ∙ c.loop-worker.invariant.1,
)
