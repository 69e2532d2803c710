use Rattle.std.proofs.Common.{◌∙◌}
use Rattle.pp_run.proofs.GoingOn.{then_goes}
use Rattle.pp_run.proofs.stalled.Stalled.drain.Goals as goal

pub returns-then-not-is_moved : goal.returns-then-not-is_moved
returns-then-not-is_moved g c = record {
  goes_on = then_goes _ _ _ c.loop.invariant.0 c.round-next.ensures.goes_on;
  from = c.round-next.ensures.from ∙ c.loop.invariant.1;
}

pub loop-preserved : goal.loop-preserved
loop-preserved g c = (
  then_goes _ _ _ c.loop.invariant.0 c.round-next.ensures.goes_on,
  c.round-next.ensures.from ∙ c.loop.invariant.1,
)
