use Rattle.pp_pool.specs.Turns.{IsReach, reach_of}
use Rattle.pp_run.specs.Counted.{IsAtWork}
use Rattle.pp_run.specs.Ends.{CountsBy}
use Rattle.pp_run.proofs.working.turns.Given as goal

abbrev pub invariant-loop : goal.invariant-loop
invariant-loop g l =
    IsAtWork l.worker.hand.stage
    × IsReach g.W.Work (reach_of l.worker) l.work
    × CountsBy g.D.Device.calls g.D.Device.failures l.fn.worker.device l.fn.worker.log.items l.worker.device
    l.worker.log.items
