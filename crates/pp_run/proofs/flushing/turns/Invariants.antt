use Rattle.pp_run.specs.Counted.{HoldsNoAnswer}
use Rattle.pp_run.specs.Ends.{FlushesBy}
use Rattle.pp_run.proofs.flushing.turns.Given as goal

abbrev pub invariant-loop : goal.invariant-loop
invariant-loop g l =
    HoldsNoAnswer l.flusher.flushing
    × FlushesBy g.D.Device.calls g.D.Device.failures l.fn.flusher.device l.fn.flusher.ended l.fn.flusher.failed
    l.flusher.device l.flusher.ended l.flusher.failed
