use Rattle.std.proofs.Common.{◌≡◌}
use Rattle.pp_run.specs.GoingOn.{GoesOn}
use Rattle.pp_run.proofs.stalled.Stalled.round.Given as goal

abbrev pub invariant-loop-worker : goal.invariant-loop-worker
invariant-loop-worker g l = GoesOn l.fn.self.book l.stalled.book × (l.stalled.from ≡ l.fn.self.from)
