use Rattle.std.proofs.Common.{◌≡◌}
use Rattle.pp_run.specs.Rested.{AreIdleBelow}
use Rattle.pp_run.proofs.renewing.are_idle.Given as goal

abbrev pub invariant-loop-worker : goal.invariant-loop-worker
invariant-loop-worker l =
    (l.hands.workers ≡ l.fn.hands.workers) × (l.hands.flushing ≡ l.fn.hands.flushing)
    × AreIdleBelow l.hands.workers l.worker
