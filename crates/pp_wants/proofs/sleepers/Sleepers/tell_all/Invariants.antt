use Rattle.pp_wants.proofs.Settling.{IsSettledTo}
use Rattle.pp_wants.proofs.sleepers.Sleepers.tell_all.Given as goal

abbrev pub invariant-loop-worker : goal.invariant-loop-worker
invariant-loop-worker l = IsSettledTo l.vault l.fn.self l.self l.now_told l.worker
