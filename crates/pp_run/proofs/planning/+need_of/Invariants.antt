use Rattle.std.proofs.Common.{length}
use Rattle.pp_run.proofs.planning.+need_of.Given as goal

abbrev pub decreases-need_of : goal.decreases-need_of
decreases-need_of l = length l.plans.now
