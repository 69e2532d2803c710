use Rattle.std.proofs.Common.{length}
use Rattle.pp_run.proofs.planning.+need_of_queries.Given as goal

abbrev pub decreases-need_of_queries : goal.decreases-need_of_queries
decreases-need_of_queries g l = length l.plans.now
