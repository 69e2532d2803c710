use Rattle.std.proofs.Common.{◌+◌, ◌*◌}
use Rattle.pp_explain.proofs.longest.Search.+seek.Given as goal

abbrev pub decreases-statement : goal.decreases-statement
decreases-statement l = 2 * l.levels

abbrev pub decreases-body : goal.decreases-body
decreases-body l = 2 * l.levels + 1
