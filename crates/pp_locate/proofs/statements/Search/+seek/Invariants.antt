use Rattle.std.proofs.Common.{◌+◌, ◌*◌}
use Rattle.pp_locate.proofs.statements.Search.+seek.Given as goal

abbrev pub decreases-statement : goal.decreases-statement
decreases-statement l = 3 * l.levels

abbrev pub decreases-below : goal.decreases-below
decreases-below l = 3 * l.levels + 1

abbrev pub decreases-branches : goal.decreases-branches
decreases-branches l = 3 * l.levels + 2
