use Rattle.std.proofs.Common.{◌+◌, ◌*◌}
use Rattle.pp_explain.proofs.places.Walk.+walk.Given as goal

abbrev pub decreases-statement : goal.decreases-statement
decreases-statement l = 3 * l.levels

abbrev pub decreases-statements : goal.decreases-statements
decreases-statements l = 3 * l.levels + 1

abbrev pub decreases-turns : goal.decreases-turns
decreases-turns l = 3 * l.levels + 2

abbrev pub decreases-choice : goal.decreases-choice
decreases-choice l = 3 * l.levels + 2
