use Rattle.std.proofs.Common.{[]}
use Rattle.pp_test_parts.proofs.plan.a_walk_is_followed.Goals as goal

pub walk-requires : goal.walk-requires
walk-requires g c = ([], c.new-cursor.ensures)
