use Rattle.std.proofs.Common.{length}
use Rattle.pp_draw.proofs.extent.uses_of.Given as goal

abbrev pub decreases-loop-left : goal.decreases-loop-left
decreases-loop-left l = length l.left
