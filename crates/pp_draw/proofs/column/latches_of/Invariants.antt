use Rattle.std.proofs.Common.{◌≡◌}
use Rattle.pp_model.specs.Pool.{State}
use Rattle.pp_core.specs.StandsFor.{StandsFor}
use Rattle.pp_draw.specs.Columns.{latches_below}
use Rattle.pp_draw.proofs.column.latches_of.Given as goal

abbrev pub invariant-loop-slot : goal.invariant-loop-slot
invariant-loop-slot l = (s : State) → StandsFor l.core s → l.latches ≡ latches_below s l.worker l.slot
