use Rattle.pp_core.specs.Parts.{parts_of}
use Rattle.pp_core.proofs.TurnTies.{NoneBelow, idles}
use Rattle.pp_core.proofs.table.Table.first_idle.Given as goal

abbrev pub invariant-loop-worker : goal.invariant-loop-worker
invariant-loop-worker l = NoneBelow (parts_of l.self) idles l.worker
