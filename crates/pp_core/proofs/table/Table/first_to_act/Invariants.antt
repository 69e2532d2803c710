use Rattle.pp_model.specs.Turns.{can_act}
use Rattle.pp_core.specs.Parts.{parts_of}
use Rattle.pp_core.proofs.TurnTies.{NoneBelow}
use Rattle.pp_core.proofs.table.Table.first_to_act.Given as goal

abbrev pub invariant-loop-worker : goal.invariant-loop-worker
invariant-loop-worker l = NoneBelow (parts_of l.self) can_act l.worker
