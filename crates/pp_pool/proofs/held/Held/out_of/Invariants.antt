use Rattle.std.specs.Prelude.{vec_capacity}
use Rattle.pp_pool.proofs.TakenOut.{TakenBefore}
use Rattle.pp_pool.proofs.held.Held.out_of.Given as goal

abbrev pub invariant-loop-slot : goal.invariant-loop-slot
invariant-loop-slot g l = TakenBefore l.slot l.fn.guards l.guards l.out.items (vec_capacity l.out)
