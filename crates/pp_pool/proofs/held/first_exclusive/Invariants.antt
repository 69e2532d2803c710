use Rattle.std.proofs.Common.{◌≡◌, ◌<◌, length, drop}
use Rattle.pp_pool.specs.Lent.{off_from}
use Rattle.pp_pool.proofs.held.first_exclusive.Given as goal

abbrev pub invariant-loop-slot : goal.invariant-loop-slot
invariant-loop-slot l = record {
  rest : off_from l.slot (drop l.slot l.guards) ≡ off_from 0 l.guards;
  long : 0 < l.slot → length l.guards ≡ 32;
}
