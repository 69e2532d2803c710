use Rattle.std.proofs.Common.{◌≤◌}
use Rattle.std.specs.Prelude.{vec_capacity}
use Rattle.pp_vault.specs.Stages.{AllIdle}
use Rattle.pp_vault.proofs.hands.Hands.new.Given as goal

abbrev pub invariant-loop-worker : goal.invariant-loop-worker
invariant-loop-worker l = record {
  idle : AllIdle l.worker l.places.items;
  room : l.workers ≤ vec_capacity l.places;
}
