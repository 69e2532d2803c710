use Rattle.std.proofs.Common.{◌≡◌, ◌≤◌, vec_len}
use Rattle.std.specs.Prelude.{vec_capacity}
use Rattle.pp_run.proofs.queries.takers_of.Given as goal

abbrev pub invariant-loop : goal.invariant-loop
invariant-loop g l = record {
  room : l.workers ≤ vec_capacity l.takers;
  count : vec_len l.takers ≡ l.counter;
}
