use Rattle.std.proofs.Common.{◌≡◌, ◌≤◌, None, replicate}
use Rattle.std.specs.Prelude.{vec_len, vec_capacity}
use Rattle.pp_core.proofs.opening.idle_seats.Given as goal

abbrev pub invariant-loop : goal.invariant-loop
invariant-loop l = record {
  items : l.seats.items ≡ replicate l.counter None;
  room : l.workers ≤ vec_capacity l.seats;
  count : vec_len l.seats ≡ l.counter;
}
