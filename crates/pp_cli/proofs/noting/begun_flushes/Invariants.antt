use Rattle.std.proofs.Common.{◌≡◌, ◌+◌, ◌≤◌, count_by, drop}
use Rattle.pp_cli.specs.Notes.{begins_flush}
use Rattle.pp_cli.proofs.noting.begun_flushes.Given as goal

abbrev pub invariant-loop-place : goal.invariant-loop-place
invariant-loop-place l = record {
  few : l.number ≤ l.place;
  counted : count_by begins_flush l.events.items ≡ l.number + count_by begins_flush (drop l.place l.events.items);
}
