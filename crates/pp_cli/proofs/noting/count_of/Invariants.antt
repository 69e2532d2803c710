use Rattle.std.proofs.Common.{◌≡◌, ◌+◌, ◌≤◌, count_by, drop}
use Rattle.pp_report.specs.Reports.{counts}
use Rattle.pp_cli.proofs.noting.count_of.Given as goal

abbrev pub invariant-loop-place : goal.invariant-loop-place
invariant-loop-place l = record {
  few : l.number ≤ l.place;
  counted : count_by (counts l.figure) l.events.items ≡ l.number + count_by (counts l.figure) (drop l.place l.events.items);
}
