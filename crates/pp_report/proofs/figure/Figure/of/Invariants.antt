use Rattle.std.proofs.Common.{◌≡◌, ◌+◌, ◌≤◌, count_by, drop}
use Rattle.pp_report.specs.Reports.{counts}
use Rattle.pp_report.proofs.figure.Figure.of.Given as goal

abbrev pub invariant-loop-place : goal.invariant-loop-place
invariant-loop-place l = record {
  few : l.number ≤ l.place;
  counted : count_by (counts l.self) l.run.events.items ≡ l.number + count_by (counts l.self) (drop l.place l.run.events.items);
}
