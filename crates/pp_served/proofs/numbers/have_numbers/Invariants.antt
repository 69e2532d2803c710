use Rattle.std.proofs.Common.{drop}
use Rattle.std.specs.List.{AllByRecursion}
use Rattle.pp_report.specs.Lines.{HasNumbers}
use Rattle.pp_served.proofs.numbers.have_numbers.Given as goal

abbrev pub invariant-loop-place : goal.invariant-loop-place
invariant-loop-place l =
    AllByRecursion HasNumbers (drop l.place l.events.items) → AllByRecursion HasNumbers l.events.items
