use Rattle.std.proofs.Common.{drop, map}
use Rattle.std.specs.List.{AllByRecursion}
use Rattle.pp_report.specs.Lines.{HasNumbers}
use Rattle.pp_report.proofs.events.each_has_numbers.Given as goal

abbrev pub invariant-loop-events : goal.invariant-loop-events
invariant-loop-events l =
    AllByRecursion (AllByRecursion HasNumbers) (map (λ events. events.items) (drop l.events-index l.journals))
    → AllByRecursion (AllByRecursion HasNumbers) (map (λ events. events.items) l.journals)
