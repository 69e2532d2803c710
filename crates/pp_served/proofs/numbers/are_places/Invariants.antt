use Rattle.std.proofs.Common.{drop}
use Rattle.std.specs.List.{AllByRecursion}
use Rattle.pp_served.specs.Texts.{IsPlace}
use Rattle.pp_served.proofs.numbers.are_places.Given as goal

abbrev pub invariant-loop-place : goal.invariant-loop-place
invariant-loop-place l = AllByRecursion IsPlace (drop l.place l.places) → AllByRecursion IsPlace l.places
