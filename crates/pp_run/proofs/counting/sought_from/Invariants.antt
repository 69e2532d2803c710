use Rattle.std.proofs.Common.{◌≡◌, drop}
use Rattle.pp_run.specs.Calling.{sought_behind}
use Rattle.pp_run.proofs.counting.sought_from.Given as goal

abbrev pub invariant-loop-place : goal.invariant-loop-place
invariant-loop-place l =
    sought_behind l.fn.from l.events.items ≡ sought_behind l.sought (drop l.place l.events.items)
