use Rattle.std.proofs.Common.{◌≡◌, take}
use Rattle.pp_totals.specs.Counting.{totals_of}
use Rattle.pp_totals.proofs.totals.Totals.of.Given as goal

abbrev pub invariant-loop-place : goal.invariant-loop-place
invariant-loop-place l = l.totals ≡ totals_of (take l.place l.events.items)
