-- What the walk keeps true: those that were passed are neither next nor in the way.
use Rattle.std.proofs.Common.{◌≡◌, drop}
use Rattle.pp_admission.specs.Queues.{next_among}
use Rattle.pp_admission.proofs.line.next_of.Given as goal

abbrev pub invariant-loop-one : goal.invariant-loop-one
invariant-loop-one l = next_among l.bypass l.room (drop l.one-index l.line) ≡ next_among l.bypass l.room l.line
