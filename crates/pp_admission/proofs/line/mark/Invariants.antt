-- What the walk keeps true: those that were passed are marked, and the others are as they were.
use Rattle.std.proofs.Common.{◌≡◌, ◌++◌, take, drop, map}
use Rattle.pp_admission.specs.Queues.{marked}
use Rattle.pp_admission.proofs.line.mark.Given as goal

abbrev pub invariant-loop-one : goal.invariant-loop-one
invariant-loop-one l =
    l.one-items ≡ map (marked l.ticket l.is_asleep) (take l.one-index l.fn.line) ++ drop l.one-index l.fn.line
