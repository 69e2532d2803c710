-- What the walk keeps true: those that were passed are counted, and the others are as they were.
use Rattle.std.proofs.Common.{◌≡◌, ◌++◌, take, drop, map}
use Rattle.pp_admission.specs.Queues.{overtaken_by}
use Rattle.pp_admission.proofs.line.overtake.Given as goal

abbrev pub invariant-loop-one : goal.invariant-loop-one
invariant-loop-one l =
    l.one-items ≡ map (overtaken_by l.ticket) (take l.one-index l.fn.line) ++ drop l.one-index l.fn.line
