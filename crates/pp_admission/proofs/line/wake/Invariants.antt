-- What the walk keeps true: those that were passed are awake, and the others are as they were.
use Rattle.std.proofs.Common.{◌≡◌, ◌++◌, take, drop, map}
use Rattle.pp_admission.specs.Queues.{awakened, any_asleep}
use Rattle.pp_admission.proofs.line.wake.Given as goal

abbrev pub invariant-loop-one : goal.invariant-loop-one
invariant-loop-one l = record {
  items : l.one-items ≡ map awakened (take l.one-index l.fn.line) ++ drop l.one-index l.fn.line;
  some : l.some ≡ any_asleep (take l.one-index l.fn.line);
}
