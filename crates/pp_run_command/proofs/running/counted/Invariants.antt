use Rattle.std.proofs.Common.{◌≡◌, ◌+◌, vec_len}
use Rattle.std.specs.Vec.Iter.{into_iter_len}
use Rattle.pp_run_command.proofs.running.counted.Given as goal

abbrev pub invariant-loop-device : goal.invariant-loop-device
invariant-loop-device g l = vec_len l.counted + into_iter_len l.device-iterator ≡ into_iter_len l.initial.device-iterator
