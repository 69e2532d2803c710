use Rattle.std.proofs.Common.{◌≡◌, vec_len}
use Rattle.pp_run_command.proofs.running.traced_works.Given as goal

abbrev pub invariant-loop-worker : goal.invariant-loop-worker
invariant-loop-worker l = vec_len l.works ≡ l.worker
