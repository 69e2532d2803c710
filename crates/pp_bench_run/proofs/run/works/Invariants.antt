use Rattle.std.proofs.Common.{◌≡◌, vec_len}
use Rattle.pp_bench_run.proofs.run.works.Given as goal

abbrev pub invariant-loop-worker : goal.invariant-loop-worker
invariant-loop-worker g l = vec_len l.works ≡ l.worker
