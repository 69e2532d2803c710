use Rattle.std.proofs.Common.{◌≤◌}
use Rattle.pp_bench_run.proofs.run.misses.Given as goal

abbrev pub invariant-loop-place : goal.invariant-loop-place
invariant-loop-place l = l.count ≤ l.place
