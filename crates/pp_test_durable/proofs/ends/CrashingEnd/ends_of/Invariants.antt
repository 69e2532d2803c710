use Rattle.std.proofs.Common.{◌≡◌, vec_len}
use Rattle.pp_test_durable.proofs.ends.CrashingEnd.ends_of.Given as goal

abbrev pub invariant-loop-end : goal.invariant-loop-end
invariant-loop-end g l = vec_len l.made ≡ l._end
