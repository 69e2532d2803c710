-- What the loop keeps true: the session is the first worker's.
use Rattle.std.proofs.Common.{◌≡◌}
use Rattle.pp_bench.proofs.book.Reader.misses.Given as goal

abbrev pub invariant-loop : goal.invariant-loop
invariant-loop l = l.session.worker ≡ 0
