use Rattle.std.proofs.Common.{◌≡◌}
use Rattle.pp_buffer_pool.proofs.pool.BufferPool.perform_under.Given as goal

abbrev pub invariant-loop : goal.invariant-loop
invariant-loop g l = l.request ≡ l.fn.request
