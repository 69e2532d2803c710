-- What is left to show of Cache::cached: the pages of both lists are as many as the size at most.
use Rattle.std.proofs.Common.{arith}
use Rattle.pp_cache.proofs.cache.Cache.cached.Goals as goal

pub overflow_add-result : goal.overflow_add-result
overflow_add-result c = omega (
  arith,
  c.size-size.ensures.size,
  c.size-size.ensures.bounds.cached,
  c.len-once.ensures.len,
  c.len-again.ensures.len,
)
