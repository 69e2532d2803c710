-- What is left to show of Cache::names_are_fewer: the four lists have twice as many names as the size at most.
use Rattle.std.proofs.Common.{arith}
use Rattle.pp_cache.proofs.cache.Cache.names_are_fewer.Goals as goal

pub overflow_add-remembered : goal.overflow_add-remembered
overflow_add-remembered c = omega (
  arith,
  c.size-size.ensures.size,
  c.size-size.ensures.bounds.total,
  c.len.ensures.len,
  c.len-2.ensures.len,
)

pub overflow_add-result : goal.overflow_add-result
overflow_add-result c = omega (
  arith,
  c.size-size.ensures.size,
  c.size-size.ensures.bounds.total,
  c.cached-cached.ensures.value,
  c.len.ensures.len,
  c.len-2.ensures.len,
)
