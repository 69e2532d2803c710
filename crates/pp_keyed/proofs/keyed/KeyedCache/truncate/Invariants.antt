-- What KeyedCache::truncate keeps as it goes on: the names that were passed have keys below the limit, if any.
use Rattle.pp_keyed.proofs.WalkLemmas.{IsTruncated}
use Rattle.pp_keyed.proofs.keyed.KeyedCache.truncate.Given as goal

abbrev pub invariant-loop-name : goal.invariant-loop-name
invariant-loop-name l = record {
  truncated : IsTruncated l.fn.self.cache l.fn.self.room l.fn.self.used l.limit l.name l.self-inside.names l.self-inside.cache;
}
