-- What Cache::truncate_keys keeps as it goes on: the keys below the limit, and those that are still to come.
use Rattle.std.specs.Prelude.{◌||◌, nat_lt, nat_le}
use Rattle.pp_cache.specs.Cache.{KeepsOnly, IsSound}
use Rattle.pp_cache.proofs.cache.Cache.truncate_keys.Given as goal

abbrev pub invariant-loop-key : goal.invariant-loop-key
invariant-loop-key l = record {
  keeps : KeepsOnly (λ k. nat_lt k l.fn.limit || nat_le l.key k) l.fn.self l.self;
  sound : IsSound l.self;
}
