-- What KeyedCache::first_from keeps as it goes on: the lowest key among the names that were passed.
use Rattle.pp_keyed.proofs.WalkLemmas.{IsLowest}
use Rattle.pp_keyed.proofs.keyed.KeyedCache.first_from.Given as goal

abbrev pub invariant-loop-name : goal.invariant-loop-name
invariant-loop-name l = record { lowest : IsLowest l.self-inside.names l.self-inside.cache l.from l.name l.first }
