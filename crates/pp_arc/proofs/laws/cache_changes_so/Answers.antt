-- What a page forgotten, and a victim brought back, do to the cache.
use Rattle.pp_arc.proofs.CacheLemmas.{CachesWithout-forget, CachesAgain-bring_back}
use Rattle.pp_arc.proofs.laws.cache_changes_so.Goals as goal

pub returns-clause-forget : goal.returns-clause-forget
returns-clause-forget c = CachesWithout-forget

pub returns-clause-bring_back : goal.returns-clause-bring_back
returns-clause-bring_back c = CachesAgain-bring_back
