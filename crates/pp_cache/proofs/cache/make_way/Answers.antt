-- What is left to show of make_way: no more pages stand in frames.
use Rattle.pp_cache.proofs.CacheLemmas.{fewer_resident}
use Rattle.pp_cache.proofs.cache.make_way.Goals as goal

pub returns-in-Evict-clause-fewer : goal.returns-in-Evict-clause-fewer
returns-in-Evict-clause-fewer c = rw c.release.ensures.exact (fewer_resident c.args.frames.now c.in-Evict.victim)
