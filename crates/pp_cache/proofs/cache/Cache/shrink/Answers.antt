-- What is left to show of Cache::shrink: behind two walks no page is idle.
use Rattle.pp_cache.proofs.WalkLemmas.{two_walks}
use Rattle.pp_cache.proofs.cache.Cache.shrink.Goals as goal

pub returns-clause-exact : goal.returns-clause-exact
returns-clause-exact c =
    two_walks c.args.self.now c.drop_in.new.self c.drop_in-2.new.self c.drop_in.ensures.were_sound
    c.drop_in.ensures.exact c.drop_in-2.ensures.exact
