-- What is left to show of Cache::truncate_lists: behind four walks only the keys below the limit are left.
use Rattle.std.proofs.Common.{ltb}
use Rattle.pp_cache.proofs.WalkLemmas.{four_walks, all_cached}
use Rattle.pp_cache.proofs.cache.Cache.truncate_lists.Goals as goal

pub returns-clause-exact : goal.returns-clause-exact
returns-clause-exact c =
    four_walks (λ k. ltb k c.args.limit) c.args.self.now c.drop_in.new.self c.drop_in-2.new.self c.drop_in-3.new.self
    c.drop_in-4.new.self (all_cached c.args.self.now c.drop_in.ensures.were_sound c.requires.cached)
    c.drop_in.ensures.exact c.drop_in-2.ensures.exact c.drop_in-3.ensures.exact c.drop_in-4.ensures.exact
