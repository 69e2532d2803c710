-- Each page that stands in a frame unpinned is one of T1 or T2.
use Rattle.pp_cache.proofs.LawLemmas.{few_unpinned}
use Rattle.pp_cache.proofs.laws.few_are_unpinned.Goals as goal

pub returns : goal.returns
returns c = few_unpinned
