-- What a cache keeps beside its lists and frames: what the search for a page that isn't pinned knows.
use Rattle.pp_arc.specs.Search.{SearchMarks, KnowsBusy}
use Rattle.pp_cache.specs.Frames.{is_pinned}
use Rattle.pp_cache.specs.Cache.{PageCache, IsSound}

pub record IsSearched (c : PageCache) (k : SearchMarks) : Type 0 where
  pub sound : IsSound c
  -- what the search leaves out is pinned
  pub knows : KnowsBusy c.lists k (is_pinned c.table)
