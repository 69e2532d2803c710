-- What Cache::drop_in keeps as it goes on: which page is next, and that of those behind it only those that stay are left.
use Rattle.std.specs.Prelude.{◌≡◌, slice_get}
use Rattle.pp_arc.specs.FourLists.{list_of}
use Rattle.pp_cache.specs.Cache.{KeepsOnly, IsSound, stays}
use Rattle.pp_cache.proofs.WalkLemmas.{passes}
use Rattle.pp_cache.proofs.cache.Cache.drop_in.Given as goal

abbrev pub invariant-loop : goal.invariant-loop
invariant-loop l = record {
  keeps : KeepsOnly (passes (stays l.fn.leaving l.fn.self.table) (list_of l.fn.self.lists l.fn.list) l.counter) l.fn.self l.self;
  at : l.at ≡ slice_get (list_of l.fn.self.lists l.fn.list) l.counter;
  sound : IsSound l.self;
}
