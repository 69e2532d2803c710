-- What Cache::resize keeps as it goes on.
use Rattle.std.proofs.Common.{◌≡◌, ◌+◌, ◌-◌}
use Rattle.pp_arc.specs.FourLists.{cached_count}
use Rattle.pp_cache.specs.Cache.{fewer, IsSound, PinnedStay}
use Rattle.pp_cache.proofs.cache.Cache.resize.Given as goal

abbrev pub invariant-loop : goal.invariant-loop
invariant-loop l = record {
  rest : fewer (cached_count l.self.lists - l.fn.size) l.self
      ≡ fewer (cached_count l.fn.self.lists - l.fn.size) l.fn.self;
  size : cached_count l.self.lists + (l.counter - l.fn.size) ≡ l.end;
  stay : PinnedStay l.fn.self.table l.self.table;
  sound : IsSound l.self;
}
