-- What cut keeps as it goes on.
use Rattle.std.proofs.Common.{◌≡◌, ◌+◌, ◌-◌, length}
use Rattle.pp_arc.specs.FourLists.{list_of}
use Rattle.pp_arc.specs.Links.{with_first}
use Rattle.pp_arc.proofs.lists.cut.Given as goal

abbrev pub invariant-loop : goal.invariant-loop
invariant-loop g l = record {
  first : with_first (g.L.Lists.lists l.links) l.fn.list l.fn.most
      ≡ with_first (g.L.Lists.lists l.fn.links) l.fn.list l.fn.most;
  size : length (list_of (g.L.Lists.lists l.links) l.fn.list) + (l.counter - l.fn.most) ≡ l.end;
}
