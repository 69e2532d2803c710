-- What pour keeps as it goes on.
use Rattle.std.proofs.Common.{◌≡◌, ◌++◌, length}
use Rattle.pp_arc.specs.FourLists.{list_of}
use Rattle.pp_arc.specs.Links.{with_list, FitsInto}
use Rattle.pp_arc.proofs.lists.pour.Given as goal

abbrev pub invariant-loop-page : goal.invariant-loop-page
invariant-loop-page g l = record {
  left : g.L.Lists.lists l.from
      ≡ with_list (g.L.Lists.lists l.fn.from) l.fn.list (list_of (g.L.Lists.lists l.from) l.fn.list);
  into : g.L.Lists.lists l.to
      ≡ with_list (g.L.Lists.lists l.fn.to) l.fn.list (list_of (g.L.Lists.lists l.to) l.fn.list);
  all : list_of (g.L.Lists.lists l.from) l.fn.list ++ list_of (g.L.Lists.lists l.to) l.fn.list
      ≡ list_of (g.L.Lists.lists l.fn.from) l.fn.list ++ list_of (g.L.Lists.lists l.fn.to) l.fn.list;
  fits : FitsInto (g.L.Lists.lists l.from) (g.L.Lists.lists l.to);
}

abbrev pub decreases-loop-page : goal.decreases-loop-page
decreases-loop-page g l = length (list_of (g.L.Lists.lists l.from) l.fn.list)
