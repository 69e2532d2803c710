-- What the search in Search::last_before keeps true.
use Rattle.std.proofs.Common.{◌≡◌, ◌-◌, length}
use Rattle.std.specs.Prelude.{Some}
use Rattle.pp_arc.specs.Pages.{behind}
use Rattle.pp_arc.specs.FourLists.{list_of}
use Rattle.pp_arc.specs.Search.{KnowsBusy, NoneFreed, mark_of}
use Rattle.pp_arc.proofs.search.Search.last_before.Given as goal

-- the mark stands, and no page was freed
abbrev pub invariant-loop-page : goal.invariant-loop-page
invariant-loop-page g l = record {
  knows : KnowsBusy (g.L.Lists.lists l.links) l.self (g.B.Busy.busy l.busy);
  mark : mark_of l.self l.list ≡ Some l.mark;
  none : NoneFreed l.self l.list;
}

-- how many pages don't stand behind the mark
abbrev pub decreases-loop-page : goal.decreases-loop-page
decreases-loop-page g l = length (list_of (g.L.Lists.lists l.links) l.list) - length (behind (list_of (g.L.Lists.lists
    l.links) l.list) l.mark)
