-- What the search in Links::last_not_busy keeps true.
use Rattle.std.proofs.Common.{◌≡◌, ◌-◌, not}
use Rattle.std.specs.Prelude.{Some, slice_index_or}
use Rattle.std.specs.List.{find}
use Rattle.pp_arc.specs.Pages.{last_not_busy}
use Rattle.pp_arc.specs.FourLists.{list_of}
use Rattle.pp_arc.specs.Table.{blank, table_of, follow}
use Rattle.pp_arc.proofs.links.LinksLists.last_not_busy.Given as goal

abbrev pub invariant-loop : goal.invariant-loop
invariant-loop g l = record {
  tagged : (slice_index_or l.self-inside.records.items l.node blank).list ≡ Some l.fn.list;
  rest : find (λ y. not (g.B.Busy.busy l.busy y))
      (follow (table_of l.self-inside.pages l.self-inside.records.items).before (l.end - l.counter) l.node)
      ≡ last_not_busy (list_of l.fn.self l.fn.list) (g.B.Busy.busy l.busy);
}
