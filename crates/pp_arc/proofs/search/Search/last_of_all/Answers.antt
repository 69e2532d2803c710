-- What is left to show of Search::last_of_all: the last page is found where it isn't busy.
use Rattle.std.proofs.Common.{sym, ◌∙◌}
use Rattle.pp_arc.specs.FourLists.{list_of}
use Rattle.pp_arc.proofs.SearchLemmas.{found_in_none, found_last, once_in}
use Rattle.pp_arc.proofs.search.Search.last_of_all.Goals as goal

pub returns-in_err-last-clause-last : goal.returns-in_err-last-clause-last
returns-in_err-last-clause-last g c =
    c.from_residual.ensures ∙ sym (found_in_none (list_of (g.L.Lists.lists c.args.links.now) c.args.list)
    (g.B.Busy.busy c.args.busy.now)
    (sym c.last.ensures ∙ c.in_err-last.was))

pub returns-then-not-is_busy-clause-last : goal.returns-then-not-is_busy-clause-last
returns-then-not-is_busy-clause-last g c =
    sym (found_last (list_of (g.L.Lists.lists c.args.links.now) c.args.list) c.in_ok-last.last (g.B.Busy.busy
    c.args.busy.now)
    (λ i. once_in (g.L.Lists.lists c.args.links.now) c.args.list i (c.requires.once i)) (sym c.last.ensures ∙
    c.in_ok-last.was)
    (sym c.is_busy.ensures ∙ c.if-not-is_busy.true))
