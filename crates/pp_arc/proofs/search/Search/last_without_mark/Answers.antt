-- What is left to show of Search::last_without_mark: a list without a mark is searched from its end.
use Rattle.std.proofs.Common.{sym, subst}
use Rattle.pp_arc.specs.Search.{SearchMarks, KnowsBusy}
use Rattle.pp_arc.proofs.SearchLemmas.{KnowsBusy-no_mark}
use Rattle.pp_arc.proofs.search.Search.last_without_mark.Goals as goal

pub returns-clause-knows : goal.returns-clause-knows
returns-clause-knows g c =
    subst (λ (w : SearchMarks). KnowsBusy (g.L.Lists.lists c.args.links.now) w (g.B.Busy.busy c.args.busy.now))
    (sym c.set_mark.ensures)
    (KnowsBusy-no_mark (g.L.Lists.lists c.args.links.now) c.args.list c.args.self.now (g.B.Busy.busy c.args.busy.now)
    c.requires.knows)
