-- What is left to show of Directory::give_up: one page fewer is cached, and the bounds hold.
use Rattle.pp_arc.proofs.StepLemmas.{bounds-with_remembered, Demotes-with_remembered}
use Rattle.pp_arc.proofs.CacheLemmas.{CachesWithout-with_remembered}
use Rattle.std.proofs.Common.{sym, subst}
use Rattle.pp_arc.specs.FourLists.{FourLists}
use Rattle.pp_arc.specs.Figure.{with_remembered}
use Rattle.pp_arc.specs.Search.{SearchMarks, KnowsBusy, without_number}
use Rattle.pp_arc.proofs.SearchLemmas.{KnowsBusy-remembered, Drops-without_number}
use Rattle.pp_arc.proofs.directory.Directory.give_up.Goals as goal

pub returns-clause-fewer : goal.returns-clause-fewer
returns-clause-fewer g c =
    rw c.demote.ensures (Demotes-with_remembered c.args.self.now c.in_ok-page.page
    c.page_to_give_up.ensures.bounds c.in_ok-page.ensures.is_cached).cached

pub returns-clause-bounds : goal.returns-clause-bounds
returns-clause-bounds g c =
    rw c.demote.ensures (bounds-with_remembered c.args.self.now c.in_ok-page.page
    c.page_to_give_up.ensures.bounds c.in_ok-page.ensures.is_cached)

pub returns-clause-cache : goal.returns-clause-cache
returns-clause-cache g c =
    rw c.demote.ensures (CachesWithout-with_remembered c.args.self.now c.in_ok-page.page
    c.page_to_give_up.ensures.bounds)

pub returns-clause-knows : goal.returns-clause-knows
returns-clause-knows g c =
    subst (λ (w : FourLists). KnowsBusy w c.clear.new.self (g.B.Busy.busy c.args.busy.now)) (sym c.demote.ensures)
    (subst (λ (k : SearchMarks). KnowsBusy (with_remembered c.args.self.now c.in_ok-page.page) k (g.B.Busy.busy
    c.args.busy.now)) (sym c.clear.ensures)
    (KnowsBusy-remembered c.args.self.now c.in_ok-page.page c.page_to_give_up.new.search
    (without_number c.page_to_give_up.new.search c.in_ok-page.page) (g.B.Busy.busy c.args.busy.now)
    c.page_to_give_up.ensures.bounds.once (Drops-without_number c.args.self.now c.page_to_give_up.new.search
    (g.B.Busy.busy c.args.busy.now)
    c.in_ok-page.page c.page_to_give_up.ensures.knows)
    c.in_ok-page.ensures.marks.0 c.in_ok-page.ensures.marks.1 c.page_to_give_up.ensures.knows))
