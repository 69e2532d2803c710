-- What is left to show of Search::last_freed_not_busy: a page that is busy again isn't among the freed ones any more.
use Rattle.std.proofs.Common.{sym, subst, ◌∙◌, inl, refl}
use Rattle.pp_arc.specs.Search.{SearchMarks, KnowsBusy}
use Rattle.pp_arc.proofs.SearchLemmas.{KnowsBusy-popped, fewer_freed}
use Rattle.pp_arc.proofs.search.Search.last_freed_not_busy.Goals as goal

pub set_freed-requires : goal.set_freed-requires
set_freed-requires g c = inl refl

pub loop-page-smaller : goal.loop-page-smaller
loop-page-smaller g c =
    fewer_freed c.loop-page.self c.set_freed.new.self c.args.list c.in-Some.page c.set_freed.ensures
    (c.last_freed.ensures.some c.in-Some.page c.in-Some.is)

pub loop-page-preserved : goal.loop-page-preserved
loop-page-preserved g c = λ s h.
    subst (λ (w : SearchMarks). KnowsBusy s w (g.B.Busy.busy c.args.busy.now)) (sym c.set_freed.ensures)
    (KnowsBusy-popped s c.args.list c.in-Some.page c.loop-page.self (g.B.Busy.busy c.args.busy.now)
    (sym c.is_busy.ensures ∙ c.if-not-is_busy.false) (c.loop-page.invariant s h))
