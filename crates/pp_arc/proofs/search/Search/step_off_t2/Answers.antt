-- What is left to show of Search::step_off_t2: the mark is at the next less recent page.
use Rattle.std.proofs.Common.{ap, sym, ◌∙◌}
use Rattle.std.specs.Prelude.{Option}
use Rattle.std.proofs.Common.{ℕ}
use Rattle.pp_arc.specs.Search.{SearchMarks}
use Rattle.pp_arc.proofs.SearchLemmas.{KnowsBusy-step_t2, option_is, after-other}
use Rattle.pp_arc.proofs.search.Search.step_off_t2.Goals as goal

pub returns-then-eq-clause-knows : goal.returns-then-eq-clause-knows
returns-then-eq-clause-knows g c = λ busy h.
    KnowsBusy-step_t2 (g.L.Lists.lists c.args.links.now) c.args.page c.args.self.now _ busy c.requires.once
    (ap (λ (w : SearchMarks). w.t2) (sym c.self.view_is)
    ∙ option_is c.self.inside.t2 c.args.page c.eq.result c.eq.ensures c.if-eq.true)
    (ap (λ (w : SearchMarks). record w { t2 = c.after-self-inside.result }) c.self.view_is
    ∙ ap (λ (o : Option ℕ). record c.args.self.now { t2 = o }) c.after-self-inside.ensures) h

pub returns-then-eq-clause-mark : goal.returns-then-eq-clause-mark
returns-then-eq-clause-mark g c = λ e.
    after-other (g.L.Lists.lists c.args.links.now) c.args.page c.requires.once (sym c.after-self-inside.ensures ∙ e)
