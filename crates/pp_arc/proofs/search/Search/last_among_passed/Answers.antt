-- What is left to show of Search::last_among_passed: the least recent freed page is the last one that isn't busy.
use Rattle.std.proofs.Common.{◌≡◌, ap, sym, ◌∙◌}
use Rattle.std.specs.Prelude.{None}
use Rattle.pp_arc.specs.Search.{SearchMarks}
use Rattle.pp_arc.proofs.SearchLemmas.{found_freed}
use Rattle.pp_arc.proofs.search.Search.last_among_passed.Goals as goal

pub returns-in-Some-clause-last : goal.returns-in-Some-clause-last
returns-in-Some-clause-last g c =
    sym (found_freed (g.L.Lists.lists c.args.links.now) c.args.list c.in-Some.page c.last_freed_not_busy.new.self
    (g.B.Busy.busy c.args.busy.now) c.requires.cached c.in-Some.ensures.not_busy
    (c.last_freed_not_busy.ensures.some c.in-Some.page c.in-Some.is)
    (c.last_freed_not_busy.ensures.knows (g.L.Lists.lists c.args.links.now) c.requires.knows))

pub returns-in-Some-clause-knows : goal.returns-in-Some-clause-knows
returns-in-Some-clause-knows g c =
    c.step_off_t2.ensures.knows (g.B.Busy.busy c.args.busy.now)
    (c.step_off_t1.ensures.knows (g.B.Busy.busy c.args.busy.now)
    (c.last_freed_not_busy.ensures.knows (g.L.Lists.lists c.args.links.now) c.requires.knows))

pub returns-in-Some-clause-marks : goal.returns-in-Some-clause-marks
returns-in-Some-clause-marks g c = (
  λ e. c.step_off_t1.ensures.mark (sym (ap (λ (w : SearchMarks). w.t1) c.step_off_t2.ensures.rest) ∙ e),
  c.step_off_t2.ensures.mark,
)

pub last_from_mark-requires-clause-knows : goal.last_from_mark-requires-clause-knows
last_from_mark-requires-clause-knows g c =
    c.last_freed_not_busy.ensures.knows (g.L.Lists.lists c.args.links.now) c.requires.knows

pub last_from_mark-requires-clause-none_freed : goal.last_from_mark-requires-clause-none_freed
last_from_mark-requires-clause-none_freed g c =
    let none : c.last_freed_not_busy.result ≡ None = cc in c.last_freed_not_busy.ensures.none none
