-- What is left to show of Search::step_off: no mark is at the page any more, so it may leave.
use Rattle.std.proofs.Common.{ap, sym, ◌∙◌}
use Rattle.pp_arc.specs.Search.{SearchMarks}
use Rattle.pp_arc.proofs.SearchLemmas.{KnowsBusy-left}
use Rattle.pp_arc.proofs.search.Search.step_off.Goals as goal

pub returns : goal.returns
returns g c = record {
  knows = λ busy other h more.
      KnowsBusy-left (g.L.Lists.lists c.args.links.now) c.args.page c.step_off_t2.new.self c.clear.new.self busy other
      (λ e. c.step_off_t1.ensures.mark (sym (ap (λ (w : SearchMarks). w.t1) c.step_off_t2.ensures.rest) ∙ e))
      c.step_off_t2.ensures.mark c.clear.ensures more
      (c.step_off_t2.ensures.knows busy (c.step_off_t1.ensures.knows busy h));
}
