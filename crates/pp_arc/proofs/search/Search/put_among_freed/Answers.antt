-- What is left to show of Search::put_among_freed: the page is among the freed ones of its list.
use Rattle.std.proofs.Common.{◌<◌, ℕ, ap, sym, subst, ◌∙◌, arith, inr}
use Rattle.pp_arc.specs.Search.{SearchMarks, KnowsBusy, number_of, with_freed}
use Rattle.pp_arc.proofs.SearchLemmas.{KnowsBusy-told}
use Rattle.pp_arc.proofs.search.Search.put_among_freed.Goals as goal

pub set_freed-requires : goal.set_freed-requires
set_freed-requires g c = inr (omega (arith, c.requires.number, c.requires.passed))

pub returns-in-Some : goal.returns-in-Some
returns-in-Some g c = record {
  knows = λ busy other h more.
      let lt : 0 < number_of c.args.self.now c.args.page = omega (arith, c.requires.number, c.requires.passed) in
      subst (λ (w : SearchMarks). KnowsBusy (g.L.Lists.lists c.args.links.now) w other)
      (sym (c.set_freed.ensures
      ∙ ap (λ (n : ℕ). with_freed c.args.self.now c.in-Some.list c.args.page n) c.requires.number))
      (KnowsBusy-told (g.L.Lists.lists c.args.links.now) c.args.page c.in-Some.list c.args.self.now busy other
      c.requires.once (sym c.place.ensures.place ∙ c.in-Some.is) lt more h);
}
