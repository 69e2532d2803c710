-- What is left to show of Search::leave: no mark is at a page without a number.
use Rattle.pp_arc.proofs.SearchLemmas.{KnowsBusy-gone}
use Rattle.pp_arc.proofs.search.Search.leave.Goals as goal

pub returns-else-not-is_blank : goal.returns-else-not-is_blank
returns-else-not-is_blank g c = record {
  knows = λ busy other h more.
      KnowsBusy-gone (g.L.Lists.lists c.args.links.now) c.args.page c.args.self.now busy other
      (c.is_blank.ensures c.if-not-is_blank.false c.args.page) more h;
}
