-- What is left to show of Search::leave_among_passed: no mark is at a page without a number.
use Rattle.std.proofs.Common.{◌≡◌, arith}
use Rattle.pp_arc.specs.Search.{number_of}
use Rattle.pp_arc.proofs.SearchLemmas.{KnowsBusy-gone}
use Rattle.pp_arc.proofs.search.Search.leave_among_passed.Goals as goal

pub returns-else-number-gt0 : goal.returns-else-number-gt0
returns-else-number-gt0 g c = record {
  knows = λ busy other h more.
      let zero : number_of c.args.self.now c.args.page ≡ 0 = omega (arith, c.number.ensures, c.if-number-gt0.false) in
      KnowsBusy-gone (g.L.Lists.lists c.args.links.now) c.args.page c.args.self.now busy other zero more h;
}
