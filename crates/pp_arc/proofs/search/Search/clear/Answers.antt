-- What is left to show of Search::clear: a page without a number stays as it is.
use Rattle.std.proofs.Common.{sym}
use Rattle.pp_arc.proofs.SearchLemmas.{without_number-none}
use Rattle.pp_arc.proofs.search.Search.clear.Goals as goal

pub returns-else-not-is_blank : goal.returns-else-not-is_blank
returns-else-not-is_blank c =
    sym (without_number-none c.args.self.now c.args.page (c.is_blank.ensures c.if-not-is_blank.false c.args.page))
