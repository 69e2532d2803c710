-- What is left to show of Links::front.
use Rattle.std.proofs.Common.{◌∙◌}
use Rattle.pp_arc.specs.Table.{content_of}
use Rattle.pp_arc.proofs.LookLemmas.{front_at}
use Rattle.pp_arc.proofs.links.LinksLists.front.Goals as goal

pub returns : goal.returns
returns c = c.page_at.ensures ∙ front_at (content_of c.self.inside) c.args.self.now c.args.list c.code_of.result
    c.index.result.now c.self.invariant c.self.view_is c.code_of.ensures.code c.index.ensures
