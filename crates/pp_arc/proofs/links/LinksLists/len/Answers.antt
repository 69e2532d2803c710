-- What is left to show of Links::len.
use Rattle.pp_arc.specs.Table.{content_of}
use Rattle.pp_arc.proofs.LinkLemmas.{count_at}
use Rattle.pp_arc.proofs.links.LinksLists.len.Goals as goal

pub returns : goal.returns
returns c = count_at (content_of c.self.inside) c.args.self.now c.args.list c.code_of.result c.self.view_is
    c.code_of.ensures.code
