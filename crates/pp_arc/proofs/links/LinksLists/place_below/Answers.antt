-- What is left to show of Links::place_below.
use Rattle.pp_arc.specs.Table.{content_of}
use Rattle.pp_arc.proofs.LookLemmas.{place_at}
use Rattle.pp_arc.proofs.links.LinksLists.place_below.Goals as goal

pub returns : goal.returns
returns c = place_at (content_of c.self.inside) c.args.self.now c.args.page c.index.result.now c.self.invariant
    c.self.view_is c.requires c.index.ensures
