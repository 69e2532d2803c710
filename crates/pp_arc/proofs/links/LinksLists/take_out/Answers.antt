-- What is left to show of Links::take_out.
use Rattle.pp_arc.specs.Table.{content_of}
use Rattle.pp_arc.proofs.LinkLemmas.{place-past, forget-past}
use Rattle.pp_arc.proofs.links.LinksLists.take_out.Goals as goal

pub returns-else-page-self-clause-lists : goal.returns-else-page-self-clause-lists
returns-else-page-self-clause-lists c = forget-past (content_of c.self.inside) c.args.self.now c.args.page
    c.self.invariant c.self.view_is c.if-page-self.false

pub returns-else-page-self-clause-gone : goal.returns-else-page-self-clause-gone
returns-else-page-self-clause-gone c = place-past (content_of c.self.inside) c.args.self.now c.args.page
    c.self.invariant c.self.view_is c.if-page-self.false
