-- What is left to show of Links::place.
use Rattle.std.proofs.Common.{sym}
use Rattle.pp_arc.specs.Table.{content_of}
use Rattle.pp_arc.proofs.LinkLemmas.{place-past}
use Rattle.pp_arc.proofs.links.LinksLists.place.Goals as goal

pub returns-else-page-self-clause-place : goal.returns-else-page-self-clause-place
returns-else-page-self-clause-place c = sym (place-past (content_of c.self.inside) c.args.self.now c.args.page
    c.self.invariant c.self.view_is c.if-page-self.false)
