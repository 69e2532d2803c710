-- What is left to show of Links::before.
use Rattle.std.proofs.Common.{◌∙◌, sym, arith}
use Rattle.pp_arc.specs.Table.{content_of}
use Rattle.pp_arc.proofs.BeforeLemmas.{placed, ahead_at}
use Rattle.pp_arc.proofs.links.LinksLists.before.Goals as goal

pub index-requires : goal.index-requires
index-requires c = omega
    (arith, placed (content_of c.self.inside) c.args.self.now c.args.page c.self.invariant c.self.view_is c.requires)

pub returns-clause-some : goal.returns-clause-some
returns-clause-some c = λ list ahead at e.
    (ahead_at (content_of c.self.inside) c.args.self.now list c.args.page c.index.result.now c.self.invariant
    c.self.view_is at c.index.ensures).some ahead (sym c.page_at.ensures ∙ e)

pub returns-clause-none : goal.returns-clause-none
returns-clause-none c = λ list at e.
    (ahead_at (content_of c.self.inside) c.args.self.now list c.args.page c.index.result.now c.self.invariant
    c.self.view_is at c.index.ensures).none (sym c.page_at.ensures ∙ e)
