-- What is left to show of NamedLinks::let_go: the node is free, and no name leads to it.
use Rattle.std.proofs.Common.{length, set, sym, ap, subst, ◌∙◌}
use Rattle.pp_arc.specs.FourLists.{FourLists}
use Rattle.pp_arc.specs.Names.{IsNaming, naming_of, lists_at}
use Rattle.pp_arc.proofs.NamingLemmas.{takes, taken_out, with_links}
use Rattle.pp_arc.proofs.named.NamedLinks.let_go.Goals as goal

pub invariant_of-self : goal.invariant_of-self
invariant_of-self c =
    subst (λ (s : FourLists). IsNaming (with_links (taken_out (naming_of c.self.inside) c.args.page c.args.node) s))
    (sym c.take_out.ensures.lists)
    (takes (naming_of c.self.inside) c.args.self.now c.args.page c.args.node c.self.invariant c.self.view_is
    c.requires.node).naming

pub returns-clause-lists : goal.returns-clause-lists
returns-clause-lists c =
    ap (λ (s : FourLists). lists_at (length (set c.self.inside.names.items c.args.page 0)) c.self.inside.pages.items s)
    c.take_out.ensures.lists
    ∙ (takes (naming_of c.self.inside) c.args.self.now c.args.page c.args.node c.self.invariant c.self.view_is
    c.requires.node).lists
