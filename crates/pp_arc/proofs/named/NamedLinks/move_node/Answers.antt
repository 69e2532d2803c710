-- What is left to show of NamedLinks::move_node: the page keeps its node.
use Rattle.std.proofs.Common.{length, sym, ap, subst, ◌∙◌, arith, inr}
use Rattle.pp_arc.specs.FourLists.{FourLists}
use Rattle.pp_arc.specs.Names.{IsNaming, naming_of, lists_at}
use Rattle.pp_arc.proofs.NamingLemmas.{moves_node, with_links}
use Rattle.pp_arc.proofs.named.NamedLinks.move_node.Goals as goal

pub invariant_of-self : goal.invariant_of-self
invariant_of-self c =
    subst (λ (s : FourLists). IsNaming (with_links (naming_of c.self.inside) s)) (sym c.move_first.ensures.lists)
    (moves_node (naming_of c.self.inside) c.args.self.now c.args.list c.args.node c.self.invariant c.self.view_is
    c.requires.stands).naming

pub returns-clause-lists : goal.returns-clause-lists
returns-clause-lists c =
    ap (λ (s : FourLists). lists_at (length c.self.inside.names.items) c.self.inside.pages.items s)
    c.move_first.ensures.lists
    ∙ (moves_node (naming_of c.self.inside) c.args.self.now c.args.list c.args.node c.self.invariant c.self.view_is
    c.requires.stands).lists

pub move_first-requires-clause-room : goal.move_first-requires-clause-room
move_first-requires-clause-room c = inr (omega (arith, c.self.invariant.nodes, c.self.invariant.room))
