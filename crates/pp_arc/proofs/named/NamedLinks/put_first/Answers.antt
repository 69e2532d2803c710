-- What is left to show of NamedLinks::put_first: the node that is taken was free, and names lead to it from now on.
use Rattle.std.proofs.Common.{length, set, sym, ap, subst, ◌∙◌, ◌+◌, ◌<◌, arith, inr}
use Rattle.pp_arc.specs.FourLists.{FourLists}
use Rattle.pp_arc.specs.Names.{IsNaming, naming_of, lists_at}
use Rattle.pp_arc.proofs.NamingLemmas.{puts, put_in, has_spare, with_links}
use Rattle.pp_arc.proofs.named.NamedLinks.put_first.Goals as goal

pub overflow_sub-self : goal.overflow_sub-self
overflow_sub-self c =
    let room : 0 < c.self.inside.spare = has_spare (naming_of c.self.inside) c.args.self.now c.args.page
    c.self.invariant c.self.view_is c.requires.below c.requires.absent c.requires.room in
    omega arith

pub overflow_add-node : goal.overflow_add-node
overflow_add-node c =
    let low : c.index-node.result.now < length c.self.inside.pages.items =
    (puts (naming_of c.self.inside) c.args.self.now c.args.list c.args.page c.index-node.result.now c.self.invariant
    c.self.view_is c.requires.below c.requires.absent c.requires.room c.index-node.ensures).below in
    omega (arith, low, c.self.invariant.fits)

pub index_mut-requires-2 : goal.index_mut-requires-2
index_mut-requires-2 c =
    let low : c.index-node.result.now < length c.self.inside.pages.items =
    (puts (naming_of c.self.inside) c.args.self.now c.args.list c.args.page c.index-node.result.now c.self.invariant
    c.self.view_is c.requires.below c.requires.absent c.requires.room c.index-node.ensures).below in
    omega (arith, low, c.self.inside.pages.ok.0)

pub put_first-requires-clause-below : goal.put_first-requires-clause-below
put_first-requires-clause-below c =
    let low : c.index-node.result.now < length c.self.inside.pages.items =
    (puts (naming_of c.self.inside) c.args.self.now c.args.list c.args.page c.index-node.result.now c.self.invariant
    c.self.view_is c.requires.below c.requires.absent c.requires.room c.index-node.ensures).below in
    omega (arith, low, c.self.invariant.nodes)

pub put_first-requires-clause-absent : goal.put_first-requires-clause-absent
put_first-requires-clause-absent c =
    (puts (naming_of c.self.inside) c.args.self.now c.args.list c.args.page c.index-node.result.now c.self.invariant
    c.self.view_is c.requires.below c.requires.absent c.requires.room c.index-node.ensures).nowhere

pub invariant_of-self : goal.invariant_of-self
invariant_of-self c =
    subst (λ (s : FourLists). IsNaming (with_links (put_in (naming_of c.self.inside) c.args.list c.args.page
    c.index-node.result.now) s)) (sym c.put_first.ensures.lists)
    (puts (naming_of c.self.inside) c.args.self.now c.args.list c.args.page c.index-node.result.now c.self.invariant
    c.self.view_is c.requires.below c.requires.absent c.requires.room c.index-node.ensures).naming

pub returns-clause-lists : goal.returns-clause-lists
returns-clause-lists c =
    ap (λ (s : FourLists). lists_at (length (set c.self.inside.names.items c.args.page (c.index-node.result.now + 1)))
    (set c.self.inside.pages.items c.index-node.result.now c.args.page) s) c.put_first.ensures.lists
    ∙ (puts (naming_of c.self.inside) c.args.self.now c.args.list c.args.page c.index-node.result.now c.self.invariant
    c.self.view_is c.requires.below c.requires.absent c.requires.room c.index-node.ensures).lists

pub put_first-requires-clause-room : goal.put_first-requires-clause-room
put_first-requires-clause-room c = inr (omega (arith, c.self.invariant.nodes, c.self.invariant.room))
