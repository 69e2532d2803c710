-- What is left to show of NamedLinks::move_first: a page without a node gets one, and another keeps its own.
use Rattle.std.proofs.Common.{sym, refl, ap, subst, length, ◌∙◌, ◌≡◌, ◌≤◌, ℕ}
use Rattle.pp_arc.specs.FourLists.{FourLists}
use Rattle.pp_arc.specs.Figure.{forget}
use Rattle.pp_arc.specs.Links.{with_front}
use Rattle.pp_arc.specs.Names.{lists_named}
use Rattle.pp_arc.proofs.StepLemmas.{place-times_named}
use Rattle.pp_arc.proofs.NameLemmas.{forget_none}
use Rattle.pp_arc.proofs.NamingLemmas.{room_for}
use Rattle.pp_arc.proofs.named.NamedLinks.move_first.Goals as goal

pub move_node-requires : goal.move_node-requires
move_node-requires c = record { stands = (c.in-Some.ensures.some c.in-Some.node refl).stands }

pub put_first-requires-clause-absent : goal.put_first-requires-clause-absent
put_first-requires-clause-absent c =
    place-times_named (lists_named c.args.self.now) c.args.page (c.in-None.ensures.none refl)

pub put_first-requires-clause-room : goal.put_first-requires-clause-room
put_first-requires-clause-room c =
    room_for (lists_named c.args.self.now) c.args.page (length c.args.self.now.pages)
    (length c.args.self.now.names ≤ length c.args.self.now.pages) (c.in-None.ensures.none refl)
    c.requires.room

pub returns-in-Some-clause-lists : goal.returns-in-Some-clause-lists
returns-in-Some-clause-lists c =
    subst (λ (y : ℕ). lists_named c.move_node.new.self ≡ with_front (forget (lists_named c.args.self.now) y) c.args.list
    y) (c.in-Some.ensures.some c.in-Some.node refl).page c.move_node.ensures.lists

pub returns-in-None-clause-lists : goal.returns-in-None-clause-lists
returns-in-None-clause-lists c =
    c.put_first.ensures.lists
    ∙ ap (λ (s : FourLists). with_front s c.args.list c.args.page)
    (forget_none (lists_named c.args.self.now) c.args.page (c.in-None.ensures.none refl))
