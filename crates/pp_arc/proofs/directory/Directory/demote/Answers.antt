-- What is left to show of Directory::demote: from T1 the page goes to B1, from T2 to B2.
use Rattle.std.proofs.Common.{◌≡◌, true, false, sym, subst, arith}
use Rattle.pp_arc.specs.Pages.{contains}
use Rattle.pp_arc.specs.declared.list.List.TheVariants.{B1, B2}
use Rattle.pp_arc.specs.FourLists.{FourLists, is_cached, total_count}
use Rattle.pp_arc.specs.Figure.{forget}
use Rattle.pp_arc.specs.Bounds.{IsWithinBounds}
use Rattle.pp_arc.specs.Fields.{lists_with}
use Rattle.pp_arc.proofs.MoveLemmas.{room_in, short_list}
use Rattle.pp_arc.proofs.StepLemmas.{below-cached, bounds-with_remembered, room-forget}
use Rattle.pp_arc.proofs.StepLemmas.{with_remembered-t1, with_remembered-t2}
use Rattle.pp_arc.proofs.directory.Directory.demote.Goals as goal

pub is_in_t1-requires : goal.is_in_t1-requires
is_in_t1-requires g c = below-cached c.args.self.now c.args.page (rw (← c.self.view_is) c.self.invariant.bounds)
    c.requires

pub move_first-requires-clause-below : goal.move_first-requires-clause-below
move_first-requires-clause-below g c =
    below-cached (lists_with (g.L.Lists.lists c.self.inside.links) c.self.inside.c c.self.inside.target) c.args.page
    c.self.invariant.bounds (rw (← c.self.view_is) at c.requires)

pub move_first-requires-else-is_in_t1-clause-below : goal.move_first-requires-else-is_in_t1-clause-below
move_first-requires-else-is_in_t1-clause-below g c =
    below-cached (lists_with (g.L.Lists.lists c.self.inside.links) c.self.inside.c c.self.inside.target) c.args.page
    c.self.invariant.bounds (rw (← c.self.view_is) at c.requires)

pub invariant_of-self : goal.invariant_of-self
invariant_of-self g c =
    let s : FourLists = lists_with (g.L.Lists.lists c.self.inside.links) c.self.inside.c c.self.inside.target in
    let cached : is_cached s c.args.page ≡ true = rw (← c.self.view_is) at c.requires in
    let here : contains s.t1 c.args.page ≡ true = cc (c.is_in_t1.ensures, c.if-is_in_t1.true, c.self.view_is) in
    rw c.move_first.ensures.lists record {
      bounds = (subst IsWithinBounds (sym (with_remembered-t1 s c.args.page
          c.self.invariant.bounds here))
          (bounds-with_remembered s c.args.page c.self.invariant.bounds cached));
      room = c.self.invariant.room;
    }

pub invariant_of-self-else-is_in_t1 : goal.invariant_of-self-else-is_in_t1
invariant_of-self-else-is_in_t1 g c =
    let s : FourLists = lists_with (g.L.Lists.lists c.self.inside.links) c.self.inside.c c.self.inside.target in
    let cached : is_cached s c.args.page ≡ true = rw (← c.self.view_is) at c.requires in
    let away : contains s.t1 c.args.page ≡ false = cc (c.is_in_t1.ensures, c.if-is_in_t1.false, c.self.view_is) in
    rw c.move_first-else-is_in_t1.ensures.lists record {
      bounds = (subst IsWithinBounds (sym (with_remembered-t2 s
          c.args.page c.self.invariant.bounds cached away))
          (bounds-with_remembered s c.args.page c.self.invariant.bounds cached));
      room = c.self.invariant.room;
    }

pub returns-then-is_in_t1 : goal.returns-then-is_in_t1
returns-then-is_in_t1 g c =
    let s : FourLists = lists_with (g.L.Lists.lists c.self.inside.links) c.self.inside.c c.self.inside.target in
    let here : contains s.t1 c.args.page ≡ true = cc (c.is_in_t1.ensures, c.if-is_in_t1.true, c.self.view_is) in
    rw (c.move_first.ensures.lists, ← c.self.view_is) (with_remembered-t1 s c.args.page c.self.invariant.bounds here)

pub returns-else-is_in_t1 : goal.returns-else-is_in_t1
returns-else-is_in_t1 g c =
    let s : FourLists = lists_with (g.L.Lists.lists c.self.inside.links) c.self.inside.c c.self.inside.target in
    let cached : is_cached s c.args.page ≡ true = rw (← c.self.view_is) at c.requires in
    let away : contains s.t1 c.args.page ≡ false = cc (c.is_in_t1.ensures, c.if-is_in_t1.false, c.self.view_is) in
    rw (c.move_first-else-is_in_t1.ensures.lists, ← c.self.view_is)
    (with_remembered-t2 s c.args.page c.self.invariant.bounds cached away)

pub move_first-requires-clause-short : goal.move_first-requires-clause-short
move_first-requires-clause-short g c =
    short_list (g.L.Lists.lists c.self.inside.links) c.self.inside.c c.self.inside.target B1 c.self.invariant
    (omega (arith, c.self.ranges.0.1))

pub move_first-requires-clause-room : goal.move_first-requires-clause-room
move_first-requires-clause-room g c =
    room_in (g.L.Lists.lists c.self.inside.links) c.self.inside.c c.self.inside.target
    (total_count (forget (g.L.Lists.lists c.self.inside.links) c.args.page)) c.self.invariant
    (room-forget (lists_with (g.L.Lists.lists c.self.inside.links) c.self.inside.c c.self.inside.target)
    c.args.page c.self.invariant.bounds (rw (← c.self.view_is) at c.requires)).1

pub move_first-requires-else-is_in_t1-clause-short : goal.move_first-requires-else-is_in_t1-clause-short
move_first-requires-else-is_in_t1-clause-short g c =
    short_list (g.L.Lists.lists c.self.inside.links) c.self.inside.c c.self.inside.target B2 c.self.invariant
    (omega (arith, c.self.ranges.0.1))

pub move_first-requires-else-is_in_t1-clause-room : goal.move_first-requires-else-is_in_t1-clause-room
move_first-requires-else-is_in_t1-clause-room g c =
    room_in (g.L.Lists.lists c.self.inside.links) c.self.inside.c c.self.inside.target
    (total_count (forget (g.L.Lists.lists c.self.inside.links) c.args.page)) c.self.invariant
    (room-forget (lists_with (g.L.Lists.lists c.self.inside.links) c.self.inside.c c.self.inside.target)
    c.args.page c.self.invariant.bounds (rw (← c.self.view_is) at c.requires)).1
