-- What is left to show of Directory::move_to_t2: the bounds hold with the page at the front of T2.
use Rattle.std.proofs.Common.{arith}
use Rattle.pp_arc.specs.declared.list.List.TheVariants.{T2}
use Rattle.pp_arc.specs.FourLists.{total_count}
use Rattle.pp_arc.specs.Figure.{forget}
use Rattle.pp_arc.specs.Fields.{lists_with}
use Rattle.pp_arc.proofs.MoveLemmas.{room_in, short_list}
use Rattle.pp_arc.proofs.StepLemmas.{bounds-moved_to_t2}
use Rattle.pp_arc.proofs.directory.Directory.move_to_t2.Goals as goal

pub invariant_of-self : goal.invariant_of-self
invariant_of-self g c =
    rw c.move_first.ensures.lists record {
      bounds = bounds-moved_to_t2 (lists_with (g.L.Lists.lists c.self.inside.links) c.self.inside.c
          c.self.inside.target)
          c.args.self.now c.args.page c.self.view_is c.self.invariant.bounds c.requires.below c.requires.cached_room
          c.requires.total_room;
      room = c.self.invariant.room;
    }

pub returns-clause-bounds : goal.returns-clause-bounds
returns-clause-bounds g c =
    rw c.move_first.ensures.lists (bounds-moved_to_t2 (lists_with (g.L.Lists.lists c.self.inside.links)
    c.self.inside.c c.self.inside.target) c.args.self.now c.args.page
    c.self.view_is
    c.self.invariant.bounds c.requires.below c.requires.cached_room c.requires.total_room)

pub move_first-requires-clause-short : goal.move_first-requires-clause-short
move_first-requires-clause-short g c =
    short_list (g.L.Lists.lists c.self.inside.links) c.self.inside.c c.self.inside.target T2 c.self.invariant
    (omega (arith, c.self.ranges.0.1))

pub move_first-requires-clause-room : goal.move_first-requires-clause-room
move_first-requires-clause-room g c =
    room_in (g.L.Lists.lists c.self.inside.links) c.self.inside.c c.self.inside.target
    (total_count (forget (g.L.Lists.lists c.self.inside.links) c.args.page)) c.self.invariant
    (rw (← c.self.view_is) at c.requires.total_room)
