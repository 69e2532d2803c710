-- What is left to show of Directory::put_in_t1: the page stands nowhere.
use Rattle.std.proofs.Common.{arith}
use Rattle.pp_arc.specs.Fields.{lists_with}
use Rattle.pp_arc.specs.declared.list.List.TheVariants.{T1}
use Rattle.pp_arc.specs.FourLists.{total_count}
use Rattle.pp_arc.proofs.StepLemmas.{place-times_named}
use Rattle.pp_arc.proofs.BoundLemmas.{bounds-with_front_of_t1}
use Rattle.pp_arc.proofs.MoveLemmas.{room_in, short_list}
use Rattle.pp_arc.proofs.directory.Directory.put_in_t1.Goals as goal

pub put_first-requires-clause-absent : goal.put_first-requires-clause-absent
put_first-requires-clause-absent g c =
    place-times_named (lists_with (g.L.Lists.lists c.self.inside.links) c.self.inside.c c.self.inside.target)
    c.args.page (rw (← c.self.view_is) at c.requires.absent)

pub put_first-requires-clause-short : goal.put_first-requires-clause-short
put_first-requires-clause-short g c =
    short_list (g.L.Lists.lists c.self.inside.links) c.self.inside.c c.self.inside.target T1 c.self.invariant
    (omega (arith, c.self.ranges.0.1))

pub put_first-requires-clause-room : goal.put_first-requires-clause-room
put_first-requires-clause-room g c =
    room_in (g.L.Lists.lists c.self.inside.links) c.self.inside.c c.self.inside.target
    (total_count (g.L.Lists.lists c.self.inside.links)) c.self.invariant
    (rw (← c.self.view_is) at c.requires.total_room)

pub invariant_of-self : goal.invariant_of-self
invariant_of-self g c =
    rw c.put_first.ensures.lists record {
      bounds = bounds-with_front_of_t1
          (lists_with (g.L.Lists.lists c.self.inside.links) c.self.inside.c c.self.inside.target)
          c.args.page c.self.invariant.bounds (rw (← c.self.view_is) at c.requires.below)
          (rw (← c.self.view_is) at c.requires.absent) (rw (← c.self.view_is) at c.requires.cached_room)
          (rw (← c.self.view_is) at c.requires.recent_room) (rw (← c.self.view_is) at c.requires.total_room);
      room = c.self.invariant.room;
    }

pub returns-clause-bounds : goal.returns-clause-bounds
returns-clause-bounds g c =
    rw c.put_first.ensures.lists (
    bounds-with_front_of_t1 (lists_with (g.L.Lists.lists c.self.inside.links) c.self.inside.c c.self.inside.target)
    c.args.page c.self.invariant.bounds (rw (← c.self.view_is) at c.requires.below)
    (rw (← c.self.view_is) at c.requires.absent) (rw (← c.self.view_is) at c.requires.cached_room)
    (rw (← c.self.view_is) at c.requires.recent_room) (rw (← c.self.view_is) at c.requires.total_room)
    )
