-- What is left to show of Directory::move_into: the larger directory is empty, and has room for the lists.
use Rattle.std.proofs.Common.{arith}
use Rattle.pp_arc.proofs.MoveLemmas.{MovesIn, moves_in, moved_lists}
use Rattle.pp_arc.proofs.directory.Directory.move_into.Goals as goal

pub move_into-requires : goal.move_into-requires
move_into-requires g c =
    let m : MovesIn (g.L.Lists.lists c.self.inside.links) c.self.inside.target
    (g.L.Lists.lists c.larger.inside.links) c.larger.inside.c =
    moves_in (g.L.Lists.lists c.self.inside.links) c.args.self.now (g.L.Lists.lists c.larger.inside.links) c.args.larger
    c.self.inside.c c.self.inside.target c.larger.inside.c c.larger.inside.target c.self.invariant c.larger.invariant
    c.self.view_is c.larger.view_is c.requires.more c.requires.larger c.requires.empty
    (omega (arith, c.self.ranges.0.1)) in
    record { empty = m.empty; fits = m.fits }

pub invariant_of-self : goal.invariant_of-self
invariant_of-self g c =
    let m : MovesIn (g.L.Lists.lists c.self.inside.links) c.self.inside.target
    (g.L.Lists.lists c.larger.inside.links) c.larger.inside.c =
    moves_in (g.L.Lists.lists c.self.inside.links) c.args.self.now (g.L.Lists.lists c.larger.inside.links) c.args.larger
    c.self.inside.c c.self.inside.target c.larger.inside.c c.larger.inside.target c.self.invariant c.larger.invariant
    c.self.view_is c.larger.view_is c.requires.more c.requires.larger c.requires.empty
    (omega (arith, c.self.ranges.0.1)) in
    rw c.move_into.ensures.lists m.sound

pub returns-clause-lists : goal.returns-clause-lists
returns-clause-lists g c =
    moved_lists (g.L.Lists.lists c.self.inside.links) (g.L.Lists.lists c.larger.inside.links)
    (g.L.Lists.lists c.move_into.new.links) c.args.self.now c.args.larger c.self.inside.c c.self.inside.target
    c.larger.inside.c c.larger.inside.target c.move_into.ensures.lists c.self.view_is c.larger.view_is

pub returns-clause-bounds : goal.returns-clause-bounds
returns-clause-bounds g c =
    let m : MovesIn (g.L.Lists.lists c.self.inside.links) c.self.inside.target
    (g.L.Lists.lists c.larger.inside.links) c.larger.inside.c =
    moves_in (g.L.Lists.lists c.self.inside.links) c.args.self.now (g.L.Lists.lists c.larger.inside.links) c.args.larger
    c.self.inside.c c.self.inside.target c.larger.inside.c c.larger.inside.target c.self.invariant c.larger.invariant
    c.self.view_is c.larger.view_is c.requires.more c.requires.larger c.requires.empty
    (omega (arith, c.self.ranges.0.1)) in
    rw c.move_into.ensures.lists m.sound.bounds
