-- What is left to show of Directory::take_out: the bounds hold without the page.
use Rattle.pp_arc.specs.Fields.{lists_with}
use Rattle.pp_arc.proofs.BoundLemmas.{bounds-forget}
use Rattle.pp_arc.proofs.directory.Directory.take_out.Goals as goal

pub invariant_of-self : goal.invariant_of-self
invariant_of-self g c = rw c.take_out.ensures.lists record {
  bounds = bounds-forget (lists_with (g.L.Lists.lists c.self.inside.links) c.self.inside.c c.self.inside.target)
      c.args.page c.self.invariant.bounds;
  room = c.self.invariant.room;
}

pub returns-clause-bounds : goal.returns-clause-bounds
returns-clause-bounds g c =
    rw c.take_out.ensures.lists (bounds-forget (lists_with (g.L.Lists.lists c.self.inside.links) c.self.inside.c
    c.self.inside.target) c.args.page c.self.invariant.bounds)
