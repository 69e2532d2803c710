-- What is left to show of Directory::drop_a_name: the bounds hold without the last name of B1, or of B2.
use Rattle.std.proofs.Common.{◌≡◌}
use Rattle.pp_arc.specs.Fields.{lists_with}
use Rattle.pp_arc.proofs.BoundLemmas.{bounds-without_last_of_b1, bounds-without_last_of_b2}
use Rattle.pp_arc.proofs.BoundLemmas.{times_named-without_last_of_b1, times_named-without_last_of_b2}
use Rattle.pp_arc.proofs.directory.Directory.drop_a_name.Goals as goal

pub invariant_of-self : goal.invariant_of-self
invariant_of-self g c =
    rw c.drop_last.ensures.lists record {
      bounds = (bounds-without_last_of_b1 (lists_with (g.L.Lists.lists c.self.inside.links) c.self.inside.c
          c.self.inside.target) c.self.invariant.bounds);
      room = c.self.invariant.room;
    }

pub invariant_of-self-then-total-c : goal.invariant_of-self-then-total-c
invariant_of-self-then-total-c g c =
    rw c.drop_last-then-total-c.ensures.lists record {
      bounds = (bounds-without_last_of_b2 (lists_with (g.L.Lists.lists c.self.inside.links) c.self.inside.c
          c.self.inside.target) c.self.invariant.bounds);
      room = c.self.invariant.room;
    }

pub returns-then-recent-c-clause-fewer : goal.returns-then-recent-c-clause-fewer
returns-then-recent-c-clause-fewer g c = λ x.
    let e : lists_with (g.L.Lists.lists c.self.inside.links) c.self.inside.c c.self.inside.target ≡ c.args.self.now =
    cc in
    rw (← e) (rw c.drop_last.ensures.lists (times_named-without_last_of_b1 (lists_with (g.L.Lists.lists
    c.self.inside.links) c.self.inside.c c.self.inside.target) x))

pub returns-then-recent-c-clause-bounds : goal.returns-then-recent-c-clause-bounds
returns-then-recent-c-clause-bounds g c =
    rw c.drop_last.ensures.lists (bounds-without_last_of_b1 (lists_with (g.L.Lists.lists c.self.inside.links)
    c.self.inside.c c.self.inside.target) c.self.invariant.bounds)

pub returns-then-total-c-clause-fewer : goal.returns-then-total-c-clause-fewer
returns-then-total-c-clause-fewer g c = λ x.
    let e : lists_with (g.L.Lists.lists c.self.inside.links) c.self.inside.c c.self.inside.target ≡ c.args.self.now =
    cc in
    rw (← e) (rw c.drop_last-then-total-c.ensures.lists (times_named-without_last_of_b2 (lists_with (g.L.Lists.lists
    c.self.inside.links) c.self.inside.c c.self.inside.target) x))

pub returns-then-total-c-clause-bounds : goal.returns-then-total-c-clause-bounds
returns-then-total-c-clause-bounds g c =
    rw c.drop_last-then-total-c.ensures.lists (bounds-without_last_of_b2 (lists_with (g.L.Lists.lists
    c.self.inside.links) c.self.inside.c c.self.inside.target) c.self.invariant.bounds)
