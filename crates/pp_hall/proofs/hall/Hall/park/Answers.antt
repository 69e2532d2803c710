use Rattle.pp_hall.specs.Halls.{Parts}
use Rattle.pp_hall.proofs.Kept.{kept_with, came_homes, stayed_homes}
use Rattle.pp_hall.proofs.hall.Hall.park.Goals as goal

pub invariant_of-self-2 : goal.invariant_of-self-2
invariant_of-self-2 g c =
    let h : Parts = record {
      seating = c.self.inside.seating;
      waiters = c.self.inside.waiters;
      posts = c.self.inside.posts;
      policy = c.self.inside.policy;
    } in
    kept_with (record {
      seating = c.take_in.new.self;
      waiters = c.settle-told.new.self;
      posts = c.put.new.self;
      policy = c.self.inside.policy;
    }) c.settle-told.ensures.awake
    (came_homes h c.self.invariant c.take_in.new.self c.put.new.self c.in-Some.chair c.take_in.ensures c.in-Ok.ensures.ok
    c.in-Ok.ensures.there)

pub invariant_of-self-then-not-is_idle : goal.invariant_of-self-then-not-is_idle
invariant_of-self-then-not-is_idle g c =
    let h : Parts = record {
      seating = c.self.inside.seating;
      waiters = c.self.inside.waiters;
      posts = c.self.inside.posts;
      policy = c.self.inside.policy;
    } in
    kept_with (record {
      seating = c.self.inside.seating;
      waiters = c.settle.new.self;
      posts = c.put.new.self;
      policy = c.self.inside.policy;
    }) c.settle.ensures.awake (stayed_homes h c.self.invariant c.put.new.self c.in-Some.chair c.in-Ok.ensures.there)
