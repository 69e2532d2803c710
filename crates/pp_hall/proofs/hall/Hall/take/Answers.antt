use Rattle.std.proofs.Common.{◌≡◌, refl, sym, ap, subst, rules}
use Rattle.pp_pool.specs.Performing.{is_no}
use Rattle.pp_hall.specs.Seatings as seatings
use Rattle.pp_hall.specs.Waiters as waiters
use Rattle.pp_hall.specs.Halls.{Parts}
use Rattle.pp_hall.specs.Calls.{TakeIs}
use Rattle.pp_hall.proofs.Kept.{kept, taken_peaks, take_is}
use Rattle.pp_hall.proofs.hall.Hall.take.Goals as goal

pub invariant_of-self : goal.invariant_of-self
invariant_of-self g c =
    let h : Parts = record {
      seating = c.self.inside.seating;
      waiters = c.self.inside.waiters;
      posts = c.self.inside.posts;
      policy = c.self.inside.policy;
    } in
    kept h c.self.invariant c.take-response.new.self c.settle-told.new.self c.settle-told.ensures.awake
    (taken_peaks h.seating c.args.chair c.args.prepared c.take-response.result c.take-response.new.self
    c.take-response.ensures.takes c.take-response.ensures.unchanged)

pub returns-clause-is : goal.returns-clause-is
returns-clause-is g c =
    let h : Parts = record {
      seating = c.self.inside.seating;
      waiters = c.self.inside.waiters;
      posts = c.self.inside.posts;
      policy = c.self.inside.policy;
    } in
    subst (λ (p : Parts). TakeIs (is_no c.take-response.result.answer) p c.args.chair c.args.prepared c.take-response.result
    c.settle-told.result (record h { seating = c.take-response.new.self; waiters = c.settle-told.new.self })) c.self.view_is
    (take_is h c.args.chair c.args.prepared c.take-response.result c.take-response.new.self c.settle-told.result
    c.settle-told.new.self c.take-response.ensures.takes c.take-response.ensures.cannot c.take-response.ensures.none
    c.take-response.ensures.unchanged c.settle-told.ensures.settles)
