use Rattle.std.proofs.Common.{◌≡◌, refl, sym, ap, subst, rules}
use Rattle.pp_admission.specs.Queues.{left}
use Rattle.pp_hall.specs.Seatings as seatings
use Rattle.pp_hall.specs.Waiters as waiters
use Rattle.pp_hall.specs.Halls.{Parts}
use Rattle.pp_hall.specs.Calls.{Leaves}
use Rattle.pp_hall.proofs.Kept.{kept, settled}
use Rattle.pp_hall.proofs.hall.Hall.leave.Goals as goal

pub invariant_of-self : goal.invariant_of-self
invariant_of-self g c =
    let h : Parts = record {
      seating = c.self.inside.seating;
      waiters = c.self.inside.waiters;
      posts = c.self.inside.posts;
      policy = c.self.inside.policy;
    } in
    kept h c.self.invariant h.seating c.settle.new.self c.settle.ensures.awake refl

pub returns : goal.returns
returns g c =
    let h : Parts = record {
      seating = c.self.inside.seating;
      waiters = c.self.inside.waiters;
      posts = c.self.inside.posts;
      policy = c.self.inside.policy;
    } in
    subst (λ (p : Parts). Leaves p c.args.ticket c.settle.result (record h { waiters = c.settle.new.self })) c.self.view_is
    (settled (record h { waiters = waiters.with_queue h.waiters (left h.waiters.queue c.args.ticket) }) c.leave.new.self
    c.settle.new.self c.settle.result c.leave.ensures c.settle.ensures.settles)
