use Rattle.pp_hall.proofs.Settling.{left_waiters}
use Rattle.pp_hall.specs.Waiters.{Parts}
use Rattle.pp_hall.proofs.waiters.Waiters.leave.Goals as goal

pub invariant_of-self : goal.invariant_of-self
invariant_of-self c =
    let w : Parts = record {
      queue = c.self.inside.queue;
      sleepers = c.self.inside.sleepers;
      is_flusher_asleep = c.self.inside.is_flusher_asleep;
      is_stopped = c.self.inside.is_stopped;
    } in
    left_waiters w c.self.invariant c.args.ticket c.leave.new.self c.leave.ensures.left c.leave.ensures.gone
    c.leave.ensures.others
