use Rattle.pp_hall.proofs.Settling.{stopped_waiters}
use Rattle.pp_hall.specs.Waiters.{Parts}
use Rattle.pp_hall.proofs.waiters.Waiters.stop.Goals as goal

pub invariant_of-self : goal.invariant_of-self
invariant_of-self c =
    let w : Parts = record {
      queue = c.self.inside.queue;
      sleepers = c.self.inside.sleepers;
      is_flusher_asleep = c.self.inside.is_flusher_asleep;
      is_stopped = c.self.inside.is_stopped;
    } in
    stopped_waiters w c.self.invariant c.wake_all.new.self c.wake_all.ensures.woken c.wake_all.ensures.awake
