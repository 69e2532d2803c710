use Rattle.std.proofs.Common.{◌≡◌, ◌∙◌, ap, rules}
use Rattle.pp_hall.proofs.Settling.{asleep_waiters, started_waiters, large}
use Rattle.pp_hall.specs.Waiters.{Parts}
use Rattle.pp_hall.proofs.waiters.Waiters.start.Goals as goal

pub invariant_of-self : goal.invariant_of-self
invariant_of-self c =
    let w : Parts = record {
      queue = c.self.inside.queue;
      sleepers = c.self.inside.sleepers;
      is_flusher_asleep = c.self.inside.is_flusher_asleep;
      is_stopped = c.self.inside.is_stopped;
    } in
    asleep_waiters w c.self.invariant c.args.ticket c.start.new.self (c.start.ensures.refused (search rules))
    (ap (λ (p : Parts). p.is_stopped) c.self.view_is ∙ c.requires)

pub invariant_of-self-2 : goal.invariant_of-self-2
invariant_of-self-2 c =
    let w : Parts = record {
      queue = c.self.inside.queue;
      sleepers = c.self.inside.sleepers;
      is_flusher_asleep = c.self.inside.is_flusher_asleep;
      is_stopped = c.self.inside.is_stopped;
    } in
    started_waiters w c.self.invariant c.args.ticket c.start.new.self (c.start.ensures.started (search rules))
    (ap (λ (p : Parts). p.is_stopped) c.self.view_is ∙ c.requires)

pub returns-clause-large : goal.returns-clause-large
returns-clause-large c =
    large c.self.inside.queue c.room.result c.args.ticket c.in-Some.peak c.is_empty.ensures.sound c.self.invariant.counted
    (search rules) (search rules)
