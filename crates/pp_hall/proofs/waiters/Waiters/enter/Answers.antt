use Rattle.std.proofs.Common.{◌≡◌, ◌∙◌, ap, sym, subst}
use Rattle.pp_admission.specs.Queues.{NextIsAwake}
use Rattle.pp_hall.proofs.Settling.{entered_waiters}
use Rattle.pp_hall.specs.Waiters.{Parts}
use Rattle.pp_hall.proofs.waiters.Waiters.enter.Goals as goal

pub invariant_of-self : goal.invariant_of-self
invariant_of-self c =
    let w : Parts = record {
      queue = c.self.inside.queue;
      sleepers = c.self.inside.sleepers;
      is_flusher_asleep = c.self.inside.is_flusher_asleep;
      is_stopped = c.self.inside.is_stopped;
    } in
    entered_waiters w c.self.invariant c.args.peak c.max.result c.enter.result c.enter.new.self c.max.ensures c.enter.ensures.entered
    c.enter.ensures.unchanged (ap (λ (p : Parts). p.is_stopped) c.self.view_is ∙ c.requires)

pub returns-clause-awake : goal.returns-clause-awake
returns-clause-awake c = λ room awake.
    c.enter.ensures.awake room (subst (λ (p : Parts). NextIsAwake p.queue room) (sym c.self.view_is) awake)
