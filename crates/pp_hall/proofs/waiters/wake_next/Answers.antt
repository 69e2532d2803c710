use Rattle.std.proofs.Common.{◌≡◌, ℕ, true, Some, subst}
use Rattle.std.specs.Prelude.{◌↔◌}
use Rattle.pp_admission.specs.Queues.{next_in, is_asleep_at}
use Rattle.pp_hall.proofs.waiters.wake_next.Goals as goal

pub returns-clause-told : goal.returns-clause-told
returns-clause-told c =
    subst (λ (r : ℕ). (t : ℕ) → (c.wake_next.result ≡ Some t)
    ↔ ((next_in c.args.queue.now r ≡ Some t) × (is_asleep_at c.args.queue.now t ≡ true))) c.room.ensures
    c.wake_next.ensures.told
