use Rattle.std.proofs.Common.{false, subst, sym, ap, ◌∙◌}
use Rattle.pp_admission.specs.Queues.{Parts, next_in, waiting_at, NextIsAwake}
use Rattle.pp_admission.proofs.Calls.{marked_next, marked_rest, woken_awake}
use Rattle.pp_admission.proofs.queue.AdmissionQueue.wake_next.Goals as goal

pub returns-clause-next : goal.returns-clause-next
returns-clause-next c = λ r.
    ap (λ q. next_in q r) c.set_asleep.ensures.exact ∙ marked_next c.args.self.now c.in_ok-ticket.ticket false r

pub returns-clause-others : goal.returns-clause-others
returns-clause-others c = λ t d.
    ap (λ q. waiting_at q t) c.set_asleep.ensures.exact ∙ marked_rest c.args.self.now c.in_ok-ticket.ticket false t d

pub returns-clause-awake : goal.returns-clause-awake
returns-clause-awake c = subst (λ (q : Parts). NextIsAwake q c.args.room) (sym c.set_asleep.ensures.exact)
    (woken_awake c.args.self.now c.in_ok-ticket.ticket c.args.room (sym c.next.ensures.next ∙ c.in_ok-ticket.was))
