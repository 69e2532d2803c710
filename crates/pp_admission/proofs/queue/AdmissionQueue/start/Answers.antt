use Rattle.std.proofs.Common.{◌≡◌, true, subst, sym, ap, ◌∙◌, rules}
use Rattle.pp_admission.specs.Queues.{Parts, next_in, waiting_at, is_asleep_at, overtaken, NextIsAwake}
use Rattle.pp_admission.specs.Places.{AreOvertakenBelow}
use Rattle.pp_admission.proofs.Calls.{marked_next, marked_rest, slept_same, slept_awake, may_overtake, started_gone}
use Rattle.pp_admission.proofs.LawLemmas.{fits_of}
use Rattle.pp_admission.proofs.queue.AdmissionQueue.start.Goals as goal

pub returns-then-not-may_start-clause-next : goal.returns-then-not-may_start-clause-next
returns-then-not-may_start-clause-next c = λ _ r.
    ap (λ q. next_in q r) c.set_asleep.ensures.exact ∙ marked_next c.args.self.now c.args.ticket true r

pub returns-then-not-may_start-clause-awake : goal.returns-then-not-may_start-clause-awake
returns-then-not-may_start-clause-awake c = λ _ h.
    subst (λ (q : Parts). NextIsAwake q c.args.room) (sym c.set_asleep.ensures.exact)
    (slept_awake c.args.self.now c.args.ticket c.args.room
    (λ e. let may : c.may_start.result ≡ true = c.may_start.ensures.may.1 e in absurd cc) h)

pub returns-then-not-may_start-clause-asleep : goal.returns-then-not-may_start-clause-asleep
returns-then-not-may_start-clause-asleep c = λ _.
    ap (λ q. is_asleep_at q c.args.ticket) c.set_asleep.ensures.exact ∙ slept_same c.args.self.now c.args.ticket

pub returns-then-not-may_start-clause-others : goal.returns-then-not-may_start-clause-others
returns-then-not-may_start-clause-others c = λ _ t d.
    ap (λ q. waiting_at q t) c.set_asleep.ensures.exact ∙ marked_rest c.args.self.now c.args.ticket true t d

pub returns-clause-fits : goal.returns-clause-fits
returns-clause-fits c = λ _.
    let may : c.may_start.result ≡ true = search rules in
    fits_of c.args.self.now c.args.room c.args.ticket c.may_start.ensures.sound (c.may_start.ensures.may.0 may)

pub overtake-requires : goal.overtake-requires
overtake-requires c =
    let may : c.may_start.result ≡ true = search rules in
    subst (λ (q : Parts). AreOvertakenBelow q.bypass c.args.ticket q.waiting) (sym c.take_out.ensures.left)
    (may_overtake c.args.self.now c.args.room c.args.ticket c.may_start.ensures.sound (c.may_start.ensures.may.0 may))

pub returns-clause-gone : goal.returns-clause-gone
returns-clause-gone c = λ _.
    ap (λ q. waiting_at q c.args.ticket)
    (c.overtake.ensures.exact ∙ ap (λ q. overtaken q c.args.ticket) c.take_out.ensures.left)
    ∙ started_gone c.args.self.now c.args.ticket
