use Rattle.std.proofs.Common.{sym, ap, ◌∙◌}
use Rattle.pp_admission.specs.Queues.{waiting_at}
use Rattle.pp_admission.proofs.Calls.{left_gone, left_others, left_unchanged}
use Rattle.pp_admission.proofs.queue.AdmissionQueue.leave.Goals as goal

pub returns-clause-gone : goal.returns-clause-gone
returns-clause-gone c =
    ap (λ q. waiting_at q c.args.ticket) c.take_out.ensures.left ∙ left_gone c.args.self.now c.args.ticket

pub returns-clause-others : goal.returns-clause-others
returns-clause-others c = λ t d.
    ap (λ q. waiting_at q t) c.take_out.ensures.left ∙ left_others c.args.self.now c.args.ticket t d

pub returns-clause-unchanged : goal.returns-clause-unchanged
returns-clause-unchanged c = λ e.
    c.take_out.ensures.left ∙ left_unchanged c.args.self.now c.args.ticket (sym c.take_out.ensures.waits ∙ e)
