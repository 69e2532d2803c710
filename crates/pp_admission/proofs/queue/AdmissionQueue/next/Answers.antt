use Rattle.std.proofs.Common.{subst}
use Rattle.pp_admission.specs.Queues.{IsSound}
use Rattle.pp_admission.specs.Kept.{parts_of}
use Rattle.pp_admission.proofs.Calls.{next_by}
use Rattle.pp_admission.proofs.LawLemmas.{fits_of}
use Rattle.pp_admission.proofs.queue.AdmissionQueue.next.Goals as goal

pub returns-clause-fits : goal.returns-clause-fits
returns-clause-fits c = fits_of c.args.self.now c.args.room c.new.result
    (subst IsSound c.self.view_is c.self.invariant.sound)
    (next_by (parts_of c.self.inside) c.args.self.now c.args.room c.in_ok-ticket.ticket c.new.result c.deref.result.now
    c.next_of.result c.self.view_is c.deref.ensures.value c.next_of.ensures c.in_ok-ticket.was c.new.ensures)
