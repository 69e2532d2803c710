use Rattle.pp_segments.proofs.Passing.{submitted_at}
use Rattle.pp_segments.proofs.auditor.SegmentAuditor.submit.Goals as goal

pub returns-in-Ok : goal.returns-in-Ok
returns-in-Ok c = λ prepared p a at there.
    submitted_at prepared c.args.self.now c.submit_prepared.new.self c.next_line-self.result p c.args.plan c.args.place
    c.in-Ok.field-0 a c.in-Ok.ensures.ok.0 at there c.in-Ok.ensures.ok.1
    (λ q here. c.next_line-self.ensures prepared q here)
