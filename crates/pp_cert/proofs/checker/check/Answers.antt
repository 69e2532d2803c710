use Rattle.std.proofs.Common.{length, sym}
use Rattle.pp_cert.specs.Walk.{claims_of}
use Rattle.pp_cert.proofs.Accepts.{accepted_by}
use Rattle.pp_cert.proofs.Lengths.{longest_is}
use Rattle.pp_cert.proofs.checker.check.Goals as goal

pub new-requires : goal.new-requires
new-requires c =
    accepted_by c.layout.result (claims_of c.args.certificate.now) c.args.plan c.fault_under.ensures.facts
    (sym c.in-None.ensures.is)

pub returns-in-Some-clause-longest : goal.returns-in-Some-clause-longest
returns-in-Some-clause-longest c =
    let is = c.fault_under.ensures.facts in
    longest_is c.args.plan.layout is.layout (length c.args.plan.slots) c.args.plan.body is.body.parts

pub returns-in-None-clause-longest : goal.returns-in-None-clause-longest
returns-in-None-clause-longest c =
    let is = c.fault_under.ensures.facts in
    longest_is c.args.plan.layout is.layout (length c.args.plan.slots) c.args.plan.body is.body.parts
