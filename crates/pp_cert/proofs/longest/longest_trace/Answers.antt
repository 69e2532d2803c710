use Rattle.std.proofs.Common.{length}
use Rattle.pp_cert.proofs.Lengths.{longest_is}
use Rattle.pp_cert.proofs.longest.longest_trace.Goals as goal

pub returns-clause-longest : goal.returns-clause-longest
returns-clause-longest c =
    let p = c.args.plan.now in
    let is = c.body.ensures.facts in
    longest_is p.layout is.layout (length p.slots) p.body is.body.parts
