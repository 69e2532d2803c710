use Rattle.pp_cert.proofs.Laws.{is_found, is_only}
use Rattle.pp_cert.proofs.Notes.{is_writable}
use Rattle.pp_cert.proofs.First.{refused_first, accepted_clear}
use Rattle.pp_cert.proofs.certificate.Certificate.from_text.Goals as goal

pub returns-clause-found : goal.returns-clause-found
returns-clause-found c = is_found c.args.settings.now c.args.plan.now c.args.text.now c.read.result c.read.ensures.gives

pub returns-clause-only : goal.returns-clause-only
returns-clause-only c =
    λ t. is_only c.args.settings.now c.args.plan.now c.args.text.now c.read.result t c.read.ensures.gives

pub returns-clause-writable : goal.returns-clause-writable
returns-clause-writable c =
    is_writable c.args.settings.now c.args.plan.now c.args.text.now c.read.result c.body.ensures.facts
    c.read.ensures.gives

pub returns-clause-first : goal.returns-clause-first
returns-clause-first c =
    refused_first c.args.settings.now c.args.plan.now c.args.text.now c.read.result c.read.ensures.gives

pub returns-clause-faultless : goal.returns-clause-faultless
returns-clause-faultless c =
    accepted_clear c.args.settings.now c.args.plan.now c.args.text.now c.read.result c.read.ensures.gives
