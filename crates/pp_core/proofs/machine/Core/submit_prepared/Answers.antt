use Rattle.pp_core.specs.Parts.{parts_of}
use Rattle.pp_core.proofs.Standing.{headline_holds}
use Rattle.pp_core.proofs.machine.Core.submit_prepared.Goals as goal

pub returns-in_err-number-clause-headline : goal.returns-in_err-number-clause-headline
returns-in_err-number-clause-headline c = headline_holds (parts_of c.submit_prepared.new.self)

pub returns-clause-headline : goal.returns-clause-headline
returns-clause-headline c = headline_holds (parts_of c.submit_prepared.new.self)
