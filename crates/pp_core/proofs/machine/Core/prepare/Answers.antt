use Rattle.pp_core.specs.Parts.{parts_of}
use Rattle.pp_core.proofs.Standing.{headline_holds}
use Rattle.pp_core.proofs.machine.Core.prepare.Goals as goal

pub returns-in_err-place-clause-headline : goal.returns-in_err-place-clause-headline
returns-in_err-place-clause-headline c = headline_holds (parts_of c.prepare.new.self)

pub returns-clause-headline : goal.returns-clause-headline
returns-clause-headline c = headline_holds (parts_of c.prepare.new.self)
