use Rattle.pp_core.specs.Parts.{parts_of}
use Rattle.pp_core.proofs.Standing.{headline_holds}
use Rattle.pp_core.proofs.machine.Core.renew.Goals as goal

pub returns-clause-headline : goal.returns-clause-headline
returns-clause-headline c = headline_holds (parts_of c.renew.new.self)
