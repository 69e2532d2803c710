use Rattle.pp_core.proofs.Standing.{headline_holds}
use Rattle.pp_core.proofs.machine.Core.known.Goals as goal

pub returns-clause-headline : goal.returns-clause-headline
returns-clause-headline c = headline_holds c.args.self.now
