use Rattle.pp_judge.proofs.exit.ExitDisplay.fmt.Goals as goal

pub returns-in-InUse-clause-writes : goal.returns-in-InUse-clause-writes
returns-in-InUse-clause-writes g c = rw c.in-InUse.is c.writeln-in-InUse.ensures.writes
