use Rattle.pp_run.proofs.Lived.{new_has_not, goes_on}
use Rattle.pp_run.proofs.laws.runs_are_lives.Goals as goal

pub returns-clause-new : goal.returns-clause-new
returns-clause-new c = new_has_not

pub returns-clause-next : goal.returns-clause-next
returns-clause-next c = goes_on
