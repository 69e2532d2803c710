use Rattle.pp_model.proofs.Accounts.{plans_are_accounted}
use Rattle.pp_model.proofs.laws.plans_are_accounted.Goals as goal

pub returns : goal.returns
returns c = record { each = plans_are_accounted }
