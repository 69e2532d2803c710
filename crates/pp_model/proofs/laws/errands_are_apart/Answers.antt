use Rattle.pp_model.proofs.FlushAlone.{one_errand}
use Rattle.pp_model.proofs.laws.errands_are_apart.Goals as goal

pub returns : goal.returns
returns c = record { one = one_errand }
