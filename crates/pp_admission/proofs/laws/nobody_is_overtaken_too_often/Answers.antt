use Rattle.pp_admission.proofs.LawLemmas.{nobody_too_often}
use Rattle.pp_admission.proofs.laws.nobody_is_overtaken_too_often.Goals as goal

pub returns : goal.returns
returns c = nobody_too_often
