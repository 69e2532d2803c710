use Rattle.pp_admission.proofs.LawLemmas.{who_is_next}
use Rattle.pp_admission.proofs.laws.who_is_next.Goals as goal

pub returns : goal.returns
returns c = who_is_next
