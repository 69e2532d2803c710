use Rattle.pp_admission.proofs.LawLemmas.{first_come, least}
use Rattle.pp_admission.proofs.laws.first_come_first_served.Goals as goal

pub returns-clause-first : goal.returns-clause-first
returns-clause-first c = first_come

pub returns-clause-least : goal.returns-clause-least
returns-clause-least c = least
