use Rattle.pp_admission.proofs.LawLemmas.{first_starts, some_starts}
use Rattle.pp_admission.proofs.laws.the_first_starts.Goals as goal

pub returns-clause-first : goal.returns-clause-first
returns-clause-first c = first_starts

pub returns-clause-some : goal.returns-clause-some
returns-clause-some c = some_starts
