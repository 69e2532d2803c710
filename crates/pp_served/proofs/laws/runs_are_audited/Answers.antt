use Rattle.std.proofs.Common.{[], ◌∷◌, ◌++◌, refl}
use Rattle.pp_served.specs.Served.{segments_in}
use Rattle.pp_served.proofs.Served.{all_accepted, earlier_accepted}
use Rattle.pp_served.proofs.laws.runs_are_audited.Goals as goal

pub returns-clause-all : goal.returns-clause-all
returns-clause-all c = λ k l now before ended fresh run numbers rests.
    all_accepted k l now before fresh run ended (segments_in (before ++ now ∷ [])) numbers refl rests

pub returns-clause-taken_out : goal.returns-clause-taken_out
returns-clause-taken_out c = λ k l now before fresh run numbers.
    earlier_accepted k l now before fresh run (segments_in before) numbers refl
