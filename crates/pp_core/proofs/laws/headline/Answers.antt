use Rattle.pp_model.specs.Pool.{opening}
use Rattle.pp_model.specs.Runs.{run}
use Rattle.pp_model.proofs.BoundLaws.{runs_reached}
use Rattle.pp_model.proofs.Journeys.{opening_reached}
use Rattle.pp_core.proofs.Standing.{headline_of}
use Rattle.pp_core.proofs.laws.headline.Goals as goal

pub returns-clause-from_new : goal.returns-clause-from_new
returns-clause-from_new c = λ k inputs set ok.
    headline_of (run (opening k) inputs) (runs_reached (opening k) inputs ok (opening_reached k set))

pub returns-clause-from_any : goal.returns-clause-from_any
returns-clause-from_any c = λ s inputs ok h. headline_of (run s inputs) (runs_reached s inputs ok h)
