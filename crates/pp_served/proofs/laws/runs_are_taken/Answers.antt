use Rattle.pp_served.proofs.Served.{run_taken}
use Rattle.pp_served.proofs.laws.runs_are_taken.Goals as goal

pub returns : goal.returns
returns c = λ k l now before fresh run. run_taken k l now before fresh run
