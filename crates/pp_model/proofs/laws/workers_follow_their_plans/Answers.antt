use Rattle.pp_model.proofs.HoldingSteps.{slots_are_of_a_kind}
use Rattle.pp_model.proofs.Settled.{done_begins_a_trace}
use Rattle.pp_model.proofs.laws.workers_follow_their_plans.Goals as goal

pub returns-clause-begun : goal.returns-clause-begun
returns-clause-begun c = done_begins_a_trace

pub returns-clause-slots : goal.returns-clause-slots
returns-clause-slots c = slots_are_of_a_kind
