-- The bounds hold after each step.
use Rattle.pp_arc.proofs.BoundLemmas.{bounds-forget}
use Rattle.pp_arc.proofs.RequestLemmas.{bounds-request, bounds-bring_back}
use Rattle.pp_arc.proofs.laws.bounds_hold.Goals as goal

pub returns-clause-request : goal.returns-clause-request
returns-clause-request c = bounds-request

pub returns-clause-forget : goal.returns-clause-forget
returns-clause-forget c = bounds-forget

pub returns-clause-bring_back : goal.returns-clause-bring_back
returns-clause-bring_back c = bounds-bring_back
