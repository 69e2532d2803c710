use Rattle.pp_model.proofs.Quiet.{rest_has_no_turn, rest_holds_nothing, rest_keeps_dirty}
use Rattle.pp_model.proofs.laws.rest_is_quiet.Goals as goal

pub returns-clause-ends : goal.returns-clause-ends
returns-clause-ends c = rest_has_no_turn

pub returns-clause-nothing : goal.returns-clause-nothing
returns-clause-nothing c = rest_holds_nothing

pub returns-clause-dirty : goal.returns-clause-dirty
returns-clause-dirty c = rest_keeps_dirty
