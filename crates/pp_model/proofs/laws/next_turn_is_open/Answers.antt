use Rattle.pp_model.proofs.Turns.{next_while_under_way, next_is_open}
use Rattle.pp_model.proofs.laws.next_turn_is_open.Goals as goal

pub returns-clause-some : goal.returns-clause-some
returns-clause-some c = next_while_under_way

pub returns-clause-possible : goal.returns-clause-possible
returns-clause-possible c = next_is_open
