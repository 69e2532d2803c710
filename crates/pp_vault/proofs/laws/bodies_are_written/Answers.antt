use Rattle.pp_vault.proofs.Bodies.{keeps_head, keeps_length, is_written}
use Rattle.pp_vault.proofs.laws.bodies_are_written.Goals as goal

pub returns-clause-head : goal.returns-clause-head
returns-clause-head c = keeps_head

pub returns-clause-length : goal.returns-clause-length
returns-clause-length c = keeps_length

pub returns-clause-body : goal.returns-clause-body
returns-clause-body c = is_written
