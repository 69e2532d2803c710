use Rattle.pp_core.proofs.AfterMoves.{after_moves}
use Rattle.pp_core.proofs.laws.workers_after_moves.Goals as goal

pub returns : goal.returns
returns c = record { each = after_moves }
