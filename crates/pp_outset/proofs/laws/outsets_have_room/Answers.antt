use Rattle.pp_outset.proofs.Beginning.{has_room}
use Rattle.pp_outset.proofs.laws.outsets_have_room.Goals as goal

pub returns : goal.returns
returns c = record { room = has_room }
