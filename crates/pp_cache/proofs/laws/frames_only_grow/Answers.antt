-- No frame is given back by any step.
use Rattle.pp_cache.proofs.LawLemmas.{frames-pin, frames-bring_in, frames-room, frames-unpin, frames-rekey}
use Rattle.pp_cache.proofs.LawLemmas.{frames-resize}
use Rattle.pp_cache.proofs.laws.frames_only_grow.Goals as goal

pub returns-clause-pin : goal.returns-clause-pin
returns-clause-pin c = frames-pin

pub returns-clause-bring_in : goal.returns-clause-bring_in
returns-clause-bring_in c = frames-bring_in

pub returns-clause-room : goal.returns-clause-room
returns-clause-room c = frames-room

pub returns-clause-unpin : goal.returns-clause-unpin
returns-clause-unpin c = frames-unpin

pub returns-clause-rekey : goal.returns-clause-rekey
returns-clause-rekey c = frames-rekey

pub returns-clause-resize : goal.returns-clause-resize
returns-clause-resize c = frames-resize
