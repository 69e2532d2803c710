use Rattle.pp_model.proofs.PinRoom.{pin_is_left}
use Rattle.pp_model.proofs.FrameLaws.{cached_are_framed, map_is_sound, frame_is_left}
use Rattle.pp_model.proofs.laws.frames_are_apart.Goals as goal

pub returns-clause-framed : goal.returns-clause-framed
returns-clause-framed c = cached_are_framed

pub returns-clause-sound : goal.returns-clause-sound
returns-clause-sound c = map_is_sound

pub returns-clause-frame : goal.returns-clause-frame
returns-clause-frame c = frame_is_left

pub returns-clause-pin : goal.returns-clause-pin
returns-clause-pin c = pin_is_left
