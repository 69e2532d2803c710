use Rattle.pp_wants.proofs.Lawful.{nobody, by_states, sleeping, rising, refused_waits}
use Rattle.pp_wants.proofs.laws.wake_ups_stay.Goals as goal

pub returns : goal.returns
returns c =
    record { nobody = nobody; states = by_states; sleeping = sleeping; rising = rising; refused = refused_waits }
