use Rattle.pp_contents.proofs.Carried.{tells}
use Rattle.pp_contents.proofs.laws.honest_devices_tell_what_they_keep.Goals as goal

pub returns : goal.returns
returns g c = tells g.D.Device.read_gives g.D.Device.write_leaves
