use Rattle.pp_durable.proofs.HonestLemmas.{checked-honest}
use Rattle.pp_durable.proofs.laws.checked_devices_are_honest.Goals as goal

pub returns : goal.returns
returns g c = checked-honest g.D.Device.read_gives g.D.Device.write_leaves
