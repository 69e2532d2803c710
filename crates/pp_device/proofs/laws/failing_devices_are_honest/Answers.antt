use Rattle.pp_device.proofs.Planting.{failing-honest}
use Rattle.pp_device.proofs.laws.failing_devices_are_honest.Goals as goal

pub returns : goal.returns
returns g c = failing-honest g.D.Device.read_gives g.D.Device.write_leaves
