use Rattle.pp_durable.proofs.CrashLemmas.{checked-durable}
use Rattle.pp_durable.proofs.laws.checked_devices_are_durable.Goals as goal

pub returns : goal.returns
returns g c = checked-durable g.D.Device.read_gives g.D.Device.write_leaves g.D.Durable.sync_leaves g.D.Durable.may_leave
