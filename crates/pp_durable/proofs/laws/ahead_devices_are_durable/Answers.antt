use Rattle.pp_durable.proofs.CrashLemmas.{ahead-durable}
use Rattle.pp_durable.proofs.laws.ahead_devices_are_durable.Goals as goal

pub returns : goal.returns
returns g c =
    ahead-durable g.L.Log.number_in g.L.Log.durable g.L.Log.force_leaves g.D.Device.read_gives g.D.Device.write_leaves
    g.D.Durable.sync_leaves g.D.Durable.may_leave
