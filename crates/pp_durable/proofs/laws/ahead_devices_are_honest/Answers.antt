use Rattle.pp_durable.proofs.HonestLemmas.{ahead-honest}
use Rattle.pp_durable.proofs.laws.ahead_devices_are_honest.Goals as goal

pub returns : goal.returns
returns g c =
    ahead-honest g.L.Log.number_in g.L.Log.durable g.L.Log.force_leaves g.D.Device.read_gives g.D.Device.write_leaves
