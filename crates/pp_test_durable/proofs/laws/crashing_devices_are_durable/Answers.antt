use Rattle.pp_test_durable.proofs.Law.{power-durable}
use Rattle.pp_test_durable.proofs.laws.crashing_devices_are_durable.Goals as goal

pub returns : goal.returns
returns c = power-durable
