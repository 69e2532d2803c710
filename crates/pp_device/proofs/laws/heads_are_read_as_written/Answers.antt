use Rattle.pp_device.proofs.Heads.{with_head-head_of}
use Rattle.pp_device.proofs.laws.heads_are_read_as_written.Goals as goal

pub returns-clause-again : goal.returns-clause-again
returns-clause-again c image long bytes = with_head-head_of image long bytes
