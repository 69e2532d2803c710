use Rattle.pp_model.proofs.Segments.{segments_join}
use Rattle.pp_model.proofs.laws.segments_are_a_journal.Goals as goal

pub returns : goal.returns
returns c = record { joined = segments_join }
