use Rattle.pp_ledger.proofs.Joined.{taken_join}
use Rattle.pp_ledger.proofs.laws.taken_segments_are_a_journal.Goals as goal

pub returns : goal.returns
returns c = record { joined = taken_join }
