use Rattle.std.proofs.Common.{[], refl}
use Rattle.pp_ledger.specs.Taken.{plans_at_end}
use Rattle.pp_ledger.proofs.Added.{adds_none}
use Rattle.pp_served.specs.Served.{ledgers_of, segments_in}
use Rattle.pp_served.proofs.Audited.{taken_accepted}
use Rattle.pp_served.proofs.laws.taken_segments_are_audited.Goals as goal

pub returns : goal.returns
returns c = λ k xs ended are numbers begins ends.
    taken_accepted k xs are (plans_at_end [] xs) (adds_none (plans_at_end [] xs) (plans_at_end [] xs) refl) ended
    (segments_in (ledgers_of xs)) numbers refl begins ends
