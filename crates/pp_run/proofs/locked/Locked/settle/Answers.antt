use Rattle.std.proofs.Common.{subst}
use Rattle.pp_vault.specs.Parts as vault
use Rattle.pp_wants.specs.WakeUps.{NoWakeUpIsLost}
use Rattle.pp_run.proofs.locked.Locked.settle.Goals as goal

pub returns-clause-awake : goal.returns-clause-awake
returns-clause-awake g c =
    subst (λ (v : vault.Parts). NoWakeUpIsLost v c.settle-workers.new.self) c.vault.ensures
    c.settle-workers.ensures.settled
