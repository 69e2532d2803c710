use Rattle.pp_vault.specs.Parts.{parts_of}
use Rattle.pp_vault.proofs.Kept.{holds}
use Rattle.pp_vault.proofs.Submitted.{kept_prepared}
use Rattle.pp_vault.proofs.vault.Vault.submit_prepared.Goals as goal

pub returns-clause-holds : goal.returns-clause-holds
returns-clause-holds c =
    holds (parts_of c.submit_prepared.new.self)
    (kept_prepared (parts_of c.self.inside.store) (parts_of c.submit_prepared.new.self) c.args.prepared c.submit_prepared.result
    c.self.invariant c.submit_prepared.ensures.ok c.submit_prepared.ensures.unchanged)
