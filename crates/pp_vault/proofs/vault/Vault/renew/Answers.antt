use Rattle.pp_vault.specs.Parts.{parts_of}
use Rattle.pp_vault.proofs.Kept.{holds}
use Rattle.pp_vault.proofs.Renewed.{kept_by}
use Rattle.pp_vault.proofs.vault.Vault.renew.Goals as goal

pub invariant_of-self : goal.invariant_of-self
invariant_of-self c =
    kept_by (parts_of c.self.inside.store) (parts_of c.renew.new.self) c.renew.result c.self.invariant c.renew.ensures.ok
    c.renew.ensures.unchanged

pub returns-clause-holds : goal.returns-clause-holds
returns-clause-holds c =
    holds (parts_of c.renew.new.self)
    (kept_by (parts_of c.self.inside.store) (parts_of c.renew.new.self) c.renew.result c.self.invariant c.renew.ensures.ok
    c.renew.ensures.unchanged)
