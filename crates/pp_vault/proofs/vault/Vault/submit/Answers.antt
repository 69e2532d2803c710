use Rattle.pp_vault.specs.Parts.{parts_of}
use Rattle.pp_vault.proofs.Kept.{holds}
use Rattle.pp_vault.proofs.Submitted.{kept_by}
use Rattle.pp_vault.proofs.vault.Vault.submit.Goals as goal

pub invariant_of-self : goal.invariant_of-self
invariant_of-self c =
    kept_by (parts_of c.self.inside.store) (parts_of c.submit.new.self) c.args.accepted c.submit.result c.self.invariant
    c.submit.ensures.ok c.submit.ensures.unchanged

pub returns-clause-holds : goal.returns-clause-holds
returns-clause-holds c =
    holds (parts_of c.submit.new.self)
    (kept_by (parts_of c.self.inside.store) (parts_of c.submit.new.self) c.args.accepted c.submit.result c.self.invariant
    c.submit.ensures.ok c.submit.ensures.unchanged)
