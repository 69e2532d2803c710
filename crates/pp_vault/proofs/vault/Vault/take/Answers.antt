use Rattle.pp_vault.specs.Parts.{parts_of}
use Rattle.pp_vault.specs.Fits.{take_call}
use Rattle.pp_vault.proofs.Kept.{holds, kept_by}
use Rattle.pp_vault.proofs.vault.Vault.take.Goals as goal

pub invariant_of-self : goal.invariant_of-self
invariant_of-self c =
    kept_by (parts_of c.self.inside.store) (parts_of c.take.new.self) (take_call c.args.chair.worker) c.take.result
    c.self.invariant c.take.ensures.ok c.take.ensures.unchanged

pub returns-clause-holds : goal.returns-clause-holds
returns-clause-holds c =
    holds (parts_of c.take.new.self)
    (kept_by (parts_of c.self.inside.store) (parts_of c.take.new.self) (take_call c.args.chair.worker) c.take.result
    c.self.invariant c.take.ensures.ok c.take.ensures.unchanged)
