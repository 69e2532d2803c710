use Rattle.pp_vault.specs.Parts.{parts_of}
use Rattle.pp_vault.specs.Flushes.{flush_call}
use Rattle.pp_vault.proofs.Kept.{holds, kept_by}
use Rattle.pp_vault.proofs.vault.Vault.flush.Goals as goal

pub invariant_of-self : goal.invariant_of-self
invariant_of-self c =
    kept_by (parts_of c.self.inside.store) (parts_of c.flush.new.self) (flush_call c.args.page) c.flush.result
    c.self.invariant c.flush.ensures.ok c.flush.ensures.unchanged

pub returns-clause-holds : goal.returns-clause-holds
returns-clause-holds c =
    holds (parts_of c.flush.new.self)
    (kept_by (parts_of c.self.inside.store) (parts_of c.flush.new.self) (flush_call c.args.page) c.flush.result
    c.self.invariant c.flush.ensures.ok c.flush.ensures.unchanged)
