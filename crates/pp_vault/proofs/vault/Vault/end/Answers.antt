use Rattle.pp_vault.specs.Parts.{parts_of}
use Rattle.pp_vault.specs.Fits.{end_call}
use Rattle.pp_vault.proofs.Kept.{holds, kept_by}
use Rattle.pp_vault.proofs.vault.Vault.end.Goals as goal

pub invariant_of-self : goal.invariant_of-self
invariant_of-self c =
    kept_by (parts_of c.self.inside.store) (parts_of c.end.new.self) (end_call c.args.leaver.worker) c.end.result
    c.self.invariant c.end.ensures.ok c.end.ensures.unchanged

pub returns-clause-holds : goal.returns-clause-holds
returns-clause-holds c =
    holds (parts_of c.end.new.self)
    (kept_by (parts_of c.self.inside.store) (parts_of c.end.new.self) (end_call c.args.leaver.worker) c.end.result
    c.self.invariant c.end.ensures.ok c.end.ensures.unchanged)
