use Rattle.pp_vault.specs.Parts.{parts_of}
use Rattle.pp_vault.specs.Fits.{finish_call}
use Rattle.pp_vault.proofs.Kept.{holds, kept_by}
use Rattle.pp_vault.proofs.vault.Vault.finish.Goals as goal

pub invariant_of-self : goal.invariant_of-self
invariant_of-self c =
    kept_by (parts_of c.self.inside.store) (parts_of c.finish.new.self) (finish_call c.args.session.worker) c.finish.result
    c.self.invariant c.finish.ensures.ok c.finish.ensures.unchanged

pub returns-clause-holds : goal.returns-clause-holds
returns-clause-holds c =
    holds (parts_of c.finish.new.self)
    (kept_by (parts_of c.self.inside.store) (parts_of c.finish.new.self) (finish_call c.args.session.worker) c.finish.result
    c.self.invariant c.finish.ensures.ok c.finish.ensures.unchanged)
