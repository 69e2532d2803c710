use Rattle.pp_vault.specs.Parts.{parts_of}
use Rattle.pp_vault.specs.Fits.{choose_call}
use Rattle.pp_vault.proofs.Kept.{holds, kept_by}
use Rattle.pp_vault.proofs.vault.Vault.choose.Goals as goal

pub invariant_of-self : goal.invariant_of-self
invariant_of-self c =
    kept_by (parts_of c.self.inside.store) (parts_of c.choose.new.self) (choose_call c.args.session.worker c.args.branch) c.choose.result
    c.self.invariant c.choose.ensures.ok c.choose.ensures.unchanged

pub returns-clause-holds : goal.returns-clause-holds
returns-clause-holds c =
    holds (parts_of c.choose.new.self)
    (kept_by (parts_of c.self.inside.store) (parts_of c.choose.new.self) (choose_call c.args.session.worker c.args.branch) c.choose.result
    c.self.invariant c.choose.ensures.ok c.choose.ensures.unchanged)
