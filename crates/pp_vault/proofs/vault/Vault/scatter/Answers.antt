use Rattle.pp_vault.specs.Fits.{scatter_call}
use Rattle.pp_vault.specs.Parts.{parts_of}
use Rattle.pp_vault.specs.Uses.{Scatters}
use Rattle.pp_vault.proofs.Kept.{kept_where, holds}
use Rattle.pp_vault.proofs.vault.Vault.scatter.Goals as goal

pub invariant_of-self : goal.invariant_of-self
invariant_of-self c =
    kept_where (parts_of c.self.inside.store) (parts_of c.scatter.new.self)
    (scatter_call c.args.session.worker c.args.guard.worker c.args.guard.slot)
    (λ y. Scatters (parts_of c.self.inside.store) c.args.session c.args.guard (parts_of c.scatter.new.self) y.0)
    c.scatter.result (λ y u. u.does) c.scatter.ensures.ok c.scatter.ensures.unchanged c.self.invariant

pub returns-clause-holds : goal.returns-clause-holds
returns-clause-holds c =
    holds (parts_of c.scatter.new.self)
    (kept_where (parts_of c.self.inside.store) (parts_of c.scatter.new.self)
    (scatter_call c.args.session.worker c.args.guard.worker c.args.guard.slot)
    (λ y. Scatters (parts_of c.self.inside.store) c.args.session c.args.guard (parts_of c.scatter.new.self) y.0)
    c.scatter.result (λ y u. u.does) c.scatter.ensures.ok c.scatter.ensures.unchanged c.self.invariant)
