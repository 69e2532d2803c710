use Rattle.pp_vault.specs.Fits.{unfix_call}
use Rattle.pp_vault.specs.Parts.{parts_of}
use Rattle.pp_vault.specs.Uses.{Unfixes}
use Rattle.pp_vault.proofs.Kept.{kept_where, holds}
use Rattle.pp_vault.proofs.vault.Vault.unfix.Goals as goal

pub invariant_of-self : goal.invariant_of-self
invariant_of-self c =
    kept_where (parts_of c.self.inside.store) (parts_of c.unfix.new.self)
    (unfix_call c.args.session.worker c.args.guard.worker c.args.guard.slot c.args.guard.page)
    (λ y. Unfixes (parts_of c.self.inside.store) c.args.session c.args.guard (parts_of c.unfix.new.self) y.0)
    c.unfix.result (λ y u. u.does) c.unfix.ensures.ok c.unfix.ensures.unchanged c.self.invariant

pub returns-clause-holds : goal.returns-clause-holds
returns-clause-holds c =
    holds (parts_of c.unfix.new.self)
    (kept_where (parts_of c.self.inside.store) (parts_of c.unfix.new.self)
    (unfix_call c.args.session.worker c.args.guard.worker c.args.guard.slot c.args.guard.page)
    (λ y. Unfixes (parts_of c.self.inside.store) c.args.session c.args.guard (parts_of c.unfix.new.self) y.0)
    c.unfix.result (λ y u. u.does) c.unfix.ensures.ok c.unfix.ensures.unchanged c.self.invariant)
