use Rattle.pp_cert.specs.declared.note.Held.TheVariants.{S}
use Rattle.pp_vault.specs.Fits.{unlatch_call}
use Rattle.pp_vault.specs.Parts.{parts_of}
use Rattle.pp_vault.specs.Uses.{UnlatchesShared}
use Rattle.pp_vault.proofs.Kept.{kept_where, holds}
use Rattle.pp_vault.proofs.vault.Vault.unlatch_shared.Goals as goal

pub invariant_of-self : goal.invariant_of-self
invariant_of-self c =
    kept_where (parts_of c.self.inside.store) (parts_of c.unlatch_shared.new.self)
    (unlatch_call S c.args.session.worker c.args.guard.worker c.args.guard.slot c.args.guard.page)
    (λ y. UnlatchesShared (parts_of c.self.inside.store) c.args.session c.args.guard (parts_of c.unlatch_shared.new.self) y.0 y.1)
    c.unlatch_shared.result (λ y u. u.does) c.unlatch_shared.ensures.ok c.unlatch_shared.ensures.unchanged c.self.invariant

pub returns-clause-holds : goal.returns-clause-holds
returns-clause-holds c =
    holds (parts_of c.unlatch_shared.new.self)
    (kept_where (parts_of c.self.inside.store) (parts_of c.unlatch_shared.new.self)
    (unlatch_call S c.args.session.worker c.args.guard.worker c.args.guard.slot c.args.guard.page)
    (λ y. UnlatchesShared (parts_of c.self.inside.store) c.args.session c.args.guard (parts_of c.unlatch_shared.new.self) y.0 y.1)
    c.unlatch_shared.result (λ y u. u.does) c.unlatch_shared.ensures.ok c.unlatch_shared.ensures.unchanged c.self.invariant)
