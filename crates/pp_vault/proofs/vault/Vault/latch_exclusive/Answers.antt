use Rattle.pp_plan.specs.declared.mode.Mode.TheVariants as mode
use Rattle.pp_vault.specs.Fits.{latch_call}
use Rattle.pp_vault.specs.Parts.{parts_of}
use Rattle.pp_vault.specs.Uses.{LatchesExclusive}
use Rattle.pp_vault.proofs.Kept.{kept_where, holds}
use Rattle.pp_vault.proofs.vault.Vault.latch_exclusive.Goals as goal

pub invariant_of-self : goal.invariant_of-self
invariant_of-self c =
    kept_where (parts_of c.self.inside.store) (parts_of c.latch_exclusive.new.self)
    (latch_call mode.X c.args.session.worker c.args.guard.worker c.args.guard.slot c.args.guard.page)
    (λ y. LatchesExclusive (parts_of c.self.inside.store) c.args.session c.args.guard (parts_of c.latch_exclusive.new.self) y.0 y.1)
    c.latch_exclusive.result (λ y u. u.does) c.latch_exclusive.ensures.ok c.latch_exclusive.ensures.unchanged c.self.invariant

pub returns-clause-holds : goal.returns-clause-holds
returns-clause-holds c =
    holds (parts_of c.latch_exclusive.new.self)
    (kept_where (parts_of c.self.inside.store) (parts_of c.latch_exclusive.new.self)
    (latch_call mode.X c.args.session.worker c.args.guard.worker c.args.guard.slot c.args.guard.page)
    (λ y. LatchesExclusive (parts_of c.self.inside.store) c.args.session c.args.guard (parts_of c.latch_exclusive.new.self) y.0 y.1)
    c.latch_exclusive.result (λ y u. u.does) c.latch_exclusive.ensures.ok c.latch_exclusive.ensures.unchanged c.self.invariant)
