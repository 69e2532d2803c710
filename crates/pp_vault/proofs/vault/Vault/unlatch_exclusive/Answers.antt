use Rattle.pp_vault.specs.Fits.{put_back_call}
use Rattle.pp_vault.specs.Parts.{parts_of}
use Rattle.pp_vault.specs.Tokens.{is_long}
use Rattle.pp_vault.specs.Uses.{UnlatchesExclusive}
use Rattle.pp_vault.proofs.Kept.{kept_where, holds}
use Rattle.pp_vault.proofs.vault.Vault.unlatch_exclusive.Goals as goal

pub invariant_of-self : goal.invariant_of-self
invariant_of-self c =
    kept_where (parts_of c.self.inside.store) (parts_of c.unlatch_exclusive.new.self)
    (put_back_call (is_long (parts_of c.self.inside.store) c.args.guard.image) c.args.session.worker c.args.guard.worker c.args.guard.slot c.args.guard.page)
    (λ y. UnlatchesExclusive (parts_of c.self.inside.store) c.args.session c.args.guard (parts_of c.unlatch_exclusive.new.self) y.0 y.1)
    c.unlatch_exclusive.result (λ y u. u.does) c.unlatch_exclusive.ensures.ok c.unlatch_exclusive.ensures.unchanged c.self.invariant

pub returns-clause-holds : goal.returns-clause-holds
returns-clause-holds c =
    holds (parts_of c.unlatch_exclusive.new.self)
    (kept_where (parts_of c.self.inside.store) (parts_of c.unlatch_exclusive.new.self)
    (put_back_call (is_long (parts_of c.self.inside.store) c.args.guard.image) c.args.session.worker c.args.guard.worker c.args.guard.slot c.args.guard.page)
    (λ y. UnlatchesExclusive (parts_of c.self.inside.store) c.args.session c.args.guard (parts_of c.unlatch_exclusive.new.self) y.0 y.1)
    c.unlatch_exclusive.result (λ y u. u.does) c.unlatch_exclusive.ensures.ok c.unlatch_exclusive.ensures.unchanged c.self.invariant)
