use Rattle.pp_vault.specs.Parts.{parts_of}
use Rattle.pp_vault.proofs.Kept.{holds}
use Rattle.pp_vault.proofs.Readings.{end_kept}
use Rattle.pp_vault.proofs.vault.Vault.end_read.Goals as goal

pub invariant_of-self : goal.invariant_of-self
invariant_of-self c =
    end_kept (parts_of c.self.inside.store) (parts_of c.unshare_and_unfix.new.self) c.args.session c.args.guard c.unshare_and_unfix.result
    c.self.invariant c.unshare_and_unfix.ensures.ok c.unshare_and_unfix.ensures.unchanged

pub returns-clause-holds : goal.returns-clause-holds
returns-clause-holds c =
    holds (parts_of c.unshare_and_unfix.new.self)
    (end_kept (parts_of c.self.inside.store) (parts_of c.unshare_and_unfix.new.self) c.args.session c.args.guard c.unshare_and_unfix.result
    c.self.invariant c.unshare_and_unfix.ensures.ok c.unshare_and_unfix.ensures.unchanged)
