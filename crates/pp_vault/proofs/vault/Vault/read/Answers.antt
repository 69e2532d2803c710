use Rattle.pp_vault.specs.Parts.{parts_of}
use Rattle.pp_vault.proofs.Kept.{holds}
use Rattle.pp_vault.proofs.Readings.{read_kept}
use Rattle.pp_vault.proofs.vault.Vault.read.Goals as goal

pub invariant_of-self : goal.invariant_of-self
invariant_of-self c =
    read_kept (parts_of c.self.inside.store) (parts_of c.fix_and_share.new.self) c.args.session c.args.page c.fix_and_share.result
    c.self.invariant c.fix_and_share.ensures.ok c.fix_and_share.ensures.unchanged

pub returns-clause-holds : goal.returns-clause-holds
returns-clause-holds c =
    holds (parts_of c.fix_and_share.new.self)
    (read_kept (parts_of c.self.inside.store) (parts_of c.fix_and_share.new.self) c.args.session c.args.page c.fix_and_share.result
    c.self.invariant c.fix_and_share.ensures.ok c.fix_and_share.ensures.unchanged)
