use Rattle.pp_vault.specs.Parts.{parts_of}
use Rattle.pp_vault.proofs.Kept.{holds}
use Rattle.pp_vault.proofs.Submitted.{kept_preparing}
use Rattle.pp_vault.proofs.vault.Vault.prepare.Goals as goal

pub returns-clause-holds : goal.returns-clause-holds
returns-clause-holds c =
    holds (parts_of c.prepare.new.self)
    (kept_preparing (parts_of c.self.inside.store) (parts_of c.prepare.new.self) c.args.accepted c.prepare.result c.self.invariant
    c.prepare.ensures.ok c.prepare.ensures.unchanged)
