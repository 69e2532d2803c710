use Rattle.pp_vault.specs.Parts.{parts_of}
use Rattle.pp_vault.specs.Flushes.{next_call}
use Rattle.pp_vault.proofs.Kept.{holds, kept_by}
use Rattle.pp_vault.proofs.vault.Vault.flush_next.Goals as goal

pub invariant_of-self : goal.invariant_of-self
invariant_of-self c =
    kept_by (parts_of c.self.inside.store) (parts_of c.flush_next.new.self) (next_call c.args.number) c.flush_next.result
    c.self.invariant c.flush_next.ensures.ok c.flush_next.ensures.unchanged

pub returns-clause-holds : goal.returns-clause-holds
returns-clause-holds c =
    holds (parts_of c.flush_next.new.self)
    (kept_by (parts_of c.self.inside.store) (parts_of c.flush_next.new.self) (next_call c.args.number) c.flush_next.result
    c.self.invariant c.flush_next.ensures.ok c.flush_next.ensures.unchanged)
