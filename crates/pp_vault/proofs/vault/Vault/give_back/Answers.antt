use Rattle.pp_vault.specs.Parts.{parts_of}
use Rattle.pp_vault.specs.Leaves.{GivesBack, give_back_call}
use Rattle.pp_vault.proofs.Kept.{kept_where, holds}
use Rattle.pp_vault.proofs.LeavesDone.{gives_done}
use Rattle.pp_vault.proofs.vault.Vault.give_back.Goals as goal

pub invariant_of-self : goal.invariant_of-self
invariant_of-self c =
    kept_where (parts_of c.self.inside.store) (parts_of c.give_back.new.self)
    (give_back_call (parts_of c.self.inside.store) c.args.leaver c.args.guard)
    (λ y. GivesBack (parts_of c.self.inside.store) c.args.leaver c.args.guard (parts_of c.give_back.new.self) y.0)
    c.give_back.result
    (λ y u. gives_done (parts_of c.self.inside.store) (parts_of c.give_back.new.self) c.args.leaver y.0 c.args.guard u)
    c.give_back.ensures.ok c.give_back.ensures.unchanged c.self.invariant

pub returns-clause-holds : goal.returns-clause-holds
returns-clause-holds c =
    holds (parts_of c.give_back.new.self)
    (kept_where (parts_of c.self.inside.store) (parts_of c.give_back.new.self)
    (give_back_call (parts_of c.self.inside.store) c.args.leaver c.args.guard)
    (λ y. GivesBack (parts_of c.self.inside.store) c.args.leaver c.args.guard (parts_of c.give_back.new.self) y.0)
    c.give_back.result
    (λ y u. gives_done (parts_of c.self.inside.store) (parts_of c.give_back.new.self) c.args.leaver y.0 c.args.guard u)
    c.give_back.ensures.ok c.give_back.ensures.unchanged c.self.invariant)
