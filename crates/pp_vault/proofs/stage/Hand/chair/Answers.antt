use Rattle.std.proofs.Common.{◌≡◌, ◌∙◌, sym, true, refl}
use Rattle.pp_vault.specs.Holding.{all_free, no_guards}
use Rattle.pp_vault.proofs.Placed.{free_none}
use Rattle.pp_vault.proofs.stage.Hand.chair.Goals as goal

pub returns-in-Idle-clause-ok : goal.returns-in-Idle-clause-ok
returns-in-Idle-clause-ok c =
    let free : all_free c.args.self.guards ≡ true = sym c.is_empty.ensures.free ∙ c.if-not-is_empty.false in
    let none : c.args.self.guards ≡ no_guards = free_none c.args.self.guards 32 c.is_empty.ensures.long free in
    rw (c.in-Idle.is, none) refl
