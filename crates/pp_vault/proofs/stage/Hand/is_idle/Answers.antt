use Rattle.std.proofs.Common.{◌≡◌, ◌∙◌, sym, true, refl}
use Rattle.pp_vault.specs.Holding.{no_guards}
use Rattle.pp_vault.proofs.Placed.{free_none}
use Rattle.pp_vault.proofs.stage.Hand.is_idle.Goals as goal

pub returns-in-Idle-clause-idle : goal.returns-in-Idle-clause-idle
returns-in-Idle-clause-idle c idle =
    let none : c.args.self.now.guards ≡ no_guards =
    free_none c.args.self.now.guards 32 c.is_empty.ensures.long (sym c.is_empty.ensures.free ∙ idle) in
    (c.in-Idle.field-0, rw (c.in-Idle.is, none) refl)
