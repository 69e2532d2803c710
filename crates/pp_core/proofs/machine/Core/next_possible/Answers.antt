use Rattle.std.proofs.Common.{subst}
use Rattle.pp_core.specs.Parts.{Parts}
use Rattle.pp_core.proofs.TurnTies.{IsNext, some_told, open_told}
use Rattle.pp_core.proofs.machine.Core.next_possible.Goals as goal

pub returns-clause-some : goal.returns-clause-some
returns-clause-some c =
    let f = c.args.self.now in
    some_told f c.next_turn.result (subst (λ (g : Parts). IsNext g c.next_turn.result) c.self.view_is c.next_turn.ensures)

pub returns-clause-open : goal.returns-clause-open
returns-clause-open c =
    let f = c.args.self.now in
    open_told f c.next_turn.result (subst (λ (g : Parts). IsNext g c.next_turn.result) c.self.view_is c.next_turn.ensures)
