use Rattle.std.proofs.Common.{sym, subst}
use Rattle.pp_core.specs.Parts.{Parts}
use Rattle.pp_core.specs.StandsFor.{StandsFor}
use Rattle.pp_core.proofs.machine.Core.refusal.Goals as goal

pub returns : goal.returns
returns c = λ s st. c.refusal.ensures s (subst (λ (g : Parts). StandsFor g s) (sym c.self.view_is) st)
