-- Giving a slot back is done as one call, by the guard.
use Rattle.pp_vault.specs.declared.tokens.Leaver.{Leaver}
use Rattle.pp_vault.specs.declared.guards.Guard.{Guard}
use Rattle.pp_vault.specs.declared.guards.Guard.TheVariants.{Pin, Read, Write, Bundle}
use Rattle.pp_vault.specs.Parts.{Parts}
use Rattle.pp_vault.specs.Events.{Does}
use Rattle.pp_vault.specs.Leaves.{GivesBack, give_back_call}

pub gives_done : (old new : Parts) (x y : Leaver) (g : Guard) → GivesBack old x g new y
    → Does old (give_back_call old x g) new
gives_done old new x y (Pin g) h = h.still.does
gives_done old new x y (Read g) h = h.still.does
gives_done old new x y (Write g) h = h.still.does
gives_done old new x y (Bundle g) h = h.still.does
