-- A fix that gives something is done.
use Rattle.std.proofs.Common.{ℕ}
use Rattle.pp_vault.specs.declared.tokens.Session.{Session}
use Rattle.pp_vault.specs.declared.fixing.Fixed.{Fixed}
use Rattle.pp_vault.specs.declared.fixing.Fixed.TheVariants.{Got, Opened, Joined, Away}
use Rattle.pp_vault.specs.Parts.{Parts}
use Rattle.pp_vault.specs.Events.{Does}
use Rattle.pp_vault.specs.Fits.{fix_slot, fix_call}
use Rattle.pp_vault.specs.Fixes.{FixAnswers}

pub fix_done : (old new : Parts) (x : Session) (page : ℕ) (out : Fixed) → FixAnswers old x page out new
    → Does old (fix_call x.worker (fix_slot x.ask) page) new
fix_done old new x page (Got session guard) h = h.0
fix_done old new x page (Opened session guard) h = h.0
fix_done old new x page (Joined session) h = h.0
fix_done old new x page (Away errand) h = h.0
