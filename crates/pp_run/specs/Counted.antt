-- What holds of a thread's tokens between two turns.
use Rattle.std.specs.Prelude.{◌≢◌, Option, None, Some}
use Rattle.pp_vault.specs.declared.hands.Flushing.{Flushing}
use Rattle.pp_vault.specs.declared.hands.Flushing.TheVariants as flushing
use Rattle.pp_vault.specs.declared.stage.Stage.{Stage}
use Rattle.pp_vault.specs.declared.stage.Stage.TheVariants.{Idle, In, Out, Back, Leaving}
use Rattle.pp_vault.specs.Duties.{duty_worker}

-- The stage is a worker's, and no device's answer is untold.
abbrev pub IsAtWork : Stage → Type 0
IsAtWork (Idle chair) = Unit {0}
IsAtWork (In session) = Unit {0}
IsAtWork (Out errand) = duty_worker errand.duty ≢ None
IsAtWork (Back returned) = ⊥
IsAtWork (Leaving leaver) = Unit {0}

-- The flusher holds no device's answer that it hasn't told yet.
abbrev pub HoldsNoAnswer : Option Flushing → Type 0
HoldsNoAnswer None = Unit {0}
HoldsNoAnswer (Some (flushing.Out errand)) = Unit {0}
HoldsNoAnswer (Some (flushing.Back returned)) = ⊥
