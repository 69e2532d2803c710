-- The end of a pool whose host is asked for each step.
use Rattle.std.specs.Prelude.{◌≡◌, ◌≢◌, Option, None, Some}
use Rattle.pp_model.specs.Pool.{State, dirty_pages}
use Rattle.pp_vault.specs.StandsFor.{StandsFor}
use Rattle.pp_hall.specs.declared.told.Told.{Told}
use Rattle.pp_hall.specs.Halls as halls
use Rattle.pp_hall.specs.Calls as hall
use Rattle.pp_steps.specs.declared.error.WhyOpen.{WhyOpen}
use Rattle.pp_steps.specs.declared.error.WhyOpen.TheVariants as why
use Rattle.pp_steps.specs.declared.rings.Rings.{Rings}
use Rattle.pp_steps.specs.Parts.{Parts}
use Rattle.pp_steps.specs.Ringing.{AreRings}
use Rattle.pp_steps.specs.Seats.{AllFree}

-- Nobody starts any more.
pub record Stops (old : Parts) (rings : Rings) (new : Parts) : Type 0 where
  pub after : halls.Parts
  pub told : Told
  pub stops : hall.Stops old.hall told after
  pub new_is : new ≡ record old { hall = after }
  pub rings_are : AreRings old.line told rings

-- Nobody runs, and the flusher is home.
pub record IsHome (x : Parts) : Type 0 where
  pub seats : AllFree x.seats
  pub flusher : x.flusher ≡ None

-- No page is newer than the device's.
abbrev pub IsClean : Parts → Type 0
IsClean x = (s : State) → StandsFor x.hall.seating.vault s → dirty_pages s ≡ 0

-- Why it can't be closed now, if it can't.
abbrev pub WhyOpenIs : Parts → Option WhyOpen → Type 0
WhyOpenIs x None = IsHome x × IsClean x
WhyOpenIs x (Some why.InUse) = ¬ IsHome x
WhyOpenIs x (Some why.StillDirty) =
    IsHome x × ((s : State) → StandsFor x.hall.seating.vault s → dirty_pages s ≢ 0)
