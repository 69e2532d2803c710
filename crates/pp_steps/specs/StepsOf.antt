-- What comes next.
use Rattle.std.specs.Prelude.{ℕ, ◌+◌, ◌==◌, Bool, true, false, ◌&&◌, nat_le, nat_lt, Option, None, Some, List, slice_get}
use Rattle.std.specs.Option.{option_map, option_and_then}
use Rattle.pp_settings.specs.Layout.{Geometry}
use Rattle.pp_settings.specs.declared.extent.Extent.{Extent}
use Rattle.pp_plan.specs.declared.mode.Mode.TheVariants as mode
use Rattle.pp_plan.specs.declared.action.Ask.{Ask}
use Rattle.pp_plan.specs.declared.action.Ask.TheVariants as ask
use Rattle.pp_vault.specs.declared.tokens.Duty.{Duty}
use Rattle.pp_vault.specs.declared.guards.Guard.{Guard}
use Rattle.pp_vault.specs.declared.stage.Hand.{Hand}
use Rattle.pp_vault.specs.declared.stage.Stage.{Stage}
use Rattle.pp_vault.specs.declared.stage.Stage.TheVariants as stage
use Rattle.pp_vault.specs.declared.hands.Flushing.{Flushing}
use Rattle.pp_vault.specs.declared.hands.Flushing.TheVariants as flushing
use Rattle.pp_vault.specs.Holding.{placed, held_by}
use Rattle.pp_vault.specs.Duties.{duty_page, is_reading}
use Rattle.pp_steps.specs.declared.step.Step.{Step}
use Rattle.pp_steps.specs.declared.step.Step.TheVariants as step

-- The first page of a region, and how many it has: none of a region that isn't there.
abbrev pub extent_pages : Option Extent → ℕ × ℕ
extent_pages None = (0, 0)
extent_pages (Some e) = (e.first, e.count)

abbrev pub pages_of : Geometry → (region : ℕ) → ℕ × ℕ
pages_of layout region = extent_pages (slice_get layout.extents region)

-- The page in a slot, where the slot has one.
abbrev pub page_in : List (Option Guard) → (slot : ℕ) → Option ℕ
page_in guards slot = option_map (λ h. h.0) (option_and_then held_by (placed guards slot))

-- A call of the device with this page.
abbrev pub step_calling : (reading : Bool) → (page : ℕ) → Step
step_calling true page = step.Read page
step_calling false page = step.Write page

-- What comes next for an errand of this duty.
abbrev pub step_out : Duty → Step
step_out duty = step_calling (is_reading duty) (duty_page duty)

-- What comes next where the plan asks this.
abbrev pub step_asked : Geometry → List (Option Guard) → Ask → Step
step_asked layout guards (ask.Fix slot region) =
    step.Fix slot region (pages_of layout region).0 (pages_of layout region).1
step_asked layout guards (ask.Gather slot region) =
    step.Gather slot region (pages_of layout region).0 (pages_of layout region).1
step_asked layout guards (ask.Choose branches) = step.Choose branches
step_asked layout guards ask.End = step.Finish
step_asked layout guards (ask.Scatter slot) = step.Scatter slot
step_asked layout guards (ask.Unfix slot) = step.Unfix slot (page_in guards slot)
step_asked layout guards (ask.Latch slot mode.S) = step.LatchShared slot (page_in guards slot)
step_asked layout guards (ask.Latch slot mode.X) = step.LatchExclusive slot (page_in guards slot)
step_asked layout guards (ask.Unlatch slot) = step.Unlatch slot (page_in guards slot)

-- What comes next at this stage.
abbrev pub step_at : Geometry → List (Option Guard) → Stage → Step
step_at layout guards (stage.Idle chair) = step.Take
step_at layout guards (stage.In session) = step_asked layout guards session.ask
step_at layout guards (stage.Out errand) = step_out errand.duty
step_at layout guards (stage.Back returned) = step.Tell (duty_page returned.duty)
step_at layout guards (stage.Leaving leaver) = step.Leave

-- What comes next with these tokens.
abbrev pub step_of_hand : Geometry → Hand → Step
step_of_hand layout hand = step_at layout hand.guards hand.stage

-- What comes next of the flusher.
abbrev pub step_of_flush : Option Flushing → Step
step_of_flush None = step.Flush
step_of_flush (Some (flushing.Out errand)) = step_out errand.duty
step_of_flush (Some (flushing.Back returned)) = step.Tell (duty_page returned.duty)

-- Whether the step may have this argument: a page or a branch of those that may be named; 0 or 1 where the device is called; and
-- else 0.
abbrev pub takes : Step → (argument : ℕ) → Bool
takes (step.Fix slot region first count) argument = nat_le first argument && nat_lt argument (first + count)
takes (step.Gather slot region first count) argument = nat_le first argument && nat_lt argument (first + count)
takes (step.Choose branches) argument = nat_lt argument branches
takes (step.Read page) argument = nat_le argument 1
takes (step.Write page) argument = nat_le argument 1
takes _ argument = argument == 0
