-- A worker in its plan, as the core keeps it, and what its calls need and do.
use Rattle.std.specs.Prelude.{◌≡◌, ℕ, ◌+◌, ◌<◌, ◌≤◌, ◌^◌, None, List, [], ◌∷◌, ◌++◌, length, replicate}
use Rattle.pp_settings.specs.Limits.{most_slots}
use Rattle.pp_plan.specs.declared.action.Action.{Action}
use Rattle.pp_plan.specs.declared.action.Action.TheVariants.{Fix, Unfix, Latch, Unlatch, Gather, Scatter, Choose}
use Rattle.pp_plan.specs.Terms.{Terms}
use Rattle.pp_plan.specs.PlanTraces.{PlanAsks}
use Rattle.pp_cursor.specs.Asked.{asked}
use Rattle.pp_cursor.specs.Cursor.{StandsFor, IsCursorOf}
use Rattle.pp_core.specs.declared.seat.Seat.{Seat}
use Rattle.pp_core.specs.declared.seat.Phase.TheVariants.{Acting}
use Rattle.pp_core.specs.Slots.{slots_after, count_after}

-- A worker that has done nothing of the plan of this number, which stands at this place.
pub record IsBegun (plan : Terms) (k at : ℕ) (x : Seat) : Type 0 where
  pub number : x.plan ≡ k
  pub place : x.place ≡ at
  pub cursor : StandsFor plan x.cursor []
  pub ask : x.ask ≡ asked plan []
  pub actions : x.actions ≡ 0
  pub holds : x.holds ≡ 0
  pub slots : x.slots ≡ replicate most_slots None
  pub phase : x.phase ≡ Acting

-- The slot that an action needs, and how many slots hold something before it.
abbrev pub FitsSlots : Action → (count slots : ℕ) → Type 0
FitsSlots (Fix slot page) count slots = (slot < slots) × (count ≤ most_slots)
FitsSlots (Unfix slot) count slots = (slot < slots) × (0 < count)
FitsSlots (Latch slot m) count slots = slot < slots
FitsSlots (Unlatch slot) count slots = slot < slots
FitsSlots (Gather slot page) count slots = (slot < slots) × (count ≤ most_slots)
FitsSlots (Scatter slot) count slots = (slot < slots) × (0 < count)
FitsSlots (Choose i) count slots = Unit {0}

-- The plan asks the action of the worker, which acts, and its counters have room for it.
pub record CanDo (plan : Terms) (x : Seat) (a : Action) : Type 0 where
  pub cursor : IsCursorOf plan x.cursor
  pub asks : (before : List Action) → StandsFor plan x.cursor before → PlanAsks plan before a
  pub acts : x.phase ≡ Acting
  pub actions : x.actions + 1 < 2 ^ 32
  pub slots : FitsSlots a x.holds (length x.slots)

-- The action is counted, and its slot is filled, emptied or held in another way.
abbrev pub counted : Action → Seat → Seat
counted a x =
    record x {
      actions = x.actions + 1;
      holds = count_after a x.slots x.holds;
      slots = slots_after a x.slots;
    }

-- The worker y is x after the action.
pub record Did (plan : Terms) (x y : Seat) (a : Action) : Type 0 where
  pub number : y.plan ≡ x.plan
  pub place : y.place ≡ x.place
  pub cursor : (before : List Action) → StandsFor plan x.cursor before → StandsFor plan y.cursor (before ++ a ∷ [])
  pub ask : (before : List Action) → StandsFor plan x.cursor before → y.ask ≡ asked plan (before ++ a ∷ [])
  pub actions : y.actions ≡ x.actions + 1
  pub holds : y.holds ≡ count_after a x.slots x.holds
  pub slots : y.slots ≡ slots_after a x.slots
  pub phase : y.phase ≡ Acting
