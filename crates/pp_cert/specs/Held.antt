-- What a worker holds after a list of actions, and which lists are legal and orderly
-- (fix, use, unfix: Gray and Reuter, Transaction Processing, chapter 13).
use Rattle.std.specs.Prelude.{◌≡◌, ℕ, ◌<◌, Bool, true, false, IsTrue, if◌then◌else◌, Option, None, Some, is_some}
use Rattle.std.specs.Prelude.{IsSome, List, [], ◌∷◌, ◌++◌, length, All}
use Rattle.pp_settings.specs.Layout.{Geometry, class_of}
use Rattle.pp_plan.specs.declared.mode.Mode.{Mode}
use Rattle.pp_plan.specs.declared.mode.Mode.TheVariants.{S as Shared, X as Exclusive}
use Rattle.pp_plan.specs.declared.action.Action.{Action}
use Rattle.pp_plan.specs.declared.action.Action.TheVariants.{Fix, Unfix, Latch, Unlatch, Gather, Scatter, Choose}
use Rattle.pp_cert.specs.declared.note.Held.{Held}
use Rattle.pp_cert.specs.declared.note.Held.TheVariants.{Free, S, X}
use Rattle.pp_cert.specs.Slots.{slot_get, slot_push, slot_remove, slot_clear, slot_update}

-- ---- how a page is held

-- A page that is latched in this mode is held so.
abbrev pub held_in : Mode → Held
held_in Shared = S
held_in Exclusive = X

-- Whether a page is latched.
abbrev pub is_latched : Held → Bool
is_latched Free = false
is_latched S = true
is_latched X = true

-- Whether a slot holds a page of its own that isn't latched; None is a slot that holds none.
abbrev pub is_free_page : Option Held → Bool
is_free_page None = false
is_free_page (Some Free) = true
is_free_page (Some S) = false
is_free_page (Some X) = false

-- Whether a slot holds a latched page; None is a slot that holds none of its own.
abbrev pub is_latched_page : Option Held → Bool
is_latched_page None = false
is_latched_page (Some held) = is_latched held

-- ---- what is held

-- A pin of a slot: the page, how it is held, and whether the slot is a bundle.
pub record Holding : Type 0 where
  pub slot : ℕ
  pub page : ℕ
  pub held : Held
  pub bundled : Bool

-- What slots hold, by rising slot. A slot that holds a page of its own has one element. A bundle has one for each gather since
-- it was last empty, the last first (the place in the bundle is this order), and each is Free.
abbrev pub Holdings : Type 0
Holdings = List Holding

abbrev pub holding_slot : Holding → ℕ
holding_slot h = h.slot

-- What the slot holds, of a bundle the page that it gathered last; None where it holds nothing.
abbrev pub holding_at : Holdings → ℕ → Option Holding
holding_at hs s = slot_get holding_slot s hs

-- How a page of the slot's own is held; None where the slot holds nothing or is a bundle.
abbrev pub plain_held : Option Holding → Option Held
plain_held None = None
plain_held (Some h) = if h.bundled then None else Some h.held

-- Whether the slot holds pages as a bundle. A bundle without a page holds nothing, so no scatter takes it.
abbrev pub holds_bundle : Option Holding → Bool
holds_bundle None = false
holds_bundle (Some h) = h.bundled

-- How the slot holds its page, if it holds one of its own; None of a bundle.
abbrev pub held_at : Holdings → ℕ → Option Held
held_at hs s = plain_held (holding_at hs s)

-- A slot that holds one page of its own, not latched yet.
abbrev pub plain_page : (slot page : ℕ) → Holding
plain_page slot page = record { slot = slot; page = page; held = Free; bundled = false }

-- One page of a bundle.
abbrev pub bundle_page : (slot page : ℕ) → Holding
bundle_page slot page = record { slot = slot; page = page; held = Free; bundled = true }

-- The slot's page is held so from now on.
abbrev pub holding_as : Held → ℕ → Holdings → Holdings
holding_as held s hs =
    slot_update holding_slot (λ h. record { slot = h.slot; page = h.page; held = held; bundled = h.bundled }) s hs

-- What is held after one action; None where the action is bad. A fix takes a slot that holds nothing, an unfix and a latch
-- one that holds an unlatched page of its own, an unlatch one that holds a latched page of its own. A gather takes a slot that
-- holds nothing or is a bundle, and adds a page; a scatter takes a bundle that holds a page, and gives all its pages back. A
-- choice changes nothing.
abbrev pub held_next : Holdings → Action → Option Holdings
held_next hs (Fix s page) =
    if is_some (holding_at hs s) then None else Some (slot_push holding_slot (plain_page s page) hs)
held_next hs (Unfix s) = if is_free_page (held_at hs s) then Some (slot_remove holding_slot s hs) else None
held_next hs (Latch s m) = if is_free_page (held_at hs s) then Some (holding_as (held_in m) s hs) else None
held_next hs (Unlatch s) = if is_latched_page (held_at hs s) then Some (holding_as Free s hs) else None
held_next hs (Gather s page) =
    if is_some (held_at hs s) then None else Some (slot_push holding_slot (bundle_page s page) hs)
held_next hs (Scatter s) = if holds_bundle (holding_at hs s) then Some (slot_clear holding_slot s hs) else None
held_next hs (Choose i) = Some hs

-- What is held after a list of actions, where these were held before it; bad stays bad.
abbrev pub held_after : Option Holdings → List Action → Option Holdings
held_after None t = None
held_after (Some hs) [] = Some hs
held_after (Some hs) (a ∷ t) = held_after (held_next hs a) t

-- What is held after a list of actions; None where the list is bad.
abbrev pub held : List Action → Option Holdings
held t = held_after (Some []) t

-- ---- legal, orderly, pins

-- The list isn't bad.
abbrev pub IsLegal : List Action → Type 0
IsLegal t = IsSome (held t)

-- The first class is below the second, and there are both.
abbrev pub IsClassBelow : Option ℕ → Option ℕ → Type 0
IsClassBelow (Some c) (Some d) = c < d
IsClassBelow None d = ⊥
IsClassBelow (Some c) None = ⊥

-- The slot's page has a class greater than that of every page that is S or X; of a bundle, which no legal list latches, its
-- last page.
abbrev pub IsAboveLatched : Geometry → Holdings → ℕ → Type 0
IsAboveLatched g hs s =
    (h : Holding) → holding_at hs s ≡ Some h
    → All (λ l. IsTrue (is_latched l.held) → IsClassBelow (class_of g l.page) (class_of g h.page)) hs

-- Each latch in the list is of a page whose class is greater than the class of every page that is S or X just before.
abbrev pub IsOrderly : Geometry → List Action → Type 0
IsOrderly g t =
    (u v : List Action) (s : ℕ) (m : Mode) → t ≡ u ++ Latch s m ∷ v → (hs : Holdings) → held u ≡ Some hs
    → IsAboveLatched g hs s

-- How many pins there are: one for each slot that holds a page of its own, and for each page of a bundle, again for a page that
-- it has twice.
abbrev pub size_of : Option Holdings → ℕ
size_of None = 0
size_of (Some hs) = length hs

-- How many pins there are after the list.
abbrev pub pins : List Action → ℕ
pins t = size_of (held t)
