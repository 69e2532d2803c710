-- Which hands fit a vault.
use Rattle.std.specs.Prelude.{◌≡◌, ◌<◌, ℕ, true, Option, None, Some, List, length}
use Rattle.pp_settings.specs.Limits.{most_slots}
use Rattle.pp_cert.specs.declared.note.Held.TheVariants.{Free, S, X}
use Rattle.pp_model.specs.Pool.{State, known_mark}
use Rattle.pp_core.specs.Queries.{is_idle, is_leaving, ask_of, held_of, flushed_page}
use Rattle.pp_device.specs.Image.{head_of}
use Rattle.pp_vault.specs.declared.tokens.Duty.{Duty}
use Rattle.pp_vault.specs.declared.tokens.Duty.TheVariants as duty
use Rattle.pp_vault.specs.declared.guards.ReadGuard.{ReadGuard}
use Rattle.pp_vault.specs.declared.guards.WriteGuard.{WriteGuard}
use Rattle.pp_vault.specs.declared.guards.PinGuard.{PinGuard}
use Rattle.pp_vault.specs.declared.guards.BundleGuard.{BundleGuard}
use Rattle.pp_vault.specs.declared.guards.Guard.{Guard}
use Rattle.pp_vault.specs.declared.guards.Guard.TheVariants.{Pin, Read, Write, Bundle}
use Rattle.pp_vault.specs.declared.stage.Stage.{Stage}
use Rattle.pp_vault.specs.declared.stage.Stage.TheVariants.{Idle, In, Out, Back, Leaving}
use Rattle.pp_vault.specs.declared.stage.Hand.{Hand}
use Rattle.pp_vault.specs.declared.hands.Flushing.{Flushing}
use Rattle.pp_vault.specs.declared.hands.Flushing.TheVariants as flushing
use Rattle.pp_vault.specs.declared.hands.Hands.{Hands}
use Rattle.pp_vault.specs.Parts.{Parts}
use Rattle.pp_vault.specs.StandsFor.{StandsFor}
use Rattle.pp_vault.specs.Fits.{is_gathered, IsEmpty}
use Rattle.pp_vault.specs.Tokens.{IsOut, IsHeaded}
use Rattle.pp_vault.specs.Duties.{duty_worker}
use Rattle.pp_vault.specs.Holding.{placed}

-- ---- the token of a worker's stage

-- What a device was asked for worker w is out, with an image as long as a page; that of a victim names it and its known
-- mark.
pub record IsAway (page_bytes : ℕ) (s : State) (w : ℕ) (duty : Duty) (image : List ℕ) : Type 0 where
  pub worker : duty_worker duty ≡ Some w
  pub out : IsOut s duty
  pub headed : IsHeaded s duty image
  pub long : length image ≡ page_bytes

-- The token is worker w's, and of the stage that the worker is at.
abbrev pub StageFits : (page_bytes : ℕ) → State → (w : ℕ) → Stage → Type 0
StageFits page_bytes s w (Idle chair) = (chair.worker ≡ w) × (is_idle s w ≡ true)
StageFits page_bytes s w (In session) = (session.worker ≡ w) × (ask_of s w ≡ Some session.ask)
StageFits page_bytes s w (Out errand) = IsAway page_bytes s w errand.duty errand.image
StageFits page_bytes s w (Back returned) = IsAway page_bytes s w returned.duty returned.image
StageFits page_bytes s w (Leaving leaver) = (leaver.worker ≡ w) × (is_leaving s w ≡ true)

-- ---- the guard of a slot

-- The guard is of worker w and this slot, which holds its page, not latched.
pub record IsPin (s : State) (w slot : ℕ) (guard : PinGuard) : Type 0 where
  pub worker : guard.worker ≡ w
  pub of_slot : guard.slot ≡ slot
  pub held : held_of s w slot ≡ Some (guard.page, Free)

-- The guard is of worker w and this slot, which has its page latched S, and it tells the page's mark.
pub record IsRead (s : State) (w slot : ℕ) (guard : ReadGuard) : Type 0 where
  pub worker : guard.worker ≡ w
  pub of_slot : guard.slot ≡ slot
  pub held : held_of s w slot ≡ Some (guard.page, S)
  pub mark : known_mark s guard.page ≡ Some guard.mark

-- The guard is of worker w and this slot, which has its page latched X. It tells the page's mark, and its image, as
-- long as a page, names the page and the mark.
pub record IsWrite (page_bytes : ℕ) (s : State) (w slot : ℕ) (guard : WriteGuard) : Type 0 where
  pub worker : guard.worker ≡ w
  pub of_slot : guard.slot ≡ slot
  pub held : held_of s w slot ≡ Some (guard.page, X)
  pub mark : known_mark s guard.page ≡ Some guard.mark
  pub head : head_of guard.image ≡ (guard.page, guard.mark)
  pub long : length guard.image ≡ page_bytes

-- The guard is of worker w and this slot, which is a bundle that holds a page.
pub record IsBundle (s : State) (w slot : ℕ) (guard : BundleGuard) : Type 0 where
  pub worker : guard.worker ≡ w
  pub of_slot : guard.slot ≡ slot
  pub gathered : is_gathered s w slot ≡ true

-- The guard is one of worker w and this slot, as the slot holds its page: not latched, latched S, or latched X; or it is a
-- bundle's, and the slot is one.
abbrev pub GuardFits : (page_bytes : ℕ) → State → (w slot : ℕ) → Guard → Type 0
GuardFits page_bytes s w slot (Pin guard) = IsPin s w slot guard
GuardFits page_bytes s w slot (Read guard) = IsRead s w slot guard
GuardFits page_bytes s w slot (Write guard) = IsWrite page_bytes s w slot guard
GuardFits page_bytes s w slot (Bundle guard) = IsBundle s w slot guard

-- There is a guard, which fits, exactly where the slot of worker w holds a page, its own or as a bundle.
abbrev pub PlaceFits : (page_bytes : ℕ) → State → (w slot : ℕ) → Option Guard → Type 0
PlaceFits page_bytes s w slot None = IsEmpty s w slot
PlaceFits page_bytes s w slot (Some guard) = GuardFits page_bytes s w slot guard

-- ---- all tokens of a worker, and of a vault

-- The hand has the token of worker w's stage, and the guard of each slot that the worker holds, and no other.
pub record HandFits (page_bytes : ℕ) (s : State) (w : ℕ) (hand : Hand) : Type 0 where
  pub stage : StageFits page_bytes s w hand.stage
  pub places : length hand.guards ≡ most_slots
  pub guards : (slot : ℕ) → PlaceFits page_bytes s w slot (placed hand.guards slot)

-- There is a hand in worker w's place, and it fits.
pub record HasHand (page_bytes : ℕ) (s : State) (workers : List (Option Hand)) (w : ℕ) : Type 0 where
  pub hand : Hand
  pub there : placed workers w ≡ Some hand
  pub fits : HandFits page_bytes s w hand

-- The flush of a page is in flight, with an image as long as a page.
abbrev pub IsFlushAway : (page_bytes : ℕ) → State → Duty → (image : List ℕ) → Type 0
IsFlushAway page_bytes s (duty.Read w slot page) image = ⊥
IsFlushAway page_bytes s (duty.Write w slot page victim) image = ⊥
IsFlushAway page_bytes s (duty.Flush page) image = (flushed_page s ≡ Some page) × (length image ≡ page_bytes)

-- The flusher has a token exactly while a flush is in flight, and it is of that flush.
abbrev pub FlushingFits : (page_bytes : ℕ) → State → Option Flushing → Type 0
FlushingFits page_bytes s None = flushed_page s ≡ None
FlushingFits page_bytes s (Some (flushing.Out errand)) = IsFlushAway page_bytes s errand.duty errand.image
FlushingFits page_bytes s (Some (flushing.Back returned)) = IsFlushAway page_bytes s returned.duty returned.image

-- The hands have a place for each worker, with a hand that fits, and the flusher's token exactly while a flush is in
-- flight.
pub record HandsFitState (page_bytes : ℕ) (s : State) (hands : Hands) : Type 0 where
  pub places : length hands.workers ≡ length s.seats
  pub each : (w : ℕ) → w < length s.seats → HasHand page_bytes s hands.workers w
  pub flushing : FlushingFits page_bytes s hands.flushing

-- They do so from every state that the vault stands for.
abbrev pub HandsFit : Parts → Hands → Type 0
HandsFit v hands = (s : State) → StandsFor v s → HandsFitState v.page_bytes s hands
