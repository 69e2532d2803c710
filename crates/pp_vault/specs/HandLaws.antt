-- What a call of a vault leaves of the hands.
use Rattle.std.specs.Prelude.{◌≡◌, ◌≢◌, ℕ, Option, None, Some}
use Rattle.pp_cert.specs.Accepted.{Acceptance}
use Rattle.pp_model.specs.Pool.{State}
use Rattle.pp_model.specs.Moves.{next_of}
use Rattle.pp_model.specs.WorkerParts.{worker_of}
use Rattle.pp_core.specs.Queries.{held_of}
use Rattle.pp_core.specs.AfterMoves.{Releases}
use Rattle.pp_vault.specs.declared.guards.Guard.{Guard}
use Rattle.pp_vault.specs.declared.stage.Hand.{Hand}
use Rattle.pp_vault.specs.declared.hands.Flushing.{Flushing}
use Rattle.pp_vault.specs.declared.hands.Hands.{Hands}
use Rattle.pp_vault.specs.Parts.{Parts}
use Rattle.pp_vault.specs.StandsFor.{StandsFor, IsKept}
use Rattle.pp_vault.specs.Calls.{Call, stranger, refused, asks}
use Rattle.pp_vault.specs.Fits.{is_gathered}
use Rattle.pp_vault.specs.Events.{Does}
use Rattle.pp_vault.specs.Submits.{TakesIn, Prepares}
use Rattle.pp_vault.specs.Renewals.{Renews}
use Rattle.pp_vault.specs.Hands.{PlaceFits, HandFits, FlushingFits, HandsFit}

-- The worker whose move a call is; none where it is no move, or the flusher's.
abbrev pub caller : Call → Option ℕ
caller stranger = None
caller (refused why) = None
caller (asks m) = worker_of m

-- The hand is one of worker w, in every state that the parts stand for.
abbrev pub FitsIn : Parts → (w : ℕ) → Hand → Type 0
FitsIn v w hand = (s : State) → StandsFor v s → HandFits v.page_bytes s w hand

-- A hand that fits still does after a call that isn't its worker's.
abbrev pub OthersStillFit : Type 0
OthersStillFit =
    (old new : Parts) (call : State → Call) → IsKept old → Does old call new → (w : ℕ)
    → ((s : State) → StandsFor old s → caller (call s) ≢ Some w) → (hand : Hand) → FitsIn old w hand → FitsIn new w hand

-- The flusher's token, where it fits, still does after a call that isn't the flusher's.
abbrev pub FlushingStillFits : Type 0
FlushingStillFits =
    (old new : Parts) (call : State → Call) → IsKept old → Does old call new → (w : ℕ)
    → ((s : State) → StandsFor old s → caller (call s) ≡ Some w) → (flushing : Option Flushing)
    → ((s : State) → StandsFor old s → FlushingFits old.page_bytes s flushing)
    → (s : State) → StandsFor new s → FlushingFits new.page_bytes s flushing

-- The call leaves what this slot of worker w holds, a bundle a bundle, and takes no latch off it.
abbrev pub LeavesSlot : State → Call → (w slot : ℕ) → Type 0
LeavesSlot s stranger w slot = Unit {0}
LeavesSlot s (refused why) w slot = Unit {0}
LeavesSlot s (asks m) w slot =
    (held_of (next_of s m) w slot ≡ held_of s w slot) × (is_gathered (next_of s m) w slot ≡ is_gathered s w slot)
    × ¬ Releases s m w slot

-- The place of a slot, where it fits, still does after a call that leaves the slot, whoever makes it.
abbrev pub SlotsStillFit : Type 0
SlotsStillFit =
    (old new : Parts) (call : State → Call) → IsKept old → Does old call new → (w slot : ℕ)
    → ((s : State) → StandsFor old s → LeavesSlot s (call s) w slot) → (place : Option Guard)
    → ((s : State) → StandsFor old s → PlaceFits old.page_bytes s w slot place)
    → (s : State) → StandsFor new s → PlaceFits new.page_bytes s w slot place

-- Hands that fit still do after a plan was taken in.
abbrev pub SubmitsStillFit : Type 0
SubmitsStillFit =
    (old new : Parts) (a : Acceptance) (number : ℕ) → IsKept old → TakesIn old a number new → (hands : Hands)
    → HandsFit old hands → HandsFit new hands

-- And after a plan was prepared.
abbrev pub PreparesStillFit : Type 0
PreparesStillFit =
    (old new : Parts) (a : Acceptance) (place : ℕ) → IsKept old → Prepares old a place new → (hands : Hands)
    → HandsFit old hands → HandsFit new hands

-- And after a renewal.
abbrev pub RenewalsStillFit : Type 0
RenewalsStillFit =
    (old new : Parts) → IsKept old → Renews old new → (hands : Hands) → HandsFit old hands → HandsFit new hands
