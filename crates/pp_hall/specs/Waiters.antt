-- Who waits at a hall, and whom a call tells that it can go on.
use Rattle.std.specs.Prelude.{◌≡◌, ◌↔◌, ℕ, ◌≤◌, ◌&&◌, not, Bool, true, false, Option, None, Some, List, [], ◌∷◌}
use Rattle.std.specs.Prelude.{slice_set}
use Rattle.pp_model.specs.Pool.{State}
use Rattle.pp_vault.specs.declared.refusal.Refusal.TheVariants.{NotNow}
use Rattle.pp_vault.specs.Parts as vault
use Rattle.pp_vault.specs.StandsFor.{StandsFor}
use Rattle.pp_pool.specs.declared.response.BookAnswer.{BookAnswer}
use Rattle.pp_pool.specs.declared.response.BookAnswer.TheVariants.{No}
use Rattle.pp_admission.specs.declared.waiting.Waiting.{Waiting}
use Rattle.pp_admission.specs.Queues as admission
use Rattle.pp_admission.specs.Queues.{NextIsAwake, next_in, is_asleep_at, woken}
use Rattle.pp_wants.specs.declared.want.Want.{Want}
use Rattle.pp_wants.specs.declared.sleepers.Sleeper.{Sleeper}
use Rattle.pp_wants.specs.Masks.{has_bell, bell_of}
use Rattle.pp_wants.specs.Sleepers.{untold, is_told_anew, Keeps}
use Rattle.pp_wants.specs.WakeUps.{NoWakeUpIsLost, IsForgotten, IsRungFor}
use Rattle.pp_hall.specs.declared.told.Told.{Told}
use Rattle.pp_hall.specs.Seatings as seatings
use Rattle.pp_hall.specs.Seatings.{room_of, is_wanted}

-- What is kept of them.
pub record Parts : Type 0 where
  -- who waits to start
  pub queue : admission.Parts
  -- at place w what the thread of chair w sleeps for, if it sleeps
  pub sleepers : List (Option Sleeper)
  -- whether the flusher sleeps, and wasn't told
  pub is_flusher_asleep : Bool
  -- whether nobody starts any more
  pub is_stopped : Bool

-- ---- what holds of each

-- The peak of each one that waits counts as a page at least.
abbrev pub AreCounted : List Waiting → Type 0
AreCounted [] = Unit {0}
AreCounted (w ∷ ws) = (1 ≤ w.peak) × AreCounted ws

-- Nobody in the queue is asleep, nor is the flusher.
pub record IsAllAwake (w : Parts) : Type 0 where
  pub queue : (ticket : ℕ) → is_asleep_at w.queue ticket ≡ false
  pub flusher : w.is_flusher_asleep ≡ false

-- Peaks are counted so. Where nobody starts any more, nobody in the queue sleeps, nor does the flusher.
pub record IsWaiters (w : Parts) : Type 0 where
  pub counted : AreCounted w.queue.waiting
  pub awake : w.is_stopped ≡ true → IsAllAwake w

-- ---- the flusher

-- The flusher sleeps only while no flush is wanted.
abbrev pub FlusherRests : vault.Parts → (from : ℕ) → (asleep : Bool) → Type 0
FlusherRests v from asleep = asleep ≡ true → (s : State) → StandsFor v s → is_wanted from s ≡ false

-- ---- nobody is forgotten

-- Nobody's wake-up is lost: no worker's thread sleeps untold on what is possible, unless another that was told of the
-- same thing is on its way; the next that may start isn't asleep, where a chair is home; the flusher sleeps only while
-- no flush is wanted.
pub record NobodyIsForgotten (x : seatings.Parts) (from : ℕ) (w : Parts) : Type 0 where
  pub workers : NoWakeUpIsLost x.vault w.sleepers
  pub next : NextIsAwake w.queue (room_of x)
  pub flusher : FlusherRests x.vault from w.is_flusher_asleep

-- ---- whom a call tells

-- The queue, in which the one with this ticket was woken, if one was.
abbrev pub woken_by : Option ℕ → admission.Parts → admission.Parts
woken_by None q = q
woken_by (Some ticket) q = woken q ticket

-- Those are told whose wake-up would be lost else, and nobody besides: each worker's thread that would be forgotten,
-- the one that may start, if it is asleep, and the flusher, if a flush is wanted. Else everybody waits as before.
pub record Settles (x : seatings.Parts) (from : ℕ) (before : Parts) (told : Told) (after : Parts) : Type 0 where
  pub keeps : Keeps before.sleepers after.sleepers
  pub workers : (w : ℕ) → is_told_anew before.sleepers after.sleepers w ≡ true → has_bell told.workers (bell_of w) ≡ true
  pub only : (b : ℕ) → has_bell told.workers b ≡ true → IsRungFor before.sleepers after.sleepers b
  pub needed : (w : ℕ) → is_told_anew before.sleepers after.sleepers w ≡ true
      → (s : State) → StandsFor x.vault s → IsForgotten s before.sleepers w
  pub next : (ticket : ℕ) → (told.next ≡ Some ticket)
      ↔ ((next_in before.queue (room_of x) ≡ Some ticket) × (is_asleep_at before.queue ticket ≡ true))
  pub queue : after.queue ≡ woken_by told.next before.queue
  pub flusher : told.flusher ≡ (before.is_flusher_asleep && not after.is_flusher_asleep)
  pub wanted : told.flusher ≡ true → (s : State) → StandsFor x.vault s → is_wanted from s ≡ true
  pub one : told.all ≡ false
  pub stopped : after.is_stopped ≡ before.is_stopped

-- ---- what calls do

-- Where a worker that asked sleeps: with what it wants, where that isn't possible now; else it doesn't sleep.
abbrev pub place_after : Option Want → BookAnswer → Option Sleeper
place_after (Some want) (No back (NotNow delay)) = Some (untold want)
place_after _ _ = None

-- The worker's place is so, where there is a worker.
abbrev pub with_place : Parts → Option ℕ → Option Sleeper → Parts
with_place w None place = w
with_place w (Some worker) place = record w { sleepers = slice_set w.sleepers worker place }

-- These wait to start.
abbrev pub with_queue : Parts → admission.Parts → Parts
with_queue w queue = record w { queue = queue }

-- Everybody in the queue is awake, and the flusher, and nobody starts any more.
abbrev pub stopped : Parts → Parts
stopped w = record w { queue = admission.all_woken w.queue; is_flusher_asleep = false; is_stopped = true }
