-- What is wrong with a run whose threads are joined, in the order in which it is looked for.
use Rattle.std.specs.Prelude.{◌≡◌, ◌≢◌, ◌⊎◌, ◌<◌, ◌≤◌, ℕ, Bool, true, false, List, length, slice_index_or}
use Rattle.std.specs.List.{list_all}
use Rattle.pp_model.specs.declared.event.Event.{Event}
use Rattle.pp_model.specs.WorkerParts.{part_of}
use Rattle.pp_run.specs.Calling.{begun_flushes_in, ended_flushes_in, failed_flushes_in}
use Rattle.pp_run.specs.Ends.{AllSound}
use Rattle.pp_run.specs.declared.error.RunError.{RunError}
use Rattle.pp_run.specs.declared.error.RunError.TheVariants.{OutOfMemory, Mismatch}
use Rattle.pp_run.specs.declared.error.RunError.TheVariants as run_errors
use Rattle.pp_run.specs.declared.judging.Left.{Left}
use Rattle.pp_run.specs.declared.stop.Flushed.{Flushed}
use Rattle.pp_run.specs.declared.stop.Stop.{Stop}
use Rattle.pp_run.specs.declared.stop.Stop.TheVariants.{Ended, NoMemory, Broken}
use Rattle.pp_run.specs.declared.stop.Worked.{Worked}

-- ---- want of memory

-- Whether want of memory ended a thread.
abbrev pub is_no_memory : Stop → Bool
is_no_memory Ended = false
is_no_memory NoMemory = true
is_no_memory Broken = false

-- Something is left undone, and every worker stopped for want of memory.
pub record IsStarved {D : Type 0} (worked : List (Worked D)) (left : Left) : Type 0 where
  pub undone : left.over ≡ false
  pub all : list_all (λ x. is_no_memory x.stop) worked ≡ true

-- ---- slips

-- A slip ended this worker, and none before it.
pub record IsFirstBroken {D : Type 0} (worked : List (Worked D)) (w : ℕ) : Type 0 where
  pub within : w < length worked
  pub broken : (x : Worked D) → (slice_index_or worked w x).stop ≡ Broken
  pub before : (v : ℕ) (x : Worked D) → v < w → (slice_index_or worked v x).stop ≢ Broken

-- A page is left newer than the device's, and not all flushes of the settings were begun.
pub record LeavesAPage (left : Left) (begun : ℕ) : Type 0 where
  pub dirty : 0 < left.dirty
  pub fewer : begun ≢ left.flushes

-- A slip ended the flusher, or something is left undone that could have been done.
abbrev pub IsUnsettled : {D : Type 0} → Flushed D → Left → (begun : ℕ) → Type 0
IsUnsettled f left begun = (f.stop ≡ Broken) ⊎ (left.over ≡ false) ⊎ LeavesAPage left begun

-- No slip, and nothing is left undone.
pub record IsSound {D : Type 0} (worked : List (Worked D)) (f : Flushed D) (events : List Event) (left : Left) : Type 0 where
  pub workers : AllSound worked
  pub flusher : f.stop ≢ Broken
  pub over : left.over ≡ true
  pub flushed : 0 < left.dirty → begun_flushes_in events ≡ left.flushes

-- ---- logs and counts

-- The log of this worker isn't its part of the journal, and those of the workers before it are.
pub record IsFirstMismatch {D : Type 0} (worked : List (Worked D)) (events : List Event) (w : ℕ) : Type 0 where
  pub within : w < length worked
  pub other : (x : Worked D) → (slice_index_or worked w x).log.items ≢ part_of w events
  pub before : (v : ℕ) (x : Worked D) → v < w → (slice_index_or worked v x).log.items ≡ part_of v events

-- All logs are, but the counts of the flusher aren't the journal's.
pub record IsMiscounted {D : Type 0} (worked : List (Worked D)) (f : Flushed D) (events : List Event) : Type 0 where
  pub logs : (v : ℕ) (x : Worked D) → v < length worked → (slice_index_or worked v x).log.items ≡ part_of v events
  pub other : (f.ended ≡ ended_flushes_in events) × (f.failed ≡ failed_flushes_in events) → ⊥

-- ---- the verdict

-- There was no memory to give the device of a worker back. Its log, and those of the workers before it, are their parts
-- of the journal.
pub record LacksPlace {D : Type 0} (worked : List (Worked D)) (events : List Event) : Type 0 where
  pub worker : ℕ
  pub within : worker < length worked
  pub logs : (v : ℕ) (x : Worked D) → v ≤ worker → (slice_index_or worked v x).log.items ≡ part_of v events

-- The error of the logs: the first that isn't its worker's part of the journal, or there was no memory for its device.
abbrev pub IsUnlike : {D : Type 0} → List (Worked D) → List Event → RunError → Type 0
IsUnlike worked events (Mismatch w) = IsFirstMismatch worked events w
IsUnlike worked events OutOfMemory = LacksPlace worked events
IsUnlike worked events _ = ⊥

-- The first thing that is wrong, and the number of the worker, or of the flusher, which is that of the workers. Memory is
-- wanting where something is left undone for want of it; or, where nothing is wrong, to give the devices back.
abbrev pub IsVerdict : {D : Type 0} → List (Worked D) → Flushed D → List Event → Left → RunError → Type 0
IsVerdict worked f events left (run_errors.Broken w) =
    (IsStarved worked left → ⊥)
    × (IsFirstBroken worked w
    ⊎ ((w ≡ length worked) × AllSound worked × IsUnsettled f left (begun_flushes_in events)))
IsVerdict worked f events left (Mismatch w) =
    IsSound worked f events left
    × (IsFirstMismatch worked events w ⊎ ((w ≡ length worked) × IsMiscounted worked f events))
IsVerdict worked f events left OutOfMemory =
    IsStarved worked left ⊎ (IsSound worked f events left × LacksPlace worked events)
IsVerdict worked f events left _ = ⊥
