-- What the threads give back.
use Rattle.std.specs.Prelude.{◌≡◌, ◌≢◌, ℕ, ◌+◌, ◌<◌, ⊤, List, [], ◌∷◌, ◌++◌, length, slice_index_or}
use Rattle.pp_model.specs.declared.event.Event.{Event}
use Rattle.pp_model.specs.WorkerParts.{part_of}
use Rattle.pp_run.specs.declared.error.RunError.{RunError}
use Rattle.pp_run.specs.declared.error.RunError.TheVariants.{OutOfMemory, NoThread}
use Rattle.pp_run.specs.declared.stop.Stop.{Stop}
use Rattle.pp_run.specs.declared.stop.Stop.TheVariants.{Ended, NoMemory, Broken}
use Rattle.pp_run.specs.declared.stop.Worked.{Worked}
use Rattle.pp_run.specs.declared.stop.Flushed.{Flushed}
use Rattle.pp_run.specs.Calling.{calls_in, failed_calls_in, ended_flushes_in, failed_flushes_in}

-- ---- while a thread works

-- The device has as many more calls as the log tells of more calls, and as many more failures.
pub record CountsBy {D : Type 0} (calls failures : D → ℕ) (old : D) (before : List Event) (new : D)
    (after : List Event) : Type 0 where
  pub called : calls new + calls_in before ≡ calls old + calls_in after
  pub failed : failures new + failed_calls_in before ≡ failures old + failed_calls_in after

-- The device has as many more calls as flushes were ended, and as many more failures as of these had failed.
pub record FlushesBy {D : Type 0} (calls failures : D → ℕ) (old : D) (ended_before failed_before : ℕ) (new : D)
    (ended_after failed_after : ℕ) : Type 0 where
  pub called : calls new + ended_before ≡ calls old + ended_after
  pub failed : failures new + failed_before ≡ failures old + failed_after

-- A slip promises nothing.
abbrev pub Unless : Stop → Type 0 → Type 0
Unless Ended fact = fact
Unless NoMemory fact = fact
Unless Broken fact = Unit {0}

-- ---- what a thread gives back

abbrev pub WorkedFrom : {D : Type 0} → (D → ℕ) → (D → ℕ) → D → Worked D → Type 0
WorkedFrom calls failures device w = Unless w.stop (CountsBy calls failures device [] w.device w.log.items)

abbrev pub FlushedFrom : {D : Type 0} → (D → ℕ) → (D → ℕ) → D → Flushed D → Type 0
FlushedFrom calls failures device f = Unless f.stop (FlushesBy calls failures device 0 0 f.device f.ended f.failed)

abbrev pub AllWorkedFrom : {D : Type 0} → (D → ℕ) → (D → ℕ) → List D → List (Worked D) → Type 0
AllWorkedFrom calls failures devices worked =
    (length worked ≡ length devices)
    × ((w : ℕ) (d : _) (x : _) → w < length devices
    → WorkedFrom calls failures (slice_index_or devices w d) (slice_index_or worked w x))

-- One of so many threads wasn't started, or memory ran out.
abbrev pub IsUnstarted : (threads : ℕ) → RunError → Type 0
IsUnstarted threads (NoThread w) = w < threads
IsUnstarted threads OutOfMemory = ⊤
IsUnstarted threads _ = ⊥

-- ---- what is left of it beside the journal

-- The log is the worker's part of the journal, no slip ended it, and this is its device.
pub record SettledAt {D : Type 0} (x : Worked D) (events : List Event) (w : ℕ) (device : D) : Type 0 where
  pub log : x.log.items ≡ part_of w events
  pub sound : x.stop ≢ Broken
  pub back : device ≡ x.device

pub record Settled {D : Type 0} (worked : List (Worked D)) (events : List Event) (back : List D) : Type 0 where
  pub count : length back ≡ length worked
  pub each : (w : ℕ) (x : Worked D) (d : D) → w < length worked
      → SettledAt (slice_index_or worked w x) events w (slice_index_or back w d)

-- The counts of the flusher are the journal's, and no slip ended it.
pub record FlushSettled {D : Type 0} (f : Flushed D) (events : List Event) : Type 0 where
  pub ended : f.ended ≡ ended_flushes_in events
  pub failed : f.failed ≡ failed_flushes_in events
  pub sound : f.stop ≢ Broken

-- All devices come back: those of the workers, and the flusher's behind them.
pub record GivesBack {D : Type 0} (worked : List (Worked D)) (f : Flushed D) (events : List Event) (all : List D) : Type 0 where
  pub back : List D
  pub workers : Settled worked events back
  pub flusher : FlushSettled f events
  pub all_are : all ≡ back ++ f.device ∷ []

-- No slip ended any worker.
abbrev pub AllSound : {D : Type 0} → List (Worked D) → Type 0
AllSound worked = (w : ℕ) (x : Worked _) → w < length worked → (slice_index_or worked w x).stop ≢ Broken
