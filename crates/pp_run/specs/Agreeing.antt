-- How far the logs of the workers agree with their parts of the journal, while the journal is gone over once.
use Rattle.std.specs.Prelude.{◌≡◌, ◌≢◌, ◌<◌, ◌≤◌, ◌++◌, ℕ, Option, None, Some, List, length, take, drop, slice_index_or}
use Rattle.pp_model.specs.declared.event.Event.{Event}
use Rattle.pp_model.specs.WorkerParts.{part_of}
use Rattle.pp_run.specs.declared.stop.Worked.{Worked}

-- So many events of the log are those of the worker's part that come before this place of the journal; or the log isn't
-- that part.
abbrev pub Agrees : Option ℕ → List Event → ℕ → List Event → (place : ℕ) → Type 0
Agrees (Some n) log w events i = (n ≤ length log) × (part_of w events ≡ take n log ++ part_of w (drop i events))
Agrees None log w events i = log ≢ part_of w events

-- So it is of the first workers, so many of them as are counted.
abbrev pub AllAgree : {D : Type 0} → List (Option ℕ) → List (Worked D) → List Event → (place : ℕ) → Type 0
AllAgree counts worked events i =
    (w : ℕ) (c : Option ℕ) (x : Worked _) → w < length counts → w < length worked
    → Agrees (slice_index_or counts w c) (slice_index_or worked w x).log.items w events i
