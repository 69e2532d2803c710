-- What the threads of a run gave back when they were joined, and what the run answers then.
use Rattle.std.specs.Prelude.{◌≡◌, ℕ, ⊤, true, List, length, take, drop, slice_index_or, is_none}
use Rattle.std.specs.List.{list_all}
use Rattle.pp_cert.specs.Accepted.{Acceptance}
use Rattle.pp_model.specs.declared.event.Event.{Event}
use Rattle.pp_model.specs.Pool.{State, Settings, opening, dirty_pages}
use Rattle.pp_model.specs.Journals.{IsTrueFrom, replay}
use Rattle.pp_model.specs.Turns.{next_turn}
use Rattle.pp_report.specs.Reports.{is_move}
use Rattle.pp_run.specs.declared.error.RunError.{RunError}
use Rattle.pp_run.specs.declared.error.RunError.TheVariants.{Refused, OutOfMemory, Mismatch, Broken, NoThread}
use Rattle.pp_run.specs.declared.judging.Left.{Left}
use Rattle.pp_run.specs.declared.stop.Flushed.{Flushed}
use Rattle.pp_run.specs.declared.stop.Worked.{Worked}
use Rattle.pp_run.specs.Ends.{AllWorkedFrom, FlushedFrom}
use Rattle.pp_run.specs.Runs.{submits}
use Rattle.pp_run.specs.Verdicts.{IsVerdict}

-- What all threads of a run gave back, beside its journal and what is left of its book. The journal is a true one of
-- these plans from this opening state of a life: the submits of all plans, in their order, and then moves. What the threads
-- gave back fits the ends of the device that they began with. What is left is what the journal leads to.
pub record IsJoinedFrom {D : Type 0} (calls failures : D → ℕ) (o : State) (plans : List Acceptance) (devices : List D)
    (worked : List (Worked D)) (f : Flushed D) (events : List Event) (left : Left) : Type 0 where
  pub is_true : IsTrueFrom plans o events
  pub submits_first : take (length plans) events ≡ submits 0 (length plans)
  pub then_moves : list_all is_move (drop (length plans) events) ≡ true
  pub submitted : (replay plans o events).plans ≡ plans
  pub count : length worked ≡ o.settings.workers
  pub workers : AllWorkedFrom calls failures (take o.settings.workers devices) worked
  pub flusher : (d : D) → FlushedFrom calls failures (slice_index_or devices o.settings.workers d) f
  pub over : left.over ≡ is_none (next_turn (replay plans o events))
  pub dirty : left.dirty ≡ dirty_pages (replay plans o events)
  pub flushes : left.flushes ≡ o.settings.flushes

-- The threads gave something back of which this error is the verdict.
pub record IsJudgedFrom {D : Type 0} (calls failures : D → ℕ) (o : State) (plans : List Acceptance) (devices : List D)
    (error : RunError) : Type 0 where
  pub worked : List (Worked D)
  pub flushed : Flushed D
  pub events : List Event
  pub left : Left
  pub joined : IsJoinedFrom calls failures o plans devices worked flushed events left
  pub verdict : IsVerdict worked flushed events left error

-- An error that names a slip, or a log that differs, is the verdict on what the threads gave back. A plan that isn't
-- taken in and a thread that isn't started come before any verdict; and so may want of memory.
abbrev pub IsAnswerFrom : {D : Type 0} → (D → ℕ) → (D → ℕ) → State → List Acceptance → List D → RunError → Type 0
IsAnswerFrom calls failures o plans devices (Refused error) = ⊤
IsAnswerFrom calls failures o plans devices OutOfMemory = ⊤
IsAnswerFrom calls failures o plans devices (NoThread w) = ⊤
IsAnswerFrom calls failures o plans devices (Mismatch w) = IsJudgedFrom calls failures o plans devices (Mismatch w)
IsAnswerFrom calls failures o plans devices (Broken w) = IsJudgedFrom calls failures o plans devices (Broken w)

-- The same of a new pool of these settings.
abbrev pub IsAnswer : {D : Type 0} → (D → ℕ) → (D → ℕ) → Settings → List Acceptance → List D → RunError → Type 0
IsAnswer calls failures k plans devices error = IsAnswerFrom calls failures (opening k) plans devices error
