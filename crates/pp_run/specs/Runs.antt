-- What a run leaves.
use Rattle.std.specs.Prelude.{◌≡◌, ℕ, ◌+◌, ◌<◌, ◌≤◌, ⊤, true, List, [], length, map, take, drop, slice_index_or, Err, IsOk}
use Rattle.std.specs.Coded.{Coded, coded_list}
use Rattle.std.specs.List.{list_all, range_with_len}
use Rattle.pp_settings.specs.declared.span.Span.TheVariants.{Bounded}
use Rattle.pp_cert.specs.Accepted.{Acceptance}
use Rattle.pp_model.specs.declared.event.Event.{Event}
use Rattle.pp_model.specs.declared.event.Event.TheVariants.{Submit}
use Rattle.pp_model.specs.contracts.event.Event.{the_row as event_row}
use Rattle.pp_model.specs.Pool.{State, Settings, opening, dirty_pages}
use Rattle.pp_model.specs.Journals.{IsTrueFrom, replay}
use Rattle.pp_model.specs.Submitting.{after_submits}
use Rattle.pp_model.specs.Turns.{IsUnderWay}
use Rattle.pp_model.specs.WorkerParts.{part_of}
use Rattle.pp_report.specs.declared.record.RunRecord.{RunRecord}
use Rattle.pp_report.specs.Reports.{is_move}
use Rattle.pp_run.specs.declared.error.RunError.{RunError}
use Rattle.pp_run.specs.declared.error.RunError.TheVariants.{Refused, OutOfMemory, Mismatch, Broken, NoThread}
use Rattle.pp_run.specs.Calling.{calls_in, failed_calls_in, ended_flushes_in, failed_flushes_in, begun_flushes_in}

-- ---- the journal

-- The state that the events lead to, from the opening state of the settings.
abbrev pub end_of : Settings → List Acceptance → List Event → State
end_of k plans es = replay plans (opening k) es

-- The submits of so many plans, from one with this number on, in their order.
abbrev pub submits : (first count : ℕ) → List Event
submits first count = map Submit (range_with_len first count)

-- Where two lists of events are the same, they are so in one way.
abbrev pub coded_events : Coded (List Event)
coded_events = coded_list event_row.coded

-- From this opening state of a life on, the events are a true journal of these plans. It begins with the submits of all plans,
-- in their order, and each event behind these is a move. At its end no plan waits or is unfinished, and no flush is in flight.
-- A page is newer than the device's only where all flushes of the settings were begun.
pub record IsRunFrom (o : State) (plans : List Acceptance) (r : RunRecord) : Type 0 where
  pub is_true : IsTrueFrom plans o r.events.items
  pub submits_first : take (length plans) r.events.items ≡ submits 0 (length plans)
  pub then_moves : list_all is_move (drop (length plans) r.events.items) ≡ true
  pub submitted : (replay plans o r.events.items).plans ≡ plans
  pub over : IsUnderWay (replay plans o r.events.items) → ⊥
  pub count : r.plans ≡ length plans
  pub dirty : r.dirty ≡ dirty_pages (replay plans o r.events.items)
  pub flushed : 0 < r.dirty → begun_flushes_in r.events.items ≡ o.settings.flushes

-- The same of a new pool of these settings.
abbrev pub IsRun : Settings → List Acceptance → RunRecord → Type 0
IsRun k plans r = IsRunFrom (opening k) plans r

-- ---- no record

-- All plans are taken in from this opening state, and the number is that of a worker, or of the flusher.
pub record IsOfThread (o : State) (plans : List Acceptance) (w : ℕ) : Type 0 where
  pub taken : IsOk (after_submits o plans)
  pub within : w ≤ o.settings.workers

-- The error is the refusal of the first plan that isn't taken in from this opening state, or it names a thread of the run, or
-- memory ran out.
abbrev pub IsRunErrorFrom : State → List Acceptance → RunError → Type 0
IsRunErrorFrom o plans (Refused error) = after_submits o plans ≡ Err error
IsRunErrorFrom o plans OutOfMemory = ⊤
IsRunErrorFrom o plans (Mismatch w) = IsOfThread o plans w
IsRunErrorFrom o plans (Broken w) = IsOfThread o plans w
IsRunErrorFrom o plans (NoThread w) = IsOfThread o plans w

-- The same of a new pool of these settings.
abbrev pub IsRunError : Settings → List Acceptance → RunError → Type 0
IsRunError k plans error = IsRunErrorFrom (opening k) plans error

-- ---- the devices

-- The device has so many more calls, and so many more failures.
pub record HasCalled {D : Type 0} (calls failures : D → ℕ) (old : D) (more more_failed : ℕ) (new : D) : Type 0 where
  pub called : calls new ≡ calls old + more
  pub failed : failures new ≡ failures old + more_failed

-- The end of each worker has made the calls that its part of the journal tells of; the last end those for the flushes.
pub record AllCalled {D : Type 0} (calls failures : D → ℕ) (workers : ℕ) (devices : List D) (events : List Event)
    (back : List D) : Type 0 where
  pub count : length back ≡ length devices
  pub each : (w : ℕ) (d e : D) → w < workers
      → HasCalled calls failures (slice_index_or devices w d) (calls_in (part_of w events))
      (failed_calls_in (part_of w events)) (slice_index_or back w e)
  pub last : (d e : D)
      → HasCalled calls failures (slice_index_or devices workers d) (ended_flushes_in events) (failed_flushes_in events)
      (slice_index_or back workers e)

-- Settings of no pool, which stand where no run has picked its own.
abbrev pub no_settings : Settings
no_settings = record { layout = record { frames = 0; extents = [] }; workers = 0; flushes = 0; span = Bounded }
