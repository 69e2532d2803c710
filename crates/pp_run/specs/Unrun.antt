-- What is left where a run over a kept pool gives no record.
use Rattle.std.specs.Prelude.{◌≡◌, ◌≢◌, ⊤, ℕ, true, None, Err, IsOk, List, length, take, drop}
use Rattle.std.specs.List.{list_all}
use Rattle.pp_cert.specs.Accepted.{Acceptance}
use Rattle.pp_model.specs.Pool.{State, dirty_pages}
use Rattle.pp_model.specs.Renewing.{renew_error}
use Rattle.pp_model.specs.Submitting.{after_submits}
use Rattle.pp_pool.specs.Parts.{Parts, plans_of}
use Rattle.pp_pool.specs.Parts as parts
use Rattle.pp_report.specs.Reports.{is_move}
use Rattle.pp_run.specs.declared.error.RunError.{RunError}
use Rattle.pp_run.specs.declared.error.RunError.TheVariants.{Refused, OutOfMemory, Broken}
use Rattle.pp_run.specs.declared.stalled.Stalled.{Stalled}
use Rattle.pp_run.specs.declared.unrun.Unbegun.{Unbegun}
use Rattle.pp_run.specs.declared.unrun.Unrun.{Unrun}
use Rattle.pp_run.specs.declared.unrun.Unrun.TheVariants as unrun
use Rattle.pp_run.specs.Rested.{Rested, opening_of, IsNotRenewed}
use Rattle.pp_run.specs.Runs.{submits}

-- ---- nothing was done

-- The pool, the plans, the devices and the works are as they were handed over.
pub record IsAsBefore {D W : Type 0} (p : Rested) (plans : List Acceptance) (devices : List D) (works : List W)
    (u : Unbegun D W) : Type 0 where
  pub pool_back : u.pool ≡ p
  pub plans_back : u.plans.items ≡ plans
  pub devices_back : u.devices.items ≡ devices
  pub works_back : u.works.items ≡ works

-- Why a run of these plans isn't begun from this opening state: the first plan that isn't taken in is refused so. Or all are
-- taken in, and memory ran out; or a mark is too high for a life to begin, which is told by the flusher's number.
abbrev pub IsNotBegun : State → List Acceptance → RunError → Type 0
IsNotBegun o plans (Refused error) = after_submits o plans ≡ Err error
IsNotBegun o plans OutOfMemory = IsOk (after_submits o plans)
IsNotBegun o plans (Broken w) =
    (w ≡ o.settings.workers) × (renew_error o ≢ None) × IsOk (after_submits o plans)
IsNotBegun o plans _ = ⊥

-- Why no life begins from this opening state, where its plans are taken in: memory ran out, or a mark is too high, which is told by
-- the flusher's number.
abbrev pub MayNotBegin : State → RunError → Type 0
MayNotBegin o OutOfMemory = ⊤
MayNotBegin o (Broken w) = (w ≡ o.settings.workers) × (renew_error o ≢ None)
MayNotBegin o _ = ⊥

-- A book in whose life nothing was done can't be renewed, which is told by the flusher's number; its journal lacks no room.
abbrev pub IsUnready : Parts → RunError → Type 0
IsUnready b (Broken w) = (w ≡ b.workers) × (renew_error (parts.state_of b) ≢ None)
IsUnready b _ = ⊥

-- ---- a run that stopped

-- What is left has the book of a life that began in this state. All these plans were submitted in their order, before anything
-- else, and each event behind that is a move. Regions lie where they lay, a page has as many bytes, and the number that is kept for
-- its first flush is the pool's.
pub record IsStopped (o : State) (bytes sought : ℕ) (plans : List Acceptance) (s : Stalled) : Type 0 where
  pub opened : parts.opening_of s.book ≡ o
  pub planned : plans_of s.book ≡ plans
  pub submits_first : take (length plans) s.book.journal ≡ submits 0 (length plans)
  pub then_moves : list_all is_move (drop (length plans) s.book.journal) ≡ true
  pub layout : s.layout ≡ o.settings.layout
  pub page_bytes : s.page_bytes ≡ bytes
  pub from : s.from ≡ sought

-- A plan that isn't taken in is found before anything is done; so it isn't why a run stops.
abbrev pub MayStop : RunError → Type 0
MayStop (Refused error) = ⊥
MayStop _ = ⊤

-- ---- either

-- What is left of a run of these plans over this pool, with these devices and works, that gives this error.
abbrev pub IsLeftOf : {D W : Type 0} → Rested → List Acceptance → List D → List W → RunError → Unrun D W → Type 0
IsLeftOf p plans devices works error (unrun.Unbegun u) =
    IsAsBefore p plans devices works u × IsNotBegun (opening_of p) plans error
IsLeftOf p plans devices works error (unrun.Stalled s) =
    IsStopped (opening_of p) p.page_bytes p.from plans s × MayStop error

-- The run came to its end, and the pool that it leaves can't be renewed; or it couldn't be renewed before.
abbrev pub IsUnrenewedIn : {D W : Type 0} → State → List Acceptance → RunError → Unrun D W → Type 0
IsUnrenewedIn o plans error (unrun.Unbegun u) = IsNotBegun o plans error
IsUnrenewedIn o plans error (unrun.Stalled s) = IsNotRenewed o plans s.book s.hands error

-- How many pages of what is left are newer than the device's.
abbrev pub dirty_left : {D W : Type 0} → Unrun D W → ℕ
dirty_left (unrun.Unbegun u) = dirty_pages (opening_of u.pool)
dirty_left (unrun.Stalled s) = dirty_pages (parts.state_of s.book)
