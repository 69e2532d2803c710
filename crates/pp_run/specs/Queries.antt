-- What is left where a run of queries over a kept pool gives no record.
use Rattle.std.specs.Prelude.{◌≡◌, ℕ, List, length}
use Rattle.pp_cert.specs.Accepted.{Acceptance}
use Rattle.pp_model.specs.Pool.{State, dirty_pages}
use Rattle.pp_pool.specs.Parts as parts
use Rattle.pp_run.specs.declared.error.RunError.{RunError}
use Rattle.pp_run.specs.declared.queries.UnbegunQueries.{UnbegunQueries}
use Rattle.pp_run.specs.declared.queries.UnrunQueries.{UnrunQueries}
use Rattle.pp_run.specs.declared.queries.UnrunQueries.TheVariants as unrun_queries
use Rattle.pp_run.specs.Planned.{plans_in}
use Rattle.pp_run.specs.Rested.{Rested, opening_of, IsNotRenewed}
use Rattle.pp_run.specs.Unrun.{IsNotBegun, IsStopped, MayStop}

-- The pool, the plans with their works, and the devices are as they were handed over.
pub record AreAsBefore {D W : Type 0} (p : Rested) (asked : List (Acceptance × W)) (devices : List D)
    (u : UnbegunQueries D W) : Type 0 where
  pub pool_back : u.pool ≡ p
  pub plans_back : u.plans.items ≡ asked
  pub devices_back : u.devices.items ≡ devices

-- What is left of a run of these plans with these works over this pool, with these devices, that gives this error. Where it was
-- begun, there are as many works as plans.
abbrev pub IsLeftOfQueries : {D W : Type 0} → Rested → List (Acceptance × W) → List D → RunError → UnrunQueries D W → Type 0
IsLeftOfQueries p asked devices error (unrun_queries.Unbegun u) =
    AreAsBefore p asked devices u × IsNotBegun (opening_of p) (plans_in asked) error
IsLeftOfQueries p asked devices error (unrun_queries.Stalled s) =
    IsStopped (opening_of p) p.page_bytes p.from (plans_in asked) s.stalled × MayStop error
    × (length s.queries.items ≡ length asked)

-- The run came to its end, and the pool that it leaves can't be renewed; or it couldn't be renewed before.
abbrev pub IsUnrenewedQueries : {D W : Type 0} → State → List Acceptance → RunError → UnrunQueries D W → Type 0
IsUnrenewedQueries o plans error (unrun_queries.Unbegun u) = IsNotBegun o plans error
IsUnrenewedQueries o plans error (unrun_queries.Stalled s) = IsNotRenewed o plans s.stalled.book s.stalled.hands error

-- How many pages of what is left are newer than the device's.
abbrev pub dirty_left_of_queries : {D W : Type 0} → UnrunQueries D W → ℕ
dirty_left_of_queries (unrun_queries.Unbegun u) = dirty_pages (opening_of u.pool)
dirty_left_of_queries (unrun_queries.Stalled s) = dirty_pages (parts.state_of s.stalled.book)
