-- Plans that are looked at before they are submitted.
use Rattle.std.specs.Prelude.{◌≡◌, ◌≤◌, ◌+◌, ℕ, Err, IsOk, List, length, map, sum_by}
use Rattle.pp_settings.specs.Layout.{Geometry}
use Rattle.pp_settings.specs.declared.span.Span.TheVariants.{Bounded}
use Rattle.pp_cert.specs.Accepted.{Acceptance}
use Rattle.pp_model.specs.declared.refusals.SubmitError.{SubmitError}
use Rattle.pp_model.specs.Pool.{State}
use Rattle.pp_model.specs.Budget.{bound, cost_of, journal_need}
use Rattle.pp_model.specs.Submitting.{after_submits}
use Rattle.pp_pool.specs.Parts.{Parts, state_of}

-- The plans that are handed over with works.
abbrev pub plans_in : {W : Type 0} → List (Acceptance × W) → List Acceptance
plans_in asked = map (λ q. q.0) asked

-- A state of a pool with this layout, whose life is bounded, to which so many plans were submitted, for which its journal needs so
-- many events besides the submits.
pub record HasPlanned (geometry : Geometry) (count need : ℕ) (s : State) : Type 0 where
  pub layout : s.settings.layout ≡ geometry
  pub span : s.settings.span ≡ Bounded
  pub plans : length s.plans ≡ count
  pub events : journal_need s.settings s.plans ≡ need

-- Each of these plans is taken in from such a state, and together they cost what is added to the need.
pub record AreTakenIn (geometry : Geometry) (count need : ℕ) (plans : List Acceptance) (all : ℕ) : Type 0 where
  pub taken : (s : State) → HasPlanned geometry count need s → IsOk (after_submits s plans)
  pub cost : all ≡ need + sum_by cost_of plans

-- One of these plans isn't taken in from such a state, and the first such is refused so.
abbrev pub AreRefused : Geometry → (count need : ℕ) → List Acceptance → SubmitError → Type 0
AreRefused geometry count need plans error =
    (s : State) → HasPlanned geometry count need s → after_submits s plans ≡ Err error

-- The journal of this book has memory for every event that can still come, and for so many more.
abbrev pub HasRoomFor : Parts → (more : ℕ) → Type 0
HasRoomFor b more = length b.journal + (bound (state_of b) + more) ≤ b.capacity
