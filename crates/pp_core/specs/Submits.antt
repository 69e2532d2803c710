-- What submitting a plan does to what a core keeps.
use Rattle.std.specs.Prelude.{◌≡◌, ◌≢◌, ◌⊎◌, ℕ, ◌+◌, ◌^◌, ◌≤◌, ◌<◌, nat_le, nat_lt, true, false, Option, None, Some, [], ◌∷◌, ◌++◌}
use Rattle.std.specs.Prelude.{length, slice_get}
use Rattle.pp_settings.specs.declared.span.Span.TheVariants.{Bounded}
use Rattle.pp_cert.specs.Accepted.{Acceptance}
use Rattle.pp_cert.specs.Walk.{same_layout}
use Rattle.pp_model.specs.declared.refusals.SubmitError.{SubmitError}
use Rattle.pp_model.specs.declared.refusals.SubmitError.TheVariants.{NotPrepared}
use Rattle.pp_model.specs.Pool.{State}
use Rattle.pp_model.specs.Budget.{cost_of}
use Rattle.pp_model.specs.Submitting.{counted_plans, plan_limit, most_events, error_where, submit_error}
use Rattle.pp_model.specs.Submitting.{after_submit}
use Rattle.pp_core.specs.declared.error.PrepareError.{PrepareError}
use Rattle.pp_core.specs.declared.error.PrepareError.TheVariants.{OtherSettings, TooManyPrepared}
use Rattle.pp_core.specs.Limits.{most_kept}
use Rattle.pp_core.specs.Parts.{Parts}
use Rattle.pp_core.specs.StandsFor.{StandsFor}

-- Why the plan isn't taken in, by what is kept; None where it is.
abbrev pub submit_fault : Parts → Acceptance → Option SubmitError
submit_fault f a =
    error_where (same_layout f.layout a.plan.layout)
    (nat_le (plan_limit f.span) (counted_plans f.span (f.taken + length f.waiting) f.taken))
    (nat_lt (most_events f.span) (f.need + cost_of a))

-- There is room for one plan more that waits, and the numbers have room for its cost.
pub record CanAdd (f : Parts) (a : Acceptance) : Type 0 where
  pub few : length f.waiting < plan_limit f.span
  pub need : f.need + cost_of a ≤ 2 ^ 61
  pub budget : f.budget ≤ f.need

-- The plan at this place waits behind the others.
abbrev pub with_waiting : Parts → (place : ℕ) → Acceptance → Parts
with_waiting f place a =
    record f { waiting = f.waiting ++ place ∷ []; need = f.need + cost_of a; budget = f.budget + cost_of a }

-- One plan more is kept.
abbrev pub with_kept : Parts → Acceptance → Parts
with_kept f a = record f { plans = f.plans ++ a ∷ [] }

-- It is kept, and waits behind the others.
abbrev pub with_plan : Parts → Acceptance → Parts
with_plan f a = with_waiting (with_kept f a) (length f.plans) a

-- In a bounded life: the plan is kept and waits behind the others, and the bound rises by its cost. From every state that the
-- old parts stand for, the plan is taken in, under the number of plans before it, and the new parts stand for the state that
-- follows.
pub record TakesIn (old : Parts) (a : Acceptance) (number : ℕ) (new : Parts) : Type 0 where
  pub bounded : old.span ≡ Bounded
  pub allowed : (s : State) → StandsFor old s → submit_error s a ≡ None
  pub numbered : (s : State) → StandsFor old s → number ≡ length s.plans
  pub stands : (s : State) → StandsFor old s → StandsFor new (after_submit s a)
  pub parts : new ≡ with_plan old a

-- The same of a prepared plan, in an endless life: it stands at this place, and the plans that are kept stay.
pub record TakesPrepared (old : Parts) (place number : ℕ) (a : Acceptance) (new : Parts) : Type 0 where
  pub endless : old.span ≢ Bounded
  pub plan : slice_get old.plans place ≡ Some a
  pub allowed : (s : State) → StandsFor old s → submit_error s a ≡ None
  pub numbered : (s : State) → StandsFor old s → number ≡ length s.plans
  pub stands : (s : State) → StandsFor old s → StandsFor new (after_submit s a)
  pub parts : new ≡ with_waiting old place a

-- A plan is prepared, in an endless life: it is of the core's layout, it is kept, at the place behind the others, and nothing
-- else has changed.
pub record Prepares (old : Parts) (a : Acceptance) (at : ℕ) (new : Parts) : Type 0 where
  pub endless : old.span ≢ Bounded
  pub same : same_layout old.layout a.plan.layout ≡ true
  pub few : length old.plans < most_kept old.span
  pub place : at ≡ length old.plans
  pub stands : (s : State) → StandsFor old s → StandsFor new s
  pub parts : new ≡ with_kept old a

-- ---- refusals

-- The plan isn't taken in: the life is endless, where only prepared plans are submitted, or else the model refuses it so.
abbrev pub SubmitFails : Parts → Acceptance → SubmitError → Type 0
SubmitFails f a NotPrepared = f.span ≢ Bounded
SubmitFails f a error = (f.span ≡ Bounded) × ((s : State) → StandsFor f s → submit_error s a ≡ Some error)

-- No plan is taken in: none stands at the place, or the life is bounded; or the plan there is one that the model refuses so.
abbrev pub PreparedFails : Parts → (place : ℕ) → SubmitError → Type 0
PreparedFails f place NotPrepared = (f.span ≡ Bounded) ⊎ (slice_get f.plans place ≡ None)
PreparedFails f place error =
    (f.span ≢ Bounded) × (a : Acceptance) × (slice_get f.plans place ≡ Some a)
    × ((s : State) → StandsFor f s → submit_error s a ≡ Some error)

-- The plan isn't kept: it was accepted under another layout, or else as many are kept as may be, or the life is bounded.
abbrev pub PrepareFails : Parts → Acceptance → PrepareError → Type 0
PrepareFails f a OtherSettings = same_layout f.layout a.plan.layout ≡ false
PrepareFails f a TooManyPrepared =
    (same_layout f.layout a.plan.layout ≡ true) × ((f.span ≡ Bounded) ⊎ (most_kept f.span ≤ length f.plans))
