-- What submitting a plan does to a vault.
use Rattle.std.specs.Prelude.{◌≡◌, ◌≢◌, ℕ, None, Some, length}
use Rattle.pp_settings.specs.declared.span.Span.TheVariants.{Bounded}
use Rattle.pp_cert.specs.Accepted.{Acceptance}
use Rattle.pp_model.specs.declared.refusals.SubmitError.{SubmitError}
use Rattle.pp_model.specs.declared.refusals.SubmitError.TheVariants.{NotPrepared}
use Rattle.pp_model.specs.Pool.{State}
use Rattle.pp_model.specs.Submitting.{submit_error, after_submit}
use Rattle.pp_core.specs.Submits as core
use Rattle.pp_vault.specs.Parts.{Parts}
use Rattle.pp_vault.specs.StandsFor.{StandsFor}

-- From every state that the old parts stand for, the plan is taken in, under the number of plans before it, and the new
-- parts stand for the state that follows. Nothing but the core has changed.
pub record TakesIn (old : Parts) (a : Acceptance) (number : ℕ) (new : Parts) : Type 0 where
  pub allowed : (s : State) → StandsFor old s → submit_error s a ≡ None
  pub numbered : (s : State) → StandsFor old s → number ≡ length s.plans
  pub stands : (s : State) → StandsFor old s → StandsFor new (after_submit s a)
  pub rest : new ≡ record old { core = new.core }

-- The plan isn't taken in: the life is endless, where only prepared plans are submitted, or else the model refuses it so.
abbrev pub SubmitFails : Parts → Acceptance → SubmitError → Type 0
SubmitFails v a NotPrepared = v.core.span ≢ Bounded
SubmitFails v a error = (v.core.span ≡ Bounded) × ((s : State) → StandsFor v s → submit_error s a ≡ Some error)

-- A prepared plan is taken in, by the core and so by the vault.
pub record TakesPrepared (old : Parts) (place number : ℕ) (a : Acceptance) (new : Parts) : Type 0 where
  pub core : core.TakesPrepared old.core place number a new.core
  pub takes : TakesIn old a number new

-- A plan is prepared by the core. The vault stands for all states that it stood for, and nothing but the core has changed.
pub record Prepares (old : Parts) (a : Acceptance) (place : ℕ) (new : Parts) : Type 0 where
  pub core : core.Prepares old.core a place new.core
  pub stands : (s : State) → StandsFor old s → StandsFor new s
  pub rest : new ≡ record old { core = new.core }
