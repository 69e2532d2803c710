-- What submitting a plan does to a book.
use Rattle.std.specs.Prelude.{◌≡◌, ◌≤◌, ◌<◌, ◌+◌, ℕ, None, Some, [], ◌∷◌, ◌++◌, length}
use Rattle.pp_cert.specs.Accepted.{Acceptance}
use Rattle.pp_model.specs.declared.event.Event.TheVariants.{Submit}
use Rattle.pp_model.specs.Budget.{cost_of, bound}
use Rattle.pp_settings.specs.Limits.{most_plans}
use Rattle.pp_model.specs.Submitting.{submit_error, submitted}
use Rattle.pp_vault.specs.Submits as vault
use Rattle.pp_pool.specs.declared.error.BookError.{BookError}
use Rattle.pp_pool.specs.declared.error.BookError.TheVariants.{OutOfMemory, Refused}
use Rattle.pp_pool.specs.Parts.{Parts, settings_of, plans_of, state_of}

-- The plan is taken in under the number of plans before it, which is less than the most that a bounded life takes in. It waits
-- behind the others, and the journal grows by its number.
pub record TakesIn (old : Parts) (a : Acceptance) (number : ℕ) (new : Parts) : Type 0 where
  pub allowed : submit_error (state_of old) a ≡ None
  pub numbered : number ≡ length (plans_of old)
  pub journal : new.journal ≡ old.journal ++ Submit number ∷ []
  pub plans : plans_of new ≡ plans_of old ++ a ∷ []
  pub settings : settings_of new ≡ settings_of old
  pub outset : new.began ≡ old.began
  pub state : state_of new ≡ submitted (state_of old) a
  pub few : number < most_plans
  pub vault : vault.TakesIn old.vault a number new.vault

-- The journal has memory for a plan's number, and for every event that can still come where the plan costs so much.
abbrev pub HasRoom : Parts → (cost : ℕ) → Type 0
HasRoom b cost = length b.journal + (bound (state_of b) + cost + 1) ≤ b.capacity

-- The journal has no memory for all of them.
abbrev pub LacksRoom : Parts → (cost : ℕ) → Type 0
LacksRoom b cost = b.capacity < length b.journal + (bound (state_of b) + cost + 1)

-- The plan isn't taken in: the model refuses it so, or the journal lacks the memory for it.
abbrev pub IsCause : Parts → Acceptance → BookError → Type 0
IsCause b a OutOfMemory = LacksRoom b (cost_of a)
IsCause b a (Refused error) = submit_error (state_of b) a ≡ Some error

-- Where the model refuses a plan, there was room for it first: the want of memory comes before each refusal.
abbrev pub HadRoom : Parts → Acceptance → BookError → Type 0
HadRoom b a OutOfMemory = Unit {0}
HadRoom b a (Refused error) = HasRoom b (cost_of a)
