-- Journals: their replay, and which of them are true. A journal goes with the list of plans that were submitted, and
-- `Submit k` is about the plan of number k.
use Rattle.std.specs.Prelude.{◌≡◌, ℕ, Option, None, Some, List, [], ◌∷◌, length, slice_get}
use Rattle.pp_cert.specs.Accepted.{Acceptance}
use Rattle.pp_model.specs.declared.event.Event.{Event}
use Rattle.pp_model.specs.declared.event.Event.TheVariants.{Submit, Step}
use Rattle.pp_model.specs.Pool.{State, opening}
use Rattle.pp_model.specs.Moves.{reply_of, next_of, IsPossible}
use Rattle.pp_model.specs.Submitting.{submit_error, after_submit}

-- ---- replay

abbrev pub after_plan : State → Option Acceptance → State
after_plan s None = s
after_plan s (Some a) = after_submit s a

abbrev pub after_event : List Acceptance → State → Event → State
after_event plans s (Submit k) = after_plan s (slice_get plans k)
after_event plans s (Step m reply) = next_of s m

-- The events in order, from this state on.
abbrev pub replay : List Acceptance → State → List Event → State
replay plans s [] = s
replay plans s (e ∷ es) = replay plans (after_event plans s e) es

-- ---- true journals

-- The plan of this number is the next to be submitted, and isn't refused.
pub record IsNextPlan (plans : List Acceptance) (s : State) (k : ℕ) : Type 0 where
  pub next : k ≡ length s.plans
  pub plan : Acceptance
  pub named : slice_get plans k ≡ Some plan
  pub taken_in : submit_error s plan ≡ None

-- The event can happen in the state, and the reply is the one that is given there.
abbrev pub IsTrueAt : List Acceptance → State → Event → Type 0
IsTrueAt plans s (Submit k) = IsNextPlan plans s k
IsTrueAt plans s (Step m reply) = IsPossible s m × (reply ≡ reply_of s m)

-- Each event is true in the state that those before it lead to.
abbrev pub IsTrueFrom : List Acceptance → State → List Event → Type 0
IsTrueFrom plans s [] = Unit {0}
IsTrueFrom plans s (e ∷ es) = IsTrueAt plans s e × IsTrueFrom plans (after_event plans s e) es

-- The events are a true journal of the state from the state o on: from there, and of its plans, they lead to it.
pub record IsJournalFrom (o s : State) (es : List Event) : Type 0 where
  pub is_true : IsTrueFrom s.plans o es
  pub leads_here : replay s.plans o es ≡ s

-- They are a true journal of the state: from the opening state of its settings on.
abbrev pub IsJournalOf : State → List Event → Type 0
IsJournalOf s es = IsJournalFrom (opening s.settings) s es
