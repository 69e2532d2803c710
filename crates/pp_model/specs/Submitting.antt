-- Submitting plans: each waits behind the others, or is refused.
use Rattle.std.specs.Prelude.{ℕ, ◌+◌, ◌-◌, Bool, true, false, nat_le, nat_lt, Option, None, Some, Result, Ok, Err}
use Rattle.std.specs.Prelude.{List, [], ◌∷◌, ◌++◌, length}
use Rattle.pp_settings.specs.Limits.{most_plans, most_bounded_events, most_endless_events}
use Rattle.pp_settings.specs.declared.span.Span.{Span}
use Rattle.pp_settings.specs.declared.span.Span.TheVariants.{Bounded, Endless}
use Rattle.pp_cert.specs.Accepted.{Acceptance}
use Rattle.pp_cert.specs.Walk.{same_layout}
use Rattle.pp_model.specs.declared.refusals.SubmitError.{SubmitError}
use Rattle.pp_model.specs.declared.refusals.SubmitError.TheVariants.{OtherSettings, TooManyPlans, JournalLimit}
use Rattle.pp_model.specs.Pool.{State}
use Rattle.pp_model.specs.Budget.{cost_of, journal_need}
use Rattle.pp_text.specs.Steps.{◌>>=◌}

-- How many plans count: all that were submitted in a bounded life, and those that wait in an endless one.
abbrev pub counted_plans : Span → (submitted taken : ℕ) → ℕ
counted_plans Bounded submitted taken = submitted
counted_plans (Endless waiting) submitted taken = submitted - taken

-- The most plans that may count.
abbrev pub plan_limit : Span → ℕ
plan_limit Bounded = most_plans
plan_limit (Endless waiting) = waiting

-- The most events besides submits that a life may have.
abbrev pub most_events : Span → ℕ
most_events Bounded = most_bounded_events
most_events (Endless waiting) = most_endless_events

-- Whether the plan is one of this layout, whether as many plans count as may, and whether the journal would be too long.
abbrev pub error_where : (same many long : Bool) → Option SubmitError
error_where false many long = Some OtherSettings
error_where true true long = Some TooManyPlans
error_where true false true = Some JournalLimit
error_where true false false = None

-- Why a plan isn't taken in; None where it is.
abbrev pub submit_error : State → Acceptance → Option SubmitError
submit_error s a =
    error_where (same_layout s.settings.layout a.plan.layout)
    (nat_le (plan_limit s.settings.span) (counted_plans s.settings.span (length s.plans) s.taken))
    (nat_lt (most_events s.settings.span) (journal_need s.settings s.plans + cost_of a))

-- The plan waits behind the others.
abbrev pub submitted : State → Acceptance → State
submitted s a = record s { plans = s.plans ++ a ∷ [] }

-- A plan that is refused leaves the state.
abbrev pub submitted_unless : Option SubmitError → State → Acceptance → State
submitted_unless None s a = submitted s a
submitted_unless (Some error) s a = s

abbrev pub after_submit : State → Acceptance → State
after_submit s a = submitted_unless (submit_error s a) s a

-- The state after, where there is no refusal.
abbrev pub unless_refused : Option SubmitError → State → Result State SubmitError
unless_refused None after = Ok after
unless_refused (Some error) after = Err error

-- The state after the plans were submitted in their order, or the refusal of the first that isn't taken in.
abbrev pub after_submits : State → List Acceptance → Result State SubmitError
after_submits s [] = Ok s
after_submits s (plan ∷ plans) =
    unless_refused (submit_error s plan) (submitted s plan) >>= λ after. after_submits after plans
