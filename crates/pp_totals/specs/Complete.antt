-- That totals leave no plan out.
use Rattle.std.specs.Prelude.{◌≡◌, ℕ, ◌+◌, Bool, true, false, not, Option, None, Some, List, [], length, map, count_by}
use Rattle.pp_model.specs.declared.reply.Ending.{Ending}
use Rattle.pp_model.specs.declared.reply.Ending.TheVariants.{Done, Gone}
use Rattle.pp_model.specs.Pool.{Running, State, waiting}
use Rattle.pp_model.specs.Segments.{Segment}
use Rattle.pp_totals.specs.declared.totals.Totals.{Totals}
use Rattle.pp_totals.specs.Counting.{totals_of, sum_of}

-- ---- what a state tells of its plans

-- Whether a worker is with a plan.
abbrev pub has_plan : Option Running → Bool
has_plan None = false
has_plan (Some r) = true

-- How many workers are with a plan.
abbrev pub busy : State → ℕ
busy s = count_by has_plan s.seats

-- Whether this is the end of a plan that was done.
abbrev pub is_whole : Ending → Bool
is_whole Done = true
is_whole Gone = false

-- How many plans were done to their end, and how many were left before it.
abbrev pub done_plans : State → ℕ
done_plans s = count_by (λ f. is_whole f.ending) s.finished

abbrev pub gone_plans : State → ℕ
gone_plans s = count_by (λ f. not (is_whole f.ending)) s.finished

-- ---- between two states

-- These totals are what leads from the one state to the other.
pub record AreComplete (o t : State) (x : Totals) : Type 0 where
  -- so many plans more were submitted, taken, done and left
  pub submitted : length t.plans ≡ length o.plans + x.submitted
  pub taken : t.taken ≡ o.taken + x.taken
  pub done : done_plans t ≡ done_plans o + x.done
  pub gone : gone_plans t ≡ gone_plans o + x.gone
  -- each plan that was with a worker or was taken was done, is gone, or is with a worker
  pub with_workers : busy o + x.taken ≡ x.done + x.gone + busy t

-- The sum of the totals of the segments.
abbrev pub segment_totals : List Segment → Totals
segment_totals xs = sum_of (map (λ x. totals_of x.events) xs)

-- ---- from the begin of a life on

-- A life begins in this state: no plan was submitted or taken in it, and no worker is with one.
pub record BeginsALife (o : State) : Type 0 where
  pub plans : o.plans ≡ []
  pub taken : o.taken ≡ 0
  pub idle : busy o ≡ 0

-- Each plan that was submitted was taken or waits, and each that was taken was done, is gone or is with a worker.
pub record AreAccounted (t : State) (x : Totals) : Type 0 where
  pub submitted : x.submitted ≡ x.taken + length (waiting t)
  pub taken : x.taken ≡ x.done + x.gone + busy t

-- Each plan that was submitted was taken, and was done or is gone.
pub record AllAreEnded (x : Totals) : Type 0 where
  pub taken : x.submitted ≡ x.taken
  pub ended : x.taken ≡ x.done + x.gone
