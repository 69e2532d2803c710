-- Sums over the plans: the peaks of those that run, and the bound on the moves that are left.
use Rattle.std.specs.Prelude.{ℕ, ◌+◌, ◌*◌, ◌-◌, Option, None, Some, List, length, sum_by}
use Rattle.pp_settings.specs.Limits.{most_slots, step_events, plan_events}
use Rattle.pp_cert.specs.Accepted.{Acceptance}
use Rattle.pp_model.specs.Pool.{Stage, acting, writing, reading, leaving, Running, Flush, State, Settings, waiting}
use Rattle.pp_model.specs.Holders.{holdings, held_slots}

-- ---- room

-- A worker keeps its plan's peak from Take to Finish, also while it leaves.
abbrev pub peak_of : Option Running → ℕ
peak_of None = 0
peak_of (Some r) = r.accepted.peak

-- The peaks of all workers that aren't idle, together.
abbrev pub running_peaks : State → ℕ
running_peaks s = sum_by peak_of s.seats

-- ---- the bound

-- The most moves that a worker makes for this plan.
abbrev pub cost_of : Acceptance → ℕ
cost_of a = step_events * a.steps + plan_events

-- What a worker that acts may need besides its actions: an unwind for each slot, and the finish.
abbrev pub spare_acting : ℕ
spare_acting = 33

-- While its victim is written one move of the action was made, and while its page is read another.
abbrev pub spare_writing : ℕ
spare_writing = 32

abbrev pub spare_reading : ℕ
spare_reading = 31

-- The most moves that a worker still makes, where so many of its plan's actions are left and it holds so many slots.
abbrev pub left_in : Stage → (actions slots : ℕ) → ℕ
left_in acting actions slots = step_events * actions + spare_acting
left_in (writing slot page victim) actions slots = step_events * actions + spare_writing
left_in (reading slot page) actions slots = step_events * actions + spare_reading
left_in (leaving given) actions slots = slots + 1

abbrev pub left_to : Option Running → ℕ
left_to None = 0
left_to (Some r) = left_in r.stage (r.accepted.steps - length r.done) (held_slots most_slots (holdings r))

-- The end of a flush in flight.
abbrev pub left_to_flush : Option Flush → ℕ
left_to_flush None = 0
left_to_flush (Some f) = 1

-- The bound on the moves that are left: of the plans that wait, of the workers, of the flushes that may still begin,
-- each with its end, and of the one in flight.
abbrev pub bound : State → ℕ
bound s = sum_by cost_of (waiting s) + sum_by left_to s.seats + 2 * s.flushes_left + left_to_flush s.flush

-- The most events that a journal has besides submits, where these plans are submitted.
abbrev pub journal_need : Settings → List Acceptance → ℕ
journal_need k plans = sum_by cost_of plans + 2 * k.flushes
