-- What the limits of a life say, by how long it may last.
use Rattle.std.proofs.Common.{◌≡◌, ℕ, ◌+◌, ◌*◌, ◌^◌, ◌≤◌, ◌<◌, List, [], ◌∷◌, length, arith}
use Rattle.std.specs.Prelude.{sum_by}
use Rattle.std.proofs.lemmas.List.Sums.{sum_by-cons}
use Rattle.pp_settings.specs.declared.span.Span.{Span}
use Rattle.pp_settings.specs.declared.span.Span.TheVariants.{Bounded, Endless}
use Rattle.pp_settings.specs.Spans.{flush_limit}
use Rattle.pp_cert.specs.Accepted.{Acceptance}
use Rattle.pp_model.specs.Budget.{cost_of}
use Rattle.pp_model.specs.Submitting.{counted_plans, plan_limit, most_events}

-- The most events of any life.
pub events_small : (k : Span) → most_events k ≤ 2 ^ 61
events_small Bounded = omega arith
events_small (Endless waiting) = omega arith

-- The flushes fit the journal.
pub flushes_fit : (k : Span) (n : ℕ) → n ≤ flush_limit k → 2 * n ≤ most_events k
flushes_fit Bounded n le = omega (arith, le)
flushes_fit (Endless waiting) n le = omega (arith, le)

-- The flushes of any life.
pub flushes_small : (k : Span) (n : ℕ) → n ≤ flush_limit k → n ≤ 2 ^ 59
flushes_small Bounded n le = omega (arith, le)
flushes_small (Endless waiting) n le = omega (arith, le)

-- No more plans count where more were taken.
pub fewer_count : (k : Span) (n i j : ℕ) → i ≤ j → counted_plans k n j ≤ counted_plans k n i
fewer_count Bounded n i j le = omega arith
fewer_count (Endless waiting) n i j le = omega (arith, le)

-- One plan more is within the limit where fewer counted.
pub one_more : (k : Span) (n i : ℕ) → counted_plans k n i < plan_limit k → counted_plans k (n + 1) i ≤ plan_limit k
one_more Bounded n i lt = omega (arith, lt)
one_more (Endless waiting) n i lt = omega (arith, lt)

-- With no plan none counts.
pub none_count : (k : Span) → counted_plans k 0 0 ≤ plan_limit k
none_count Bounded = omega arith
none_count (Endless waiting) = omega arith

-- There are at most as many plans as events that they may cost.
pub costs_count : (ps : List Acceptance) → length ps ≤ sum_by cost_of ps
costs_count [] = omega arith
costs_count (a ∷ ps) = omega (arith, costs_count ps, sum_by-cons cost_of a ps)

-- Those that wait count.
pub waits_count : (k : Span) (n m : ℕ) → m ≤ counted_plans k (n + m) n
waits_count Bounded n m = omega arith
waits_count (Endless waiting) n m = omega arith

-- Where fewer count than may in a bounded life, there are fewer than 256.
pub bounded_count : (k : Span) (n i : ℕ) → k ≡ Bounded → counted_plans k n i < plan_limit k → n < 256
bounded_count Bounded n i e lt = omega (arith, lt)
bounded_count (Endless waiting) n i e lt = cc
