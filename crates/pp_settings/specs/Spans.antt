-- How long a life of a pool may last: what goes by it, and how a text says it.
use Rattle.std.specs.Prelude.{ℕ, ◌≤◌, ◌==◌, Bool, true, false, if◌then◌else◌}
use Rattle.pp_settings.specs.declared.span.Span.{Span}
use Rattle.pp_settings.specs.declared.span.Span.TheVariants.{Bounded, Endless}
use Rattle.pp_settings.specs.Limits.{most_waiting, most_flushes, most_endless_flushes}

-- Where a life is endless, 1 to 1,048,576 plans may wait at a time: a core keeps a place for each, of 4 bytes.
abbrev pub IsSpan : Span → Type 0
IsSpan Bounded = Unit {0}
IsSpan (Endless waiting) = (1 ≤ waiting) × (waiting ≤ most_waiting)

-- The most flushes of one life. Each takes two events, so those of an endless life take at most half of its 2^61.
abbrev pub flush_limit : Span → ℕ
flush_limit Bounded = most_flushes
flush_limit (Endless waiting) = most_endless_flushes

-- How many plans may wait, as a text says it: 0 where a life is bounded.
abbrev pub waiting_of : Span → ℕ
waiting_of Bounded = 0
waiting_of (Endless waiting) = waiting

-- And the other way round.
abbrev pub span_of : ℕ → Span
span_of waiting = if waiting == 0 then Bounded else Endless waiting

-- What serves bounded lives alone asks this.
abbrev pub is_bounded : Span → Bool
is_bounded Bounded = true
is_bounded (Endless waiting) = false
