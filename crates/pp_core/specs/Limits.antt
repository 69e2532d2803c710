-- How many plans a core keeps.
use Rattle.std.specs.Prelude.{ℕ}
use Rattle.pp_settings.specs.declared.span.Span.{Span}
use Rattle.pp_settings.specs.declared.span.Span.TheVariants.{Bounded, Endless}
use Rattle.pp_settings.specs.Limits.{most_plans, most_prepared}

-- The most plans that are kept: in a bounded life those that were submitted, and in an endless one those that were prepared.
abbrev pub most_kept : Span → ℕ
most_kept Bounded = most_plans
most_kept (Endless waiting) = most_prepared
