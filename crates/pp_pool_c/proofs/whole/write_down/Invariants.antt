-- The first places are written, and the others are as they were.
use Rattle.std.proofs.Common.{◌≡◌, ℕ, ◌<◌, ◌≤◌}
use Rattle.std.specs.Prelude.{slice_get}
use Rattle.std.specs.Option.{option_map}
use Rattle.pp_pool_c.specs.Figures.{dirty_of}
use Rattle.pp_pool_c.proofs.whole.write_down.Given as goal

abbrev pub invariant-loop-at : goal.invariant-loop-at
invariant-loop-at l = record {
  first : (k : ℕ) → k < l.at → slice_get l.pages k ≡ option_map dirty_of (slice_get l.found k);
  rest : (k : ℕ) → l.at ≤ k → slice_get l.pages k ≡ slice_get l.initial.pages k;
}
