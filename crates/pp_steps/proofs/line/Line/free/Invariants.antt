use Rattle.std.proofs.Common.{ℕ, ◌<◌}
use Rattle.pp_steps.specs.Lines.{IsFreeAt}
use Rattle.pp_steps.proofs.line.Line.free.Given as goal

abbrev pub invariant-loop-at : goal.invariant-loop-at
invariant-loop-at l = (k : ℕ) → k < l.at → ¬ IsFreeAt l.self.places k
