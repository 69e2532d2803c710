use Rattle.std.proofs.Common.{ℕ, ◌<◌}
use Rattle.pp_steps.specs.Lines.{HasTicket}
use Rattle.pp_steps.proofs.line.Line.bell_of.Given as goal

abbrev pub invariant-loop-at : goal.invariant-loop-at
invariant-loop-at l = (k : ℕ) → k < l.at → ¬ HasTicket l.self.places l.ticket k
