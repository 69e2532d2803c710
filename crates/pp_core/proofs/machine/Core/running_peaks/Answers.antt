-- What is left to show of Core::running_peaks: the peaks of the plans that run fit the frames.
use Rattle.std.proofs.Common.{◌≤◌, subst}
use Rattle.pp_core.specs.Parts.{Parts, parts_of}
use Rattle.pp_core.proofs.TakeMoves.{runs_few}
use Rattle.pp_core.proofs.machine.Core.running_peaks.Goals as goal

pub returns-clause-fits : goal.returns-clause-fits
returns-clause-fits c =
    subst (λ (f : Parts). c.self.inside.table.running ≤ f.layout.frames) c.self.view_is
    (runs_few (parts_of c.self.inside.table) c.self.invariant)
