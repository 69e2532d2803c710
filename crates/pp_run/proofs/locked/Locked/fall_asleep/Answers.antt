use Rattle.std.proofs.Common.{List, subst}
use Rattle.std.specs.Prelude.{Option}
use Rattle.pp_wants.specs.declared.sleepers.Sleeper.{Sleeper}
use Rattle.pp_wants.specs.Sleepers.{Keeps}
use Rattle.pp_run.proofs.locked.Locked.fall_asleep.Goals as goal

pub returns-clause-asleep : goal.returns-clause-asleep
returns-clause-asleep g c =
    subst (λ (xs : List (Option Sleeper)). Keeps xs c.settle.new.self.sleepers) c.sleep.ensures c.settle.ensures.keeps
