use Rattle.std.proofs.Common.{◌≡◌}
use Rattle.pp_vault.specs.Stages.{stage_worker}
use Rattle.pp_run.specs.GoingOn.{GoesOn}
use Rattle.pp_run.proofs.stalled.turn_on.Given as goal

abbrev pub invariant-loop : goal.invariant-loop
invariant-loop g l =
    GoesOn l.fn.worker.site.book l.worker.site.book
    × (stage_worker l.worker.hand.stage ≡ stage_worker l.fn.worker.hand.stage)
