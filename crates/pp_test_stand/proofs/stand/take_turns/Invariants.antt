-- What the loop keeps true: the tokens are the same worker's.
use Rattle.std.proofs.Common.{◌≡◌}
use Rattle.pp_vault.specs.Stages.{stage_worker}
use Rattle.pp_test_stand.proofs.stand.take_turns.Given as goal

abbrev pub invariant-loop : goal.invariant-loop
invariant-loop l = stage_worker l.worker.hand.stage ≡ stage_worker l.fn.worker.hand.stage
