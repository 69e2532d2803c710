use Rattle.pp_test_durable.proofs.Steps.{CrashedTo}
use Rattle.pp_test_durable.proofs.crashing.crash_all.Given as goal

abbrev pub invariant-loop-page : goal.invariant-loop-page
invariant-loop-page l = CrashedTo l.page l.initial.leaves l.leaves
