use Rattle.std.proofs.Common.{◌≡◌, ◌++◌, map, take, drop}
use Rattle.pp_test_durable.specs.Leaves.{settled}
use Rattle.pp_test_durable.proofs.crashing.settle_all.Given as goal

abbrev pub invariant-loop-page : goal.invariant-loop-page
invariant-loop-page l = l.leaves.items ≡ map settled (take l.page l.initial.leaves.items) ++ drop l.page l.initial.leaves.items
