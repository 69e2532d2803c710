use Rattle.pp_durable.specs.Crash.{IsTorn}
use Rattle.pp_test_durable.proofs.leaf.tear.Given as goal

abbrev pub invariant-loop-place : goal.invariant-loop-place
invariant-loop-place l = IsTorn l.initial.old l.new l.old
