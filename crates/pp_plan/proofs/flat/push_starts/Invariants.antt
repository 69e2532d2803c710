use Rattle.std.proofs.Common.{◌≡◌, ◌++◌, drop}
use Rattle.pp_plan.specs.View.{alternatives_of}
use Rattle.pp_plan.specs.FlatList.{starts}
use Rattle.pp_plan.proofs.flat.push_starts.Given as goal

abbrev pub invariant-loop-body : goal.invariant-loop-body
invariant-loop-body l =
    l.steps.items ++ starts l.on (alternatives_of (drop l.body-index l.bodies))
    ≡ l.fn.steps.items ++ starts l.first (alternatives_of l.bodies)
