-- The traces of a plan: of its body, over the regions of its layout.
use Rattle.std.specs.Prelude.{List}
use Rattle.pp_plan.specs.Terms.{Terms}
use Rattle.pp_plan.specs.Traces.{IsTrace, MayFollow}
use Rattle.pp_plan.specs.declared.action.Action.{Action}

-- The list is a whole trace of the plan.
abbrev pub IsTraceOf : Terms → List Action → Type 0
IsTraceOf plan t = IsTrace plan.layout plan.body t

-- After the list the plan asks the action: some trace begins with the list and then this action.
abbrev pub PlanAsks : Terms → List Action → Action → Type 0
PlanAsks plan t a = MayFollow plan.layout plan.body t a
