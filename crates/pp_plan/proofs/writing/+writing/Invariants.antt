use Rattle.std.proofs.Common.{◌≡◌, take, map}
use Rattle.serde_json.specs.View.{view}
use Rattle.pp_plan.specs.Tree.{statement_size, sequence_size, alternatives_size}
use Rattle.pp_plan.specs.View.{statement_of, sequence_of, alternatives_of}
use Rattle.pp_plan.specs.Values.{statement_values, branch_values}
use Rattle.pp_plan.proofs.writing.+writing.Given as goal

abbrev pub decreases-statement_value : goal.decreases-statement_value
decreases-statement_value l = statement_size (statement_of l.stmt.now)

abbrev pub decreases-body_value : goal.decreases-body_value
decreases-body_value l = sequence_size l.body.now

abbrev pub decreases-branches_value : goal.decreases-branches_value
decreases-branches_value l = alternatives_size l.branches.now

abbrev pub invariant-body_value-loop-stmt : goal.invariant-body_value-loop-stmt
invariant-body_value-loop-stmt l =
    map view l.values.items ≡ statement_values l.settings l.plan.slots (sequence_of (take l.stmt-index l.stmt-items))

abbrev pub invariant-branches_value-loop-body : goal.invariant-branches_value-loop-body
invariant-branches_value-loop-body l =
    map view l.values.items ≡ branch_values l.settings l.plan.slots (alternatives_of (take l.body-index l.body-items))
