use Rattle.std.proofs.Common.{◌≡◌, ◌+◌, ◌*◌, ◌≤◌, drop}
use Rattle.pp_plan.specs.Tree.{statement_size, sequence_size, alternatives_size}
use Rattle.pp_plan.specs.View.{statement_of, sequence_of, alternatives_of}
use Rattle.pp_plan.specs.FlatList.{farthest, near, sequence_steps, alternatives_steps}
use Rattle.pp_plan.proofs.flat.+sizes.Given as goal

abbrev pub decreases-steps_of_body : goal.decreases-steps_of_body
decreases-steps_of_body l = 2 * sequence_size l.body.now

abbrev pub decreases-steps_of_stmt : goal.decreases-steps_of_stmt
decreases-steps_of_stmt l = 2 * statement_size (statement_of l.stmt.now)

abbrev pub decreases-steps_of_choice : goal.decreases-steps_of_choice
decreases-steps_of_choice l = 2 * alternatives_size l.branches.now + 1

abbrev pub decreases-steps_of_branches : goal.decreases-steps_of_branches
decreases-steps_of_branches l = 2 * alternatives_size l.branches.now

abbrev pub invariant-steps_of_body-loop-stmt : goal.invariant-steps_of_body-loop-stmt
invariant-steps_of_body-loop-stmt l = (l.sum ≤ farthest)
    × (near (l.sum + sequence_steps (sequence_of (drop l.stmt-index l.stmt-items))) ≡ near (sequence_steps l.body))

abbrev pub invariant-steps_of_branches-loop-body : goal.invariant-steps_of_branches-loop-body
invariant-steps_of_branches-loop-body l = (l.sum ≤ farthest)
    × (near (l.sum + alternatives_steps (alternatives_of (drop l.body-index l.body-items)))
    ≡ near (alternatives_steps l.branches))
