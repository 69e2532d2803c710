use Rattle.std.proofs.Common.{◌≡◌, ◌+◌, ◌*◌, ◌++◌, drop}
use Rattle.pp_plan.specs.Tree.{statement_size, sequence_size, alternatives_size}
use Rattle.pp_plan.specs.View.{statement_of, sequence_of, alternatives_of}
use Rattle.pp_plan.specs.FlatList.{flat, flat_branches}
use Rattle.pp_plan.proofs.flat.+flat.Given as goal

abbrev pub decreases-push_stmts : goal.decreases-push_stmts
decreases-push_stmts l = 3 * sequence_size (sequence_of l.stmts.now)

abbrev pub decreases-push_stmt : goal.decreases-push_stmt
decreases-push_stmt l = 3 * statement_size (statement_of l.stmt.now)

abbrev pub decreases-push_loop : goal.decreases-push_loop
decreases-push_loop l = 3 * sequence_size l.body.now + 1

abbrev pub decreases-push_choice : goal.decreases-push_choice
decreases-push_choice l = 3 * alternatives_size l.branches.now + 1

abbrev pub decreases-push_branches : goal.decreases-push_branches
decreases-push_branches l = 3 * alternatives_size (alternatives_of l.bodies.now)

abbrev pub invariant-push_stmts-loop-stmt : goal.invariant-push_stmts-loop-stmt
invariant-push_stmts-loop-stmt l =
    l.steps.items ++ flat (sequence_of (drop l.stmt-index l.stmts)) ≡ l.fn.steps.items ++ flat (sequence_of l.stmts)

abbrev pub invariant-push_branches-loop-body : goal.invariant-push_branches-loop-body
invariant-push_branches-loop-body l =
    l.steps.items ++ flat_branches l.back (alternatives_of (drop l.body-index l.bodies))
    ≡ l.fn.steps.items ++ flat_branches l.behind (alternatives_of l.bodies)
