use Rattle.std.proofs.Common.{◌≡◌, ◌+◌, ◌*◌, ◌≤◌, min, drop}
use Rattle.pp_plan.specs.Tree.{statement_size, sequence_size, alternatives_size}
use Rattle.pp_plan.specs.View.{statement_of, sequence_of}
use Rattle.pp_annotate.specs.Growth.{growth}
use Rattle.pp_annotate.proofs.growth.+growth.Given as goal

abbrev pub decreases-growth : goal.decreases-growth
decreases-growth l = 2 * sequence_size (sequence_of l.stmts.now)

abbrev pub decreases-growth_of_stmt : goal.decreases-growth_of_stmt
decreases-growth_of_stmt l = 2 * statement_size (statement_of l.stmt.now)

abbrev pub decreases-growth_of_body : goal.decreases-growth_of_body
decreases-growth_of_body l = 2 * sequence_size l.body.now + 1

abbrev pub decreases-growth_of_first : goal.decreases-growth_of_first
decreases-growth_of_first l = 2 * alternatives_size l.branches.now

abbrev pub invariant-growth-loop-stmt : goal.invariant-growth-loop-stmt
invariant-growth-loop-stmt l = (l.sum ≤ l.stop)
    × (min (l.sum + growth (sequence_of (drop l.stmt-index l.stmts)) l.slot) l.stop
    ≡ min (growth (sequence_of l.stmts) l.slot) l.stop)
