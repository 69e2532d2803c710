use Rattle.std.proofs.Common.{◌≡◌, ◌+◌, ◌*◌, ◌≤◌, min, max, drop}
use Rattle.pp_plan.specs.Tree.{statement_size, sequence_size, alternatives_size}
use Rattle.pp_plan.specs.View.{statement_of, sequence_of, alternatives_of}
use Rattle.pp_cert.specs.Limits.{counted}
use Rattle.pp_cert.specs.Longest.{sequence_longest, alternatives_longest}
use Rattle.pp_cert.proofs.longest.+longest.Given as goal

abbrev pub decreases-longest : goal.decreases-longest
decreases-longest l = 2 * sequence_size (sequence_of l.stmts.now)

abbrev pub decreases-longest_of_stmt : goal.decreases-longest_of_stmt
decreases-longest_of_stmt l = 2 * statement_size (statement_of l.stmt.now)

abbrev pub decreases-longest_of_body : goal.decreases-longest_of_body
decreases-longest_of_body l = 2 * sequence_size l.body.now + 1

abbrev pub decreases-longest_of_branches : goal.decreases-longest_of_branches
decreases-longest_of_branches l = 2 * alternatives_size l.branches.now

abbrev pub invariant-longest-loop-stmt : goal.invariant-longest-loop-stmt
invariant-longest-loop-stmt l = (l.sum ≤ counted)
    × (min (l.sum + sequence_longest (sequence_of (drop l.stmt-index l.stmts))) counted
    ≡ min (sequence_longest (sequence_of l.stmts)) counted)

abbrev pub invariant-longest_of_branches-loop-body : goal.invariant-longest_of_branches-loop-body
invariant-longest_of_branches-loop-body l = (l.most ≤ counted)
    × (min (max l.most (alternatives_longest (alternatives_of (drop l.body-index l.body-items)))) counted
    ≡ min (alternatives_longest l.branches) counted)
