use Rattle.std.proofs.Common.{◌≡◌, drop}
use Rattle.pp_plan.specs.Tree.{statement_size, sequence_size, alternatives_size, scatters, branches_scatter}
use Rattle.pp_plan.specs.View.{statement_of, sequence_of, alternatives_of}
use Rattle.pp_cert.proofs.scattered.+scatters.Given as goal

abbrev pub decreases-scatters : goal.decreases-scatters
decreases-scatters l = sequence_size l.body.now

abbrev pub decreases-stmt_scatters : goal.decreases-stmt_scatters
decreases-stmt_scatters l = statement_size (statement_of l.stmt.now)

abbrev pub decreases-branches_scatter : goal.decreases-branches_scatter
decreases-branches_scatter l = alternatives_size l.branches.now

abbrev pub invariant-scatters-loop-stmt : goal.invariant-scatters-loop-stmt
invariant-scatters-loop-stmt l = scatters (sequence_of (drop l.stmt-index l.stmt-items)) l.slot ≡ scatters l.body l.slot

abbrev pub invariant-branches_scatter-loop-body : goal.invariant-branches_scatter-loop-body
invariant-branches_scatter-loop-body l =
    branches_scatter (alternatives_of (drop l.body-index l.body-items)) l.slot ≡ branches_scatter l.branches l.slot
