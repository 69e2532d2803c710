use Rattle.std.proofs.Common.{ap, ◌≤◌, length, arith, ◌∙◌}
use Rattle.pp_plan.specs.Numbering.{numbered, numbered_branches}
use Rattle.pp_plan.proofs.Renumbering.{sequence_made, branches_made}
use Rattle.pp_plan.proofs.numbering.+numbering.Goals as goal

pub renumber-returns : goal.renumber-returns
renumber-returns t c =
    let stmts = c.body.inside.stmts in
    let whole : length stmts.items ≤ c.loop-i.i = omega (arith, stmts.ok) in
    sequence_made _ stmts.items c.loop-i.stmts.items c.loop-i.invariant.unvisited.0
    (λ k d within. c.loop-i.invariant.done k d (omega (arith, within, whole)) within)
    ∙ ap (numbered _) c.body.view_is

pub renumber_branches-returns : goal.renumber_branches-returns
renumber_branches-returns t c =
    let bodies = c.branches.inside.bodies in
    let whole : length bodies.items ≤ c.loop-i.i = omega (arith, bodies.ok) in
    branches_made _ bodies.items c.loop-i.bodies.items c.loop-i.invariant.unvisited.0
    (λ k d within. c.loop-i.invariant.done k d (omega (arith, within, whole)) within)
    ∙ ap (numbered_branches _) c.branches.view_is
