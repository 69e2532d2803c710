use Rattle.std.proofs.Common.{slice_index_or}
use Rattle.pp_plan.specs.Numbering.{numbered, numbered_statement}
use Rattle.pp_plan.specs.View.{statement_of}
use Rattle.pp_plan.proofs.Renumbering.{ArePartly}
use Rattle.pp_plan.proofs.numbering.+numbering.Given as goal

abbrev pub invariant-renumber-loop-i : goal.invariant-renumber-loop-i
invariant-renumber-loop-i l = record {
  unvisited : goal.unvisited-renumber-loop-i l;
  done : ArePartly (numbered_statement (λ k. slice_index_or l.numbers k 0)) statement_of l.initial.stmts.items
      l.stmts.items l.i;
}

abbrev pub invariant-renumber_branches-loop-i : goal.invariant-renumber_branches-loop-i
invariant-renumber_branches-loop-i l = record {
  unvisited : goal.unvisited-renumber_branches-loop-i l;
  done : ArePartly (numbered (λ k. slice_index_or l.numbers k 0)) (λ b. b) l.initial.bodies.items l.bodies.items l.i;
}
