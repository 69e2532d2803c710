use Rattle.pp_cursor.specs.Left.{left}
use Rattle.pp_cursor.specs.CursorMoves.{Same, IsOn}
use Rattle.pp_cursor.proofs.CursorMoves.{moves_left}
use Rattle.pp_cursor.proofs.cursor.Cursor.settle.Given as goal

abbrev pub invariant-loop-count : goal.invariant-loop-count
invariant-loop-count l = record {
  on : IsOn l.plan.body l.self;
  same : Same l.plan.layout (left l.plan.body l.initial.self.place) (left l.plan.body l.self.place);
}

abbrev pub decreases-loop-count : goal.decreases-loop-count
decreases-loop-count l = moves_left l.plan.body l.self.place
