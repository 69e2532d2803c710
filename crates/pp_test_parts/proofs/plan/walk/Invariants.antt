use Rattle.pp_cursor.specs.Cursor.{IsCursorOf}
use Rattle.pp_test_parts.proofs.plan.walk.Given as goal

abbrev pub invariant-loop-ask : goal.invariant-loop-ask
invariant-loop-ask g l = IsCursorOf l.plan l.cursor
