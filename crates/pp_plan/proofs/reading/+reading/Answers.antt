use Rattle.pp_settings.specs.Settings.{region_named}
use Rattle.pp_plan.specs.View.{statement_of, sequence_of, alternatives_of}
use Rattle.pp_plan.specs.Reading.{statement_at}
use Rattle.std.proofs.Common.{arith}
use Rattle.pp_plan.proofs.Walk.{statement_when, sequence_of-push, alternatives_of-push, sequence_turn}
use Rattle.pp_plan.proofs.Walk.{alternatives_turn}
use Rattle.pp_plan.proofs.reading.+reading.Goals as goal

pub read_body-loop-value-preserved : goal.read_body-loop-value-preserved
read_body-loop-value-preserved t c =
    rw (c.in_ok-push.ensures.items, sequence_of-push c.loop-value.stmts.items c.in_ok-stmt.stmt)
    (sequence_turn (statement_at c.args.version (region_named c.args.settings.now) c.args.levels) _
    (sequence_of c.loop-value.stmts.items) c.loop-value.progress c.read_statement.new.progress c.args.items.now
    c.loop-value.value-index c.value-item.result (statement_of c.in_ok-stmt.stmt) c.value-item.is
    c.loop-value-test.true c.in_ok-stmt.ensures c.loop-value.invariant)

pub read_branches-loop-list-preserved : goal.read_branches-loop-list-preserved
read_branches-loop-list-preserved t c =
    rw (c.in_ok-push.ensures.items, alternatives_of-push c.loop-list.bodies.items c.in_ok-body.body)
    (alternatives_turn (statement_at c.args.version (region_named c.args.settings.now) c.args.levels) _
    (alternatives_of c.loop-list.bodies.items) c.loop-list.progress c.read_body.new.progress c.args.lists.now
    c.loop-list.list-index c.list-item.result c.in_ok-body.body c.list-item.is c.loop-list-test.true
    (rw c.items_in.ensures at c.in_ok-body.ensures) c.loop-list.invariant)

pub read_statement-returns : goal.read_statement-returns
read_statement-returns t c =
    rw (statement_when c.args.version (region_named c.args.settings.now) c.args.levels c.in_ok-number.number _ _ _ _
    c.in_ok-number.ensures.gives c.in_ok-number.ensures.number c.in_ok-shape.ensures (omega arith))
    c.read_shape.ensures
