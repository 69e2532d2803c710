use Rattle.std.proofs.Common.{None}
use Rattle.pp_draw.proofs.Counting.{ended_one_more}
use Rattle.pp_draw.proofs.tally.end_all.Goals as goal

pub loop-turn-preserved : goal.loop-turn-preserved
loop-turn-preserved c =
    ended_one_more c.args.number c.args.worker c.args.ending c.args.turns.now c.loop-turn.turns c.loop-turn.turn-index
    c.ended_by.result (record { plan = 0; worker = 0; from = 0; end = None }) c.loop-turn-test.true c.loop-turn.invariant c.ended_by.ensures
