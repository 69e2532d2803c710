use Rattle.pp_hall.specs.Closing.{stays}
use Rattle.pp_hall.proofs.Ending.{comes_further}
use Rattle.pp_hall.proofs.closing.flush_all.Goals as goal

pub loop-init : goal.loop-init
loop-init g c = stays

pub returns-in_default : goal.returns-in_default
returns-in_default g c = record {
  clean = tt;
  by = comes_further g.D.Device.read_gives g.D.Device.write_leaves g.D.Device.calls g.D.Device.failures
      c.args.flusher.now.site c.loop.flusher c.turn.result c.turn.new.self c.loop.invariant c.turn.ensures;
  spent = c.stuck.ensures.spent;
  error = c.stuck.ensures.error;
}

pub returns-then-flusher-failed-clause-by : goal.returns-then-flusher-failed-clause-by
returns-then-flusher-failed-clause-by g c =
    comes_further g.D.Device.read_gives g.D.Device.write_leaves g.D.Device.calls g.D.Device.failures
    c.args.flusher.now.site c.loop.flusher c.turn.result c.turn.new.self c.loop.invariant c.turn.ensures

pub loop-preserved : goal.loop-preserved
loop-preserved g c =
    comes_further g.D.Device.read_gives g.D.Device.write_leaves g.D.Device.calls g.D.Device.failures
    c.args.flusher.now.site c.loop.flusher c.turn.result c.turn.new.self c.loop.invariant c.turn.ensures
