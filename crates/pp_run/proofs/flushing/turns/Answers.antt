use Rattle.std.proofs.Common.{rules}
use Rattle.std.specs.Prelude.{◌≡◌, false}
use Rattle.std.specs.Option.{is_some}
use Rattle.pp_run.proofs.FlushTurned.{done_kept, ended_counts, flushes_join}
use Rattle.pp_run.proofs.flushing.turns.Goals as goal

pub loop-preserved : goal.loop-preserved
loop-preserved g c =
    let k = done_kept g.B.Site.gives g.D.Device.read_gives g.D.Device.write_leaves g.D.Device.calls g.D.Device.failures c.loop.flusher
    c.turn.new.self c.in-Done.ensures c.loop.flusher.of_flush c.loop.invariant.0 in
    (k.untold, flushes_join g.D.Device.calls g.D.Device.failures _ _ _ _ _ _ _ _ _ c.loop.invariant.1 k.counts)

pub returns-then-is_none : goal.returns-then-is_none
returns-then-is_none g c =
    let none : is_some c.turn.new.self.flushing ≡ false = grind rules in
    let k = ended_counts g.B.Site.gives g.D.Device.read_gives g.D.Device.write_leaves g.D.Device.calls g.D.Device.failures
    c.loop.flusher c.turn.new.self c.in-Ended.ensures c.loop.invariant.0 none in
    flushes_join g.D.Device.calls g.D.Device.failures _ _ _ _ _ _ _ _ _ c.loop.invariant.1 k
