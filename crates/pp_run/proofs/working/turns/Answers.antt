use Rattle.std.proofs.Common.{rules}
use Rattle.std.specs.Prelude.{◌≡◌, true}
use Rattle.pp_vault.specs.Stages.{is_chair}
use Rattle.pp_run.proofs.Turned.{over_kept, over_ended, over_no_memory, counts_join}
use Rattle.pp_run.proofs.working.turns.Goals as goal

pub loop-preserved : goal.loop-preserved
loop-preserved g c =
    let t = c.in-Done.ensures.turns in
    let k = over_kept _ g.D.Device g.W.Work c.loop.worker _ t.0 c.quick_turns.new.self _ t.1 c.loop.invariant.0 in
    (k.work, c.in-Done.ensures.reach, counts_join g.D.Device.calls g.D.Device.failures _ _ _ _ _ _ c.loop.invariant.2 k.counts)

pub returns-in-NoMemory : goal.returns-in-NoMemory
returns-in-NoMemory g c =
    let t = c.in-NoMemory.ensures.turns in
    counts_join g.D.Device.calls g.D.Device.failures _ _ _ _ _ _ c.loop.invariant.2
    (over_no_memory _ g.D.Device g.W.Work c.loop.worker _ t.0 c.quick_turns.new.self _ t.1 c.loop.invariant.0)

pub returns-then-is_idle : goal.returns-then-is_idle
returns-then-is_idle g c =
    let t = c.in-Ended.ensures.turns in
    let idle : is_chair c.quick_turns.new.self.hand.stage ≡ true = grind rules in
    counts_join g.D.Device.calls g.D.Device.failures _ _ _ _ _ _ c.loop.invariant.2
    (over_ended _ g.D.Device g.W.Work c.loop.worker _ t.0 c.quick_turns.new.self _ t.1 idle c.loop.invariant.0)
