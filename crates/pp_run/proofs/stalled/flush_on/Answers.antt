use Rattle.pp_run.proofs.GoingOn.{then_goes, flush_turned}
use Rattle.pp_run.proofs.stalled.flush_on.Goals as goal

pub loop-preserved : goal.loop-preserved
loop-preserved g c =
    then_goes _ _ _ c.loop.invariant
    (flush_turned _ _ _ _ _ c.loop.flusher c.turn.result c.turn.new.self c.turn.ensures (λ x asked response y given. given))

pub returns-in_default : goal.returns-in_default
returns-in_default g c =
    then_goes _ _ _ c.loop.invariant
    (flush_turned _ _ _ _ _ c.loop.flusher c.turn.result c.turn.new.self c.turn.ensures (λ x asked response y given. given))
