use Rattle.std.specs.Prelude.{List}
use Rattle.pp_pool.specs.Turns.{IsReach, reach_of}
use Rattle.pp_buffer_pool.specs.Running.{Rounds, noted_calls}
use Rattle.pp_buffer_pool.proofs.turning.turns.Given as goal

abbrev pub invariant-loop : goal.invariant-loop
invariant-loop g l =
    IsReach g.W.Work (reach_of l.worker) l.work.work
    × ((rounds : List _) × Rounds g.S.Site g.D.Device (noted_calls g.W.Work) l.fn.worker l.fn.work rounds l.worker l.work)
