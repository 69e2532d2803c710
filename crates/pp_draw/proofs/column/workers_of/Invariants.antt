use Rattle.std.proofs.Common.{◌≡◌, map}
use Rattle.std.specs.List.{range_with_len}
use Rattle.pp_model.specs.Pool.{State}
use Rattle.pp_core.specs.StandsFor.{StandsFor}
use Rattle.pp_draw.specs.Columns.{worker_at}
use Rattle.pp_draw.proofs.column.workers_of.Given as goal

abbrev pub invariant-loop-worker : goal.invariant-loop-worker
invariant-loop-worker l =
    (s : State) → StandsFor l.core s → l.all.items ≡ map (worker_at s) (range_with_len 0 l.worker)
