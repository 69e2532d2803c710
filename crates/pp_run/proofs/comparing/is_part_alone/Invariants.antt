use Rattle.std.proofs.Common.{◌≡◌, ◌≤◌, ◌++◌, length, take, drop}
use Rattle.pp_model.specs.WorkerParts.{part_of}
use Rattle.pp_run.proofs.comparing.is_part_alone.Given as goal

abbrev pub invariant-loop-place : goal.invariant-loop-place
invariant-loop-place l =
    (l.next ≤ length l.log.items)
    × (part_of l.worker l.events.items ≡ take l.next l.log.items ++ part_of l.worker (drop l.place l.events.items))
