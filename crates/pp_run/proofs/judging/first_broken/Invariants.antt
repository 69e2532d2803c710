use Rattle.std.proofs.Common.{◌≡◌, ◌≢◌, ◌<◌, get_or}
use Rattle.pp_run.specs.declared.stop.Stop.TheVariants.{Broken}
use Rattle.pp_run.proofs.judging.first_broken.Given as goal

abbrev pub invariant-loop-end : goal.invariant-loop-end
invariant-loop-end g l =
    (l.worker ≡ l.end-index)
    × ((k : _) (x : _) → k < l.end-index → (get_or l.worked k x).stop ≢ Broken)
