use Rattle.std.proofs.Common.{◌≡◌, ◌+◌, ◌≤◌, drop}
use Rattle.pp_run.specs.Calling.{begun_flushes_in, ended_flushes_in, failed_flushes_in}
use Rattle.pp_run.proofs.counting.flush_counts.Given as goal

abbrev pub invariant-loop-place : goal.invariant-loop-place
invariant-loop-place l =
    (l.counts.begun ≤ l.place) × (l.counts.ended ≤ l.place) × (l.counts.failed ≤ l.place)
    × (begun_flushes_in l.events.items ≡ l.counts.begun + begun_flushes_in (drop l.place l.events.items))
    × (ended_flushes_in l.events.items ≡ l.counts.ended + ended_flushes_in (drop l.place l.events.items))
    × (failed_flushes_in l.events.items ≡ l.counts.failed + failed_flushes_in (drop l.place l.events.items))
