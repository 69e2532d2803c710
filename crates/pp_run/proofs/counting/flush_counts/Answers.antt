use Rattle.std.proofs.Common.{◌<◌, length, arith}
use Rattle.pp_run.specs.Calling.{begun_flushes_of, ended_flushes_of, failed_flushes_of}
use Rattle.pp_run.proofs.Totals.{counted_on}
use Rattle.pp_run.proofs.counting.flush_counts.Goals as goal

pub loop-place-preserved : goal.loop-place-preserved
loop-place-preserved c =
    let es = c.args.events.now.items in
    let was = c.loop-place.invariant in
    let now = c.counted-counts.ensures in
    let is = c.event-event.ensures in
    let low : c.loop-place.place < length es = omega (arith, c.loop-place-test.true, c.len-place-end.ensures) in (
      omega (arith, was.0, now.one.0),
      omega (arith, was.1, now.one.1),
      omega (arith, was.2, now.one.2),
      counted_on begun_flushes_of es c.loop-place.place _ _ c.event-event.result low is was.3 now.begun,
      counted_on ended_flushes_of es c.loop-place.place _ _ c.event-event.result low is was.4 now.ended,
      counted_on failed_flushes_of es c.loop-place.place _ _ c.event-event.result low is was.5 now.failed,
    )
