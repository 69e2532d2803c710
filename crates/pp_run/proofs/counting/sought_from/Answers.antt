use Rattle.std.proofs.Common.{◌<◌, length, arith}
use Rattle.pp_run.proofs.Totals.{sought_on}
use Rattle.pp_run.proofs.counting.sought_from.Goals as goal

pub loop-place-preserved : goal.loop-place-preserved
loop-place-preserved c =
    let es = c.args.events.now.items in
    let low : c.loop-place.place < length es = omega (arith, c.loop-place-test.true, c.len-place-end.ensures) in
    sought_on es c.loop-place.place _ _ _ c.event-event.result low c.event-event.ensures c.loop-place.invariant
    c.from_after-sought.ensures
