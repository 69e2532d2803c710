use Rattle.std.proofs.Common.{◌<◌, ◌≤◌, ◌∙◌, length, ap, arith}
use Rattle.std.proofs.lemmas.List.{take_all}
use Rattle.pp_totals.specs.Counting.{totals_of}
use Rattle.pp_totals.proofs.Sums.{one_more}
use Rattle.pp_totals.proofs.totals.Totals.of.Goals as goal

pub loop-place-preserved : goal.loop-place-preserved
loop-place-preserved c =
    let items = c.args.events.now.items in
    let place = c.loop-place.place in
    let here : place < length items = omega (arith, c.loop-place-test.true, c.len-place-end.ensures) in
    one_more items place c.event-event.result _ _ _ here c.known.ensures.items c.event-event.ensures
    c.loop-place.invariant c.of_event.ensures c.saturating_add-totals.ensures

pub returns : goal.returns
returns c =
    let items = c.args.events.now.items in
    let place = c.loop-place.place in
    let end : length items ≤ place = omega (arith, c.loop-place-test.false, c.len-place-end.ensures) in
    c.loop-place.invariant ∙ ap totals_of (take_all place items end)
