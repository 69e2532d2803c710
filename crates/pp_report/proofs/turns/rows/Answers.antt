use Rattle.std.proofs.Common.{◌≡◌, ◌<◌, ◌≤◌, length, drop, ap, ◌∙◌, arith, rules}
use Rattle.std.proofs.Math.ListN.{drop_of_length-le}
use Rattle.pp_report.proofs.OneMore.{all_noted, each_noted, replaced}
use Rattle.pp_report.proofs.turns.rows.Goals as goal

pub loop-place-preserved : goal.loop-place-preserved
loop-place-preserved c =
    let items = c.args.events.now.items in
    let here : c.loop-place.place < length items = omega (arith, c.loop-place-test.true, c.len-place-end.ensures) in
    let whole : length c.note.new.rows ≡ c.loop-place.rows.len = search rules in
    let stands = replaced c.loop-place.rows.items c.note.new.rows c.loop-place.rows.len whole in
    record {
      one_each =
          ap length stands ∙ c.note.ensures.same_len ∙ ap length c.deref_mut.ensures.value
          ∙ c.loop-place.invariant.one_each;
      noted =
          each_noted c.args.plans items c.loop-place.place c.event.result c.loop-place.rows.items
          c.deref_mut.result.now c.note.new.rows _ here c.event.ensures c.deref_mut.ensures.value stands
          c.loop-place.invariant.one_each c.note.ensures.noted c.loop-place.invariant.noted;
    }

pub returns : goal.returns
returns c =
    let items = c.args.events.now.items in
    let place = c.loop-place.place in
    let end : length items ≤ place = omega (arith, c.loop-place-test.false, c.len-place-end.ensures) in
    all_noted items (drop place items) c.args.plans c.loop-place.rows.items (ap length (drop_of_length-le items end))
    c.loop-place.invariant.one_each c.loop-place.invariant.noted
