use Rattle.std.proofs.Common.{◌≡◌, ◌<◌, length, refl, arith, sym, ap, ◌∙◌}
use Rattle.std.specs.Prelude.{Some, slice_get}
use Rattle.std.proofs.lemmas.Bool.{false≢true}
use Rattle.std.proofs.lemmas.Option.{slice_get_within, slice_get_read}
use Rattle.pp_model.specs.WorkerParts.{names_worker}
use Rattle.pp_run.proofs.Parts.{part_taken, part_skipped, part_at}
use Rattle.pp_run.proofs.comparing.is_part_alone.Goals as goal
use Rattle.pp_run.proofs.comparing.is_part_alone.Goals.{then-names_worker+else-not-stands_at, else-names_worker}

pub loop-place-preserved : goal.loop-place-preserved
loop-place-preserved c =
    let is = c.event-event.ensures in
    let low : c.loop-place.place < length c.args.events.now.items
    = omega (arith, c.loop-place-test.true, c.len-place-end.ensures) in
    let items = c.args.events.now.items in
    let stands : slice_get items c.loop-place.place ≡ Some c.event-event.result
    = slice_get_read items (length items) c.loop-place.place c.event-event.result refl low is in
    let name = ap (names_worker c.args.worker) (sym is) ∙ sym c.names_worker.ensures in
    elim c.if-names_worker.branch [
      | then-names_worker+else-not-stands_at w ↦
          let at = (w.stands_at.ensures.same c.event-event.result stands).0 w.if-not-stands_at.false ∙ ap Some is in
          let here = slice_get_within c.args.log.now.items c.loop-place.next _ at in
          rw w.next-is (
            omega (arith, here),
            part_taken c.args.log.now.items c.args.events.now.items c.loop-place.next
                c.loop-place.place c.args.worker c.event-event.result low c.loop-place.invariant.1
                (name ∙ w.if-names_worker.true) at,
          )
      | else-names_worker w ↦
          rw w.next-is (
            c.loop-place.invariant.0,
            part_skipped c.args.log.now.items c.args.events.now.items c.loop-place.next
                c.loop-place.place c.args.worker c.event-event.result low c.loop-place.invariant.1
                (name ∙ w.if-names_worker.false),
          )
    ]

pub returns-then-not-stands_at : goal.returns-then-not-stands_at
returns-then-not-stands_at c =
    let is = c.event-event.ensures in
    let items = c.args.events.now.items in
    let low : c.loop-place.place < length items = omega (arith, c.loop-place-test.true, c.len-place-end.ensures) in
    let stands : slice_get items c.loop-place.place ≡ Some c.event-event.result
    = slice_get_read items (length items) c.loop-place.place c.event-event.result refl low is in (
      λ yes. absurd (false≢true yes),
      λ same.
          sym c.if-not-stands_at.true
          ∙ (c.stands_at.ensures.same c.event-event.result stands).1
          (part_at c.args.log.now.items items c.loop-place.next c.loop-place.place c.args.worker c.event-event.result low
          c.loop-place.invariant.0 c.loop-place.invariant.1
          (ap (names_worker c.args.worker) (sym is) ∙ sym c.names_worker.ensures ∙ c.if-names_worker.true) same
          ∙ ap Some (sym is)),
    )
