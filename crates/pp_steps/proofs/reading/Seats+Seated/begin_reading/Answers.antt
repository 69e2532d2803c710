use Rattle.std.proofs.Common.{Some, refl}
use Rattle.std.specs.Prelude.{slice_set}
use Rattle.pp_steps.specs.Reading.{CannotGet}
use Rattle.pp_steps.proofs.AtOnce.{seat_begun, seat_fact}
use Rattle.pp_steps.proofs.Places.{Stands, seated_here}
use Rattle.pp_steps.proofs.reading.Seats+Seated.begin_reading.Goals as goal
use Rattle.pp_steps.proofs.reading.Seats+Seated.begin_reading.Goals.{in-Some, in-None}

pub returns-clause-some : goal.returns-clause-some
returns-clause-some c =
    let k : Stands c.self.inside.places.items c.args.self.now c.args.pass c.in_ok-get.field-0.now c.index_mut-place.result.now =
    record { view = c.self.view_is; there = c.in_ok-get.ensures.some; at = c.index_mut-place.ensures.value } in
    elim c.match-place.branch [
      | in-Some w ↦
          rw (w.result-is, w.self-inside-is, w.hall-is, w.bytes-is)
          (seat_begun c.self.inside.places.items c.args.self.now
          (slice_set c.self.inside.places.items c.args.pass.bell
          (record { turn = c.index_mut-place.result.now.turn; seated = Some w.begin_reading.new.self })) c.args.pass
          c.args.hall.now.value w.begin_reading.new.hall.value c.args.page c.args.from w.begin_reading.new.bytes
          c.in_ok-get.field-0.now w.in-Some.seated w.begin_reading.new.self c.index_mut-place.result.now w.begin_reading.result k
          w.in-Some.is w.begin_reading.ensures.some refl)
      | in-None w ↦
          absurd (seated_here c.self.inside.places.items c.args.self.now c.args.pass c.in_ok-get.field-0.now
          c.index_mut-place.result.now k w.in-None.is)
    ]

pub returns-clause-none : goal.returns-clause-none
returns-clause-none c =
    let k : Stands c.self.inside.places.items c.args.self.now c.args.pass c.in_ok-get.field-0.now c.index_mut-place.result.now =
    record { view = c.self.view_is; there = c.in_ok-get.ensures.some; at = c.index_mut-place.ensures.value } in
    elim c.match-place.branch [
      | in-Some w ↦
          rw w.result-is
          (seat_fact (λ q. CannotGet q.worker.hand.stage q.worker.hand.guards c.args.hall.now.value.seating.vault c.args.page)
          c.self.inside.places.items c.args.self.now c.args.pass c.in_ok-get.field-0.now w.in-Some.seated
          c.index_mut-place.result.now w.begin_reading.result k w.in-Some.is w.begin_reading.ensures.none)
      | in-None w ↦
          absurd (seated_here c.self.inside.places.items c.args.self.now c.args.pass c.in_ok-get.field-0.now
          c.index_mut-place.result.now k w.in-None.is)
    ]
