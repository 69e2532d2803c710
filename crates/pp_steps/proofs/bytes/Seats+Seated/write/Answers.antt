use Rattle.std.proofs.Common.{ap, length}
use Rattle.std.specs.Prelude.{◌≡◌, None}
use Rattle.pp_steps.specs.Seats.{seated_at}
use Rattle.pp_steps.proofs.Bodies.{seat_unwritten, seat_written}
use Rattle.pp_steps.proofs.Places.{Stands, is_some_of, seated_here}
use Rattle.pp_steps.proofs.bytes.Seats+Seated.write.Goals as goal
use Rattle.pp_steps.proofs.bytes.Seats+Seated.write.Goals.{in-Some, in-None}

pub returns-clause-some : goal.returns-clause-some
returns-clause-some c =
    let k : Stands c.self.inside.places.items c.args.self.now c.args.pass c.in_ok-get.field-0.now c.index_mut-place.result.now =
    record { view = c.self.view_is; there = c.in_ok-get.ensures.some; at = c.index_mut-place.ensures.value } in
    elim c.match-place.branch [
      | in-Some w ↦
          seat_written c.self.inside.places.items c.args.self.now c.match-place.self-inside.places.items c.args.pass
          c.args.slot c.args.from c.args.bytes.now w.write_slot.new.guards c.in_ok-get.field-0.now w.in-Some.seated
          c.index_mut-place.result.now w.write_slot.result c.match-place.result k w.in-Some.is w.write_slot.ensures.ok
          (ap (λ q. q.places.items) w.self-inside-is) w.result-is
      | in-None w ↦
          absurd (seated_here c.self.inside.places.items c.args.self.now c.args.pass c.in_ok-get.field-0.now
          c.index_mut-place.result.now k w.in-None.is)
    ]

pub returns-clause-why : goal.returns-clause-why
returns-clause-why c =
    let k : Stands c.self.inside.places.items c.args.self.now c.args.pass c.in_ok-get.field-0.now c.index_mut-place.result.now =
    record { view = c.self.view_is; there = c.in_ok-get.ensures.some; at = c.index_mut-place.ensures.value } in
    elim c.match-place.branch [
      | in-Some w ↦
          seat_unwritten c.self.inside.places.items c.args.self.now c.args.pass c.args.slot c.args.from
          (length c.args.bytes.now) c.in_ok-get.field-0.now w.in-Some.seated c.index_mut-place.result.now w.write_slot.result
          c.match-place.result k w.in-Some.is w.write_slot.ensures.why w.result-is
      | in-None w ↦
          absurd (seated_here c.self.inside.places.items c.args.self.now c.args.pass c.in_ok-get.field-0.now
          c.index_mut-place.result.now k w.in-None.is)
    ]

pub returns-clause-none : goal.returns-clause-none
returns-clause-none c =
    let k : Stands c.self.inside.places.items c.args.self.now c.args.pass c.in_ok-get.field-0.now c.index_mut-place.result.now =
    record { view = c.self.view_is; there = c.in_ok-get.ensures.some; at = c.index_mut-place.ensures.value } in
    elim c.match-place.branch [
      | in-Some w ↦
          is_some_of c.match-place.result w.write_slot.result (seated_at c.args.self.now c.args.pass ≡ None) w.result-is
      | in-None w ↦
          absurd (seated_here c.self.inside.places.items c.args.self.now c.args.pass c.in_ok-get.field-0.now
          c.index_mut-place.result.now k w.in-None.is)
    ]
