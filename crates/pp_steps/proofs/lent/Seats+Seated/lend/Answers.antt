-- What is left to show of lend: of one that runs, and that there is no other.
use Rattle.std.specs.Prelude.{◌≡◌, None}
use Rattle.pp_steps.specs.Seats.{seated_at}
use Rattle.pp_steps.proofs.Bodies.{seat_lent}
use Rattle.pp_steps.proofs.Places.{Stands, is_some_of, seated_here}
use Rattle.pp_steps.proofs.lent.Seats+Seated.lend.Goals as goal
use Rattle.pp_steps.proofs.lent.Seats+Seated.lend.Goals.{in-Some, in-None}

pub returns-clause-some : goal.returns-clause-some
returns-clause-some c =
    let k : Stands c.self.inside.places.items c.args.self.now c.args.pass c.in_ok-get.field-0.now c.index_mut-place.result.now =
    record { view = c.self.view_is; there = c.in_ok-get.ensures.some; at = c.index_mut-place.ensures.value } in
    elim c.match-place.branch [
      | in-Some w ↦
          seat_lent c.args.hall.now.value.seating.vault c.self.inside.places.items c.args.self.now c.args.pass c.args.slot
          c.in_ok-get.field-0.now w.in-Some.seated c.index_mut-place.result.now w.lend_slot.result c.match-place.result k w.in-Some.is
          w.lend_slot.ensures.ok w.lend_slot.ensures.why w.result-is
      | in-None w ↦
          absurd (seated_here c.self.inside.places.items c.args.self.now c.args.pass c.in_ok-get.field-0.now
          c.index_mut-place.result.now k w.in-None.is)
    ]

pub returns-clause-none : goal.returns-clause-none
returns-clause-none c =
    let k : Stands c.self.inside.places.items c.args.self.now c.args.pass c.in_ok-get.field-0.now c.index_mut-place.result.now =
    record { view = c.self.view_is; there = c.in_ok-get.ensures.some; at = c.index_mut-place.ensures.value } in
    elim c.match-place.branch [
      | in-Some w ↦
          is_some_of c.match-place.result w.lend_slot.result (seated_at c.args.self.now c.args.pass ≡ None) w.result-is
      | in-None w ↦
          absurd (seated_here c.self.inside.places.items c.args.self.now c.args.pass c.in_ok-get.field-0.now
          c.index_mut-place.result.now k w.in-None.is)
    ]
