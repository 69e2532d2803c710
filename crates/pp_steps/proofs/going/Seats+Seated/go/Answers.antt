use Rattle.pp_steps.proofs.Turns.{turns_there, rests_there, is_there}
use Rattle.pp_steps.proofs.going.Seats+Seated.go.Goals as goal
use Rattle.pp_steps.proofs.going.Seats+Seated.go.Goals.{in-Some-seated, in-None}

pub returns-clause-turns : goal.returns-clause-turns
returns-clause-turns c =
    let p = c.index_mut-place.result.now in
    let xs = c.self.inside.places.items in
    elim c.match-place.branch [
      | in-Some-seated w ↦ rw (w.result-is, w.self-inside-is)
          (turns_there xs c.args.self.now c.args.pass c.in-Some.field-0.now w.in-Some-seated.seated w.go.new.self p
          c.args.hall.value w.go.result.0.value c.args.argument w.go.result.1 c.self.view_is c.in-Some.ensures.some
          c.index_mut-place.ensures.value w.in-Some-seated.is w.go.ensures.turns)
      | in-None w ↦
          absurd (is_there xs c.args.self.now c.args.pass c.in-Some.field-0.now p c.self.view_is c.in-Some.ensures.some
          c.index_mut-place.ensures.value w.in-None.is)
    ]

pub returns-clause-rests : goal.returns-clause-rests
returns-clause-rests c =
    let p = c.index_mut-place.result.now in
    let xs = c.self.inside.places.items in
    elim c.match-place.branch [
      | in-Some-seated w ↦ rw w.self-inside-is
          (rests_there xs c.args.self.now c.args.pass c.in-Some.field-0.now w.in-Some-seated.seated w.go.new.self p
          c.self.view_is c.in-Some.ensures.some c.index_mut-place.ensures.value w.in-Some-seated.is c.requires
          w.go.ensures.rests)
      | in-None w ↦
          absurd (is_there xs c.args.self.now c.args.pass c.in-Some.field-0.now p c.self.view_is c.in-Some.ensures.some
          c.index_mut-place.ensures.value w.in-None.is)
    ]
