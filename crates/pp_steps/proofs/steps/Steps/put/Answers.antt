use Rattle.std.proofs.Common.{refl, sym, subst}
use Rattle.pp_steps.specs.Parts.{Parts, IsSteps}
use Rattle.pp_steps.proofs.AtOnce.{HasEnded, ended_steps, put_ended}
use Rattle.pp_steps.proofs.steps.Steps.put.Goals as goal

pub invariant_of-self : goal.invariant_of-self
invariant_of-self c =
    let x : Parts = record {
      hall = c.self.inside.hall.value;
      plans = c.self.inside.plans.items;
      line = c.self.inside.line;
      seats = c.self.inside.seats;
      flushed = c.self.inside.flushed;
      flusher = c.self.inside.flusher;
    } in
    let b : HasEnded x.seats c.args.pass x.hall c.in-Some.field-0 c.end_reading.new.hall.value c.end_reading.new.self =
    c.in-Some.ensures.some in
    subst (λ places. IsSteps (record x { hall = c.end_reading.new.hall.value; seats = places })) (sym b.4)
    (ended_steps x c.args.pass b.0 b.2 c.end_reading.new.hall.value c.in-Some.field-0 c.self.invariant b.1 b.3)

pub returns-in-Some : goal.returns-in-Some
returns-in-Some c =
    let x : Parts = record {
      hall = c.self.inside.hall.value;
      plans = c.self.inside.plans.items;
      line = c.self.inside.line;
      seats = c.self.inside.seats;
      flushed = c.self.inside.flushed;
      flusher = c.self.inside.flusher;
    } in
    put_ended x c.args.self.now c.args.pass c.in-Some.field-0 c.end_reading.new.hall.value c.end_reading.new.self _ c.rings.result
    _ c.self.view_is c.in-Some.ensures.some refl c.rings.ensures refl
