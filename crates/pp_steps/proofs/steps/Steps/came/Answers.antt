use Rattle.std.proofs.Common.{sym, subst}
use Rattle.pp_steps.specs.Parts.{Parts, IsSteps}
use Rattle.pp_steps.proofs.Bodies.{Brought, brought_in}
use Rattle.pp_steps.proofs.Home.{brought_steps}
use Rattle.pp_steps.proofs.steps.Steps.came.Goals as goal

pub invariant_of-self : goal.invariant_of-self
invariant_of-self c =
    let x : Parts = record {
      hall = c.self.inside.hall.value;
      plans = c.self.inside.plans.items;
      line = c.self.inside.line;
      seats = c.self.inside.seats;
      flushed = c.self.inside.flushed;
      flusher = c.self.inside.flusher;
    } in
    let b : Brought x.seats c.args.pass c.args.bytes.now c.bring.new.self c.in-Some.brought = c.in-Some.ensures.some in
    subst (λ seats. IsSteps (record x { seats = seats })) (sym b.4)
    (brought_steps x c.args.pass b.0 b.2 c.args.bytes.now c.in-Some.brought c.self.invariant b.1 b.3)

pub returns-in-Some-clause-some : goal.returns-in-Some-clause-some
returns-in-Some-clause-some c =
    let x : Parts = record {
      hall = c.self.inside.hall.value;
      plans = c.self.inside.plans.items;
      line = c.self.inside.line;
      seats = c.self.inside.seats;
      flushed = c.self.inside.flushed;
      flusher = c.self.inside.flusher;
    } in
    brought_in x c.args.self.now c.args.pass c.args.bytes.now c.in-Some.brought c.bring.new.self c.self.view_is
    c.in-Some.ensures.some
