use Rattle.std.proofs.Common.{◌∙◌, sym, subst}
use Rattle.pp_steps.specs.Parts.{Parts, IsSteps}
use Rattle.pp_steps.proofs.Halls.{home_steps}
use Rattle.pp_steps.proofs.steps.Steps.send_home.Goals as goal

pub invariant_of-self : goal.invariant_of-self
invariant_of-self c =
    let x : Parts = record {
      hall = c.self.inside.hall.value;
      plans = c.self.inside.plans.items;
      line = c.self.inside.line;
      seats = c.self.inside.seats;
      flushed = c.self.inside.flushed;
      flusher = c.self.inside.flusher;
    } in
    subst (λ seats. IsSteps (record x { hall = c.park.new.hall.value; seats = seats })) (sym c.in-Some.ensures.taken)
    (home_steps x c.park.new.hall.value c.args.pass c.in-Some.seated c.park.result c.self.invariant
    (sym c.take.ensures.is ∙ c.in-Some.is) c.park.ensures)
