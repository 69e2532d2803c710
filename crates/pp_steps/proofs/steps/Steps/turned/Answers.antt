use Rattle.pp_steps.specs.Parts.{Parts}
use Rattle.pp_steps.proofs.Turns.{turned_steps}
use Rattle.pp_steps.proofs.steps.Steps.turned.Goals as goal

pub invariant_of-steps : goal.invariant_of-steps
invariant_of-steps c =
    let x : Parts = record {
      hall = c.self.inside.hall.value;
      plans = c.self.inside.plans.items;
      line = c.self.inside.line;
      seats = c.self.inside.seats;
      flushed = c.self.inside.flushed;
      flusher = c.self.inside.flusher;
    } in
    turned_steps x c.go-hall.result.0.value c.go-hall.new.self c.args.pass c.args.argument c.go-hall.result.1
    c.self.invariant c.go-hall.ensures.turns c.go-hall.ensures.rests c.go-hall.ensures.out
