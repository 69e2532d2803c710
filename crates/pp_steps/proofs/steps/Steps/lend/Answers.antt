-- What is left to show of lend: what the seats lend, the pool lends.
use Rattle.pp_steps.specs.Parts.{Parts}
use Rattle.pp_steps.proofs.Bodies.{lent_in}
use Rattle.pp_steps.proofs.steps.Steps.lend.Goals as goal

pub returns-in-Some-clause-ok : goal.returns-in-Some-clause-ok
returns-in-Some-clause-ok c =
    let x : Parts = record {
      hall = c.self.inside.hall.value;
      plans = c.self.inside.plans.items;
      line = c.self.inside.line;
      seats = c.self.inside.seats;
      flushed = c.self.inside.flushed;
      flusher = c.self.inside.flusher;
    } in
    lent_in x c.args.self.now c.args.pass c.args.slot c.in-Some.lent c.self.view_is c.in-Some.ensures.some
