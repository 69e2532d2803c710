use Rattle.pp_steps.proofs.Turns.{after_end}
use Rattle.pp_steps.proofs.steps.Steps.after.Goals as goal

pub returns-in-Done-Some : goal.returns-in-Done-Some
returns-in-Done-Some c = λ s e.
    after_end c.args.self.now c.send_home-told.new.self c.args.pass s c.args.came.turned c.args.came.end
    c.in-Done-Some.end c.args.came.told c.send_home-told.result c.rings.result c.in-Done-Some.is-0 c.in-Done-Some.is-1
    (c.send_home-told.ensures s e) c.rings.ensures
