use Rattle.pp_model.specs.declared.moves.Move.TheVariants as move
use Rattle.pp_core.specs.Parts.{parts_of}
use Rattle.pp_core.proofs.Standing.{headline_holds, budget_of_inside}
use Rattle.pp_core.proofs.machine.Core.unfix.Goals as goal

pub returns-clause-headline : goal.returns-clause-headline
returns-clause-headline c = headline_holds (parts_of c.unfix.new.self)

pub returns-clause-budget : goal.returns-clause-budget
returns-clause-budget c =
    budget_of_inside c.self.view_is c.self.invariant (parts_of c.unfix.new.self) (move.Unfix c.args.worker) c.unfix.result
    c.unfix.ensures.moves
