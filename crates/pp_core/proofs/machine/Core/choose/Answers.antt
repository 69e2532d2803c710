use Rattle.pp_model.specs.declared.moves.Move.TheVariants as move
use Rattle.pp_core.specs.Parts.{parts_of}
use Rattle.pp_core.proofs.Standing.{headline_holds, kept_after, budget_of_inside}
use Rattle.pp_core.proofs.machine.Core.choose.Goals as goal

pub returns-clause-headline : goal.returns-clause-headline
returns-clause-headline c = headline_holds (parts_of c.choose.new.self)

pub returns-clause-budget : goal.returns-clause-budget
returns-clause-budget c =
    budget_of_inside c.self.view_is c.self.invariant (parts_of c.choose.new.self) (move.Choose c.args.worker c.args.branch) c.choose.result
    c.choose.ensures.moves

pub invariant_of-self : goal.invariant_of-self
invariant_of-self c =
    kept_after (parts_of c.self.inside.table) (parts_of c.choose.new.self) (move.Choose c.args.worker c.args.branch) c.choose.result c.self.invariant
    c.choose.ensures.moves

pub returns-clause-kept : goal.returns-clause-kept
returns-clause-kept c =
    kept_after (parts_of c.self.inside.table) (parts_of c.choose.new.self) (move.Choose c.args.worker c.args.branch) c.choose.result c.self.invariant
    c.choose.ensures.moves
