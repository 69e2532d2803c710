use Rattle.std.proofs.Common.{subst}
use Rattle.pp_model.specs.declared.moves.Move.TheVariants as move
use Rattle.pp_model.specs.Pool.{State}
use Rattle.pp_core.specs.Parts.{Parts, parts_of}
use Rattle.pp_core.specs.StandsFor.{StandsFor}
use Rattle.pp_core.proofs.Standing.{headline_holds, kept_after, budget_of_inside}
use Rattle.pp_core.proofs.HoldingTies.{asks_told}
use Rattle.pp_core.proofs.machine.Core.fix_asked.Goals as goal

pub fix_asked-requires : goal.fix_asked-requires
fix_asked-requires c =
    let f = parts_of c.self.inside.table in
    let told = λ (s : State) (st : StandsFor f s). c.requires s (subst (λ (g : Parts). StandsFor g s) c.self.view_is st) in
    record { kept = c.self.invariant; asks = asks_told f c.args.worker c.args.ask told }

pub returns-clause-headline : goal.returns-clause-headline
returns-clause-headline c = headline_holds (parts_of c.fix_asked.new.self)

pub returns-clause-budget : goal.returns-clause-budget
returns-clause-budget c =
    budget_of_inside c.self.view_is c.self.invariant (parts_of c.fix_asked.new.self) (move.Fix c.args.worker c.args.page) c.fix_asked.result
    c.fix_asked.ensures.moves

pub invariant_of-self : goal.invariant_of-self
invariant_of-self c =
    kept_after (parts_of c.self.inside.table) (parts_of c.fix_asked.new.self) (move.Fix c.args.worker c.args.page) c.fix_asked.result c.self.invariant
    c.fix_asked.ensures.moves

pub returns-clause-kept : goal.returns-clause-kept
returns-clause-kept c =
    kept_after (parts_of c.self.inside.table) (parts_of c.fix_asked.new.self) (move.Fix c.args.worker c.args.page) c.fix_asked.result c.self.invariant
    c.fix_asked.ensures.moves
