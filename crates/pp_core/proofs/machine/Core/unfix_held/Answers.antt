use Rattle.std.proofs.Common.{subst}
use Rattle.pp_plan.specs.declared.action.Ask.TheVariants as ask
use Rattle.pp_cert.specs.declared.note.Held.TheVariants.{Free}
use Rattle.pp_model.specs.declared.moves.Move.TheVariants as move
use Rattle.pp_model.specs.Pool.{State}
use Rattle.pp_core.specs.Parts.{Parts, parts_of}
use Rattle.pp_core.specs.StandsFor.{StandsFor}
use Rattle.pp_core.proofs.Standing.{headline_holds, kept_after, budget_of_inside}
use Rattle.pp_core.proofs.HoldingTies.{asks_so, page_so}
use Rattle.pp_core.proofs.machine.Core.unfix_held.Goals as goal

pub unfix_held-requires : goal.unfix_held-requires
unfix_held-requires c =
    let f = parts_of c.self.inside.table in
    let told = λ (s : State) (st : StandsFor f s). c.requires s (subst (λ (g : Parts). StandsFor g s) c.self.view_is st) in
    record {
      kept = c.self.invariant;
      asks = asks_so f c.args.worker c.args.slot c.args.page Free (ask.Unfix c.args.slot) told;
      page = page_so f c.args.worker c.args.slot c.args.page Free (ask.Unfix c.args.slot) told c.self.invariant;
    }

pub returns-clause-headline : goal.returns-clause-headline
returns-clause-headline c = headline_holds (parts_of c.unfix_held.new.self)

pub returns-clause-budget : goal.returns-clause-budget
returns-clause-budget c =
    budget_of_inside c.self.view_is c.self.invariant (parts_of c.unfix_held.new.self) (move.Unfix c.args.worker) c.unfix_held.result
    c.unfix_held.ensures.moves

pub invariant_of-self : goal.invariant_of-self
invariant_of-self c =
    kept_after (parts_of c.self.inside.table) (parts_of c.unfix_held.new.self) (move.Unfix c.args.worker) c.unfix_held.result
    c.self.invariant c.unfix_held.ensures.moves

pub returns-clause-kept : goal.returns-clause-kept
returns-clause-kept c =
    kept_after (parts_of c.self.inside.table) (parts_of c.unfix_held.new.self) (move.Unfix c.args.worker) c.unfix_held.result
    c.self.invariant c.unfix_held.ensures.moves
