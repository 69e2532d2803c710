use Rattle.std.proofs.Common.{subst}
use Rattle.pp_plan.specs.declared.action.Ask.TheVariants as ask
use Rattle.pp_cert.specs.declared.note.Held.TheVariants.{Free}
use Rattle.pp_model.specs.declared.moves.Move.TheVariants as move
use Rattle.pp_model.specs.Pool.{State}
use Rattle.pp_core.specs.Parts.{Parts, parts_of}
use Rattle.pp_core.specs.StandsFor.{StandsFor}
use Rattle.pp_core.proofs.Standing.{headline_holds, kept_after, budget_of_inside}
use Rattle.pp_core.proofs.HoldingTies.{asks_so, page_so}
use Rattle.pp_core.proofs.machine.Core.latch_held.Goals as goal

pub latch_held-requires : goal.latch_held-requires
latch_held-requires c =
    let f = parts_of c.self.inside.table in
    let told = λ (s : State) (st : StandsFor f s). c.requires s (subst (λ (g : Parts). StandsFor g s) c.self.view_is st) in
    record {
      kept = c.self.invariant;
      asks = asks_so f c.args.worker c.args.slot c.args.page Free (ask.Latch c.args.slot c.args.mode) told;
      page = page_so f c.args.worker c.args.slot c.args.page Free (ask.Latch c.args.slot c.args.mode) told c.self.invariant;
    }

pub returns-clause-headline : goal.returns-clause-headline
returns-clause-headline c = headline_holds (parts_of c.latch_held.new.self)

pub returns-clause-budget : goal.returns-clause-budget
returns-clause-budget c =
    budget_of_inside c.self.view_is c.self.invariant (parts_of c.latch_held.new.self) (move.Latch c.args.worker) c.latch_held.result
    c.latch_held.ensures.moves

pub invariant_of-self : goal.invariant_of-self
invariant_of-self c =
    kept_after (parts_of c.self.inside.table) (parts_of c.latch_held.new.self) (move.Latch c.args.worker) c.latch_held.result
    c.self.invariant c.latch_held.ensures.moves

pub returns-clause-kept : goal.returns-clause-kept
returns-clause-kept c =
    kept_after (parts_of c.self.inside.table) (parts_of c.latch_held.new.self) (move.Latch c.args.worker) c.latch_held.result
    c.self.invariant c.latch_held.ensures.moves
