use Rattle.pp_model.specs.declared.moves.Move.TheVariants as move
use Rattle.pp_vault.specs.Parts.{parts_of}
use Rattle.pp_vault.proofs.CoreSteps.{step_done, step_refused}
use Rattle.pp_vault.proofs.store.Store.step_fix.Goals as goal

pub returns-clause-done : goal.returns-clause-done
returns-clause-done c =
    step_done (parts_of c.args.self.now) c.fix_asked.new.self (move.Fix c.args.worker c.args.page) c.fix_asked.result c.fix_asked.ensures.moves c.fix_asked.ensures.refusal
    c.answered.result c.answered.ensures.done

pub returns-clause-refused : goal.returns-clause-refused
returns-clause-refused c =
    step_refused (parts_of c.args.self.now) c.fix_asked.new.self (move.Fix c.args.worker c.args.page) c.fix_asked.result c.fix_asked.ensures.moves c.fix_asked.ensures.refusal
    c.answered.result c.answered.ensures.refused
