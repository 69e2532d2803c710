use Rattle.pp_model.specs.declared.moves.Move.TheVariants as move
use Rattle.pp_vault.specs.Parts.{parts_of}
use Rattle.pp_vault.proofs.CoreSteps.{step_done, step_refused}
use Rattle.pp_vault.proofs.store.Store.step_read_done.Goals as goal

pub returns-clause-done : goal.returns-clause-done
returns-clause-done c =
    step_done (parts_of c.args.self.now) c.read_done.new.self (move.ReadDone c.args.worker c.args.came) c.read_done.result c.read_done.ensures.moves c.read_done.ensures.refusal
    c.answered.result c.answered.ensures.done

pub returns-clause-refused : goal.returns-clause-refused
returns-clause-refused c =
    step_refused (parts_of c.args.self.now) c.read_done.new.self (move.ReadDone c.args.worker c.args.came) c.read_done.result c.read_done.ensures.moves c.read_done.ensures.refusal
    c.answered.result c.answered.ensures.refused
