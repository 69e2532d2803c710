use Rattle.pp_report.proofs.Stepped.{stepped}
use Rattle.pp_report.proofs.auditor.Auditor.step.Goals as goal

pub returns : goal.returns
returns c = λ p at.
    stepped c.args.self.now c.step.new.self c.args.did c.step.result c.told.result p at c.step.ensures.moves
    c.step.ensures.refusal c.told.ensures
