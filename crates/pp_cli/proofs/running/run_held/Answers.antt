use Rattle.pp_judge.specs.Answers.{seen}
use Rattle.pp_cli.proofs.Ran.{told_end}
use Rattle.pp_cli.proofs.running.run_held.Goals as goal

pub returns-in-Ok-clause-comes : goal.returns-in-Ok-clause-comes
returns-in-Ok-clause-comes g c = told_end _ _ _ c.in-Ok.done (seen c.ended.result) c.in-Ok.ensures.journal c.ended.ensures.comes
