use Rattle.pp_judge.specs.Answers.{seen}
use Rattle.pp_words.specs.CommandLine.{text_in}
use Rattle.pp_cli.proofs.Putting.{annotated_put}
use Rattle.pp_cli.proofs.files.annotate.Goals as goal

pub returns-clause-comes : goal.returns-clause-comes
returns-clause-comes g c =
    annotated_put (text_in c.args.paths.output) c.args.paths.settings.now c.args.paths.plan.now c.as_slice.result.now
    c.as_slice-2.result.now c.exit_of-exit.result (seen c.put_out.result) c.exit_of-exit.ensures c.put_out.ensures
