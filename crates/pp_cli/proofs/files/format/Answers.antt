use Rattle.pp_judge.specs.Steps.{is_want_of_memory}
use Rattle.pp_cli.proofs.Formatting.{refused_format}
use Rattle.pp_cli.proofs.files.format.Goals as goal

pub returns-clause-comes : goal.returns-clause-comes
returns-clause-comes g c =
    refused_format (is_want_of_memory c.in-Err.refusal) c.args.paths.settings.now c.args.paths.device.now
    c.as_slice.result.now c.in-Err.refusal c.from-exit.result c.from-exit.ensures c.in-Err.ensures.exact
