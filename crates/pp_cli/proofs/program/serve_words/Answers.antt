use Rattle.std.proofs.Common.{map}
use Rattle.pp_judge.specs.Answers.{seen}
use Rattle.pp_words.specs.CommandLine.{asked}
use Rattle.pp_cli.proofs.Misused.{misused_writes}
use Rattle.pp_cli.proofs.program.serve_words.Goals as goal

pub returns-clause-words : goal.returns-clause-words
returns-clause-words g c =
    misused_writes (asked (map g.S.AsStr.text c.args.words.now)) (map g.S.AsStr.text c.args.words.now)
    (seen c.exit_of_words-exit.result) (seen c.tell.result.exit) c.status.result c.exit_of_words-exit.ensures.comes
    c.tell.ensures.told c.status.ensures
