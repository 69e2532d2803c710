use Rattle.pp_words.specs.CommandLine.{program_alone, segments_command}
use Rattle.pp_words.proofs.Commands.{added}
use Rattle.pp_words.proofs.words.segments_command.Goals as goal

pub returns : goal.returns
returns c = added _ _ _ program_alone segments_command c.in_ok-whole.ensures c.in_ok-command.ensures c.in_ok-top.ensures
