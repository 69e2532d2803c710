use Rattle.pp_words.specs.CommandLine.{annotate_command, audit_command, check_command, draw_command, format_command}
use Rattle.pp_words.specs.CommandLine.{program_alone, run_command, simulate_command}
use Rattle.pp_words.proofs.Commands.{added}
use Rattle.pp_words.proofs.words.command.Goals as goal

pub returns : goal.returns
returns c =
    added _ _ _ _ draw_command c.in_ok-whole.ensures c.in_ok-command-7.ensures
    (added _ _ _ _ audit_command c.in_ok-subcommand-6.ensures c.in_ok-command-6.ensures
    (added _ _ _ _ run_command c.in_ok-subcommand-5.ensures c.in_ok-command-5.ensures
    (added _ _ _ _ format_command c.in_ok-subcommand-4.ensures c.in_ok-command-4.ensures
    (added _ _ _ _ simulate_command c.in_ok-subcommand-3.ensures c.in_ok-command-3.ensures
    (added _ _ _ _ annotate_command c.in_ok-subcommand-2.ensures c.in_ok-command-2.ensures
    (added _ _ _ program_alone check_command c.in_ok-subcommand.ensures c.in_ok-command.ensures c.in_ok-top.ensures))))))
