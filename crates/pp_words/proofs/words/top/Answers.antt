use Rattle.std.proofs.Common.{◌≡◌, ap, ◌∙◌, rules}
use Rattle.clap.specs.Words.{app_of}
use Rattle.clap.specs.declared.builder.command.Command.TheViews.{out-Command}
use Rattle.clap.specs.Simple.{app_of_fields}
use Rattle.clap.specs.declared.builder.command.Command.{Command}
use Rattle.pp_words.specs.CommandLine.{program_alone}
use Rattle.pp_words.proofs.words.top.Goals as goal

-- a name for the texts changes nothing of how words are read
same_app : (named command : Command)
    → out-Command named ≡ record (out-Command command) { bin_name = (out-Command named).bin_name }
    → app_of named ≡ app_of command
same_app named command same = ap app_of_fields same

pub returns : goal.returns
returns c =
    let alone : app_of c.arg_required_else_help-command.result ≡ program_alone = search rules in
    same_app c.in_ok-named.named c.arg_required_else_help-command.result c.in_ok-named.ensures.0 ∙ alone
