-- A command line with one command more, and a command with one argument more.
use Rattle.std.proofs.Common.{◌≡◌, ◌||◌, false, ap, ap₂, ◌∙◌, Some}
use Rattle.clap.specs.Built.{AddsArg, AddsSubcommand}
use Rattle.clap.specs.Simple.{App, app_of, app_of_fields, with_rule, with_subcommand}
use Rattle.clap.specs.Walk.{Rule, rule_of}
use Rattle.clap.specs.declared.builder.arg.Arg.{Arg}
use Rattle.clap.specs.declared.builder.command.Command.{Command}
use Rattle.clap.specs.declared.builder.command.Command.TheOpen.{Command-F}
use Rattle.clap.specs.declared.builder.command.Command.TheViews.{out-Command}

pub added : (old sub new : Command) (before command : App) → AddsSubcommand old sub new
    → ((out-Command sub).has_globals ≡ false) × (app_of sub ≡ command) → app_of old ≡ before
    → app_of new ≡ with_subcommand before command.top
added old sub new before command adds is was =
    adds.shape is.0 ∙ ap (λ (a : App). with_subcommand a (app_of sub).top) was
    ∙ ap (λ (a : App). with_subcommand before a.top) is.1

-- A command of this app, with no argument that counts everywhere.
abbrev pub IsApp : Command → App → Type 0
IsApp command app = ((out-Command command).has_globals ≡ false) × (app_of command ≡ app)

pub given : (old new : Command) (arg : Arg) (rule : Rule) (before : App) → AddsArg old arg new → rule_of arg ≡ rule
    → arg.global ≡ false → IsApp old before → IsApp new (with_rule before rule)
given old new arg rule before adds is local was = (
  adds.globals ∙ ap₂ (λ a b. a || b) was.0 local,
  adds.shape local ∙ ap₂ with_rule was.1 is,
)

-- Texts for people change nothing of how words are read.
pub with_about : (old new : Command) (text : _) (app : App)
    → out-Command new ≡ record (out-Command old) { about = Some text } → IsApp old app → IsApp new app
with_about old new text app adds was =
    (ap (λ (f : Command-F Command). f.has_globals) adds ∙ was.0, ap app_of_fields adds ∙ was.1)

pub with_after_help : (old new : Command) (text : _) (app : App)
    → out-Command new ≡ record (out-Command old) { after_help = Some text } → IsApp old app → IsApp new app
with_after_help old new text app adds was =
    (ap (λ (f : Command-F Command). f.has_globals) adds ∙ was.0, ap app_of_fields adds ∙ was.1)

pub with_usage : (old new : Command) (text : _) (app : App)
    → out-Command new ≡ record (out-Command old) { usage_str = Some text } → IsApp old app → IsApp new app
with_usage old new text app adds was =
    (ap (λ (f : Command-F Command). f.has_globals) adds ∙ was.0, ap app_of_fields adds ∙ was.1)
