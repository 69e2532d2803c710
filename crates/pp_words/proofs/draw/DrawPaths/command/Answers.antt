use Rattle.std.proofs.Common.{codes}
use Rattle.clap.specs.Simple.{new_app}
use Rattle.pp_words.specs.CommandLine.{output_rule, path_rule, paths_rule}
use Rattle.pp_words.proofs.Commands.{IsApp, given, with_about, with_after_help}
use Rattle.pp_words.proofs.draw.DrawPaths.command.Goals as goal

pub returns : goal.returns
returns c =
    let begun : IsApp c.about.result (new_app (codes "draw")) =
    with_about _ _ _ _ c.about.ensures
    (with_after_help _ _ _ _ c.after_help.ensures (c.new.ensures.local, c.new.ensures.app)) in
    given _ _ _ output_rule _ c.in_ok-command.ensures c.output.ensures.rule c.output.ensures.local
    (given _ _ _ (paths_rule (codes "plans")) _ c.in_ok-arg-3.ensures c.plans_of_journal.ensures.rule
    c.plans_of_journal.ensures.local
    (given _ _ _ (path_rule (codes "journal")) _ c.in_ok-arg-2.ensures c.journal.ensures.rule c.journal.ensures.local
    (given _ _ _ (path_rule (codes "settings")) _ c.in_ok-arg.ensures c.settings.ensures.rule
    c.settings.ensures.local begun)))
