use Rattle.std.proofs.Common.{codes}
use Rattle.clap.specs.Simple.{new_app}
use Rattle.pp_words.specs.CommandLine.{number_rule, option_rule, path_rule, paths_rule}
use Rattle.pp_words.proofs.Commands.{IsApp, given, with_about, with_after_help}
use Rattle.pp_words.proofs.run.RunPaths.command.Goals as goal

pub returns : goal.returns
returns c =
    let begun : IsApp c.about.result (new_app (codes "run")) =
    with_about _ _ _ _ c.about.ensures
    (with_after_help _ _ _ _ c.after_help.ensures (c.new.ensures.local, c.new.ensures.app)) in
    given _ _ _ (option_rule (codes "trace")) _ c.in_ok-command.ensures c.option-2.ensures.rule
    c.option-2.ensures.local
    (given _ _ _ (paths_rule (codes "plans")) _ c.in_ok-arg-5.ensures c.plans_to_run.ensures.rule
    c.plans_to_run.ensures.local
    (given _ _ _ (number_rule (codes "seed")) _ c.in_ok-arg-4.ensures c.number.ensures.rule
    c.number.ensures.local
    (given _ _ _ (path_rule (codes "device")) _ c.in_ok-arg-3.ensures c.path.ensures.rule
    c.path.ensures.local
    (given _ _ _ (path_rule (codes "settings")) _ c.in_ok-arg-2.ensures c.settings.ensures.rule
    c.settings.ensures.local
    (given _ _ _ (option_rule (codes "journal")) _ c.in_ok-arg.ensures c.option.ensures.rule
    c.option.ensures.local begun)))))
