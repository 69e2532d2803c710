use Rattle.std.proofs.Common.{codes}
use Rattle.clap.specs.Simple.{new_app}
use Rattle.pp_words.specs.CommandLine.{flag_rule, path_rule, paths_rule}
use Rattle.pp_words.proofs.Commands.{IsApp, given, with_about, with_after_help, with_usage}
use Rattle.pp_words.proofs.segments.SegmentsPaths.command.Goals as goal

pub returns : goal.returns
returns c =
    let begun : IsApp c.about.result (new_app (codes "audit")) =
    with_about _ _ _ _ c.about.ensures
    (with_after_help _ _ _ _ c.after_help.ensures
    (with_usage _ _ _ _ c.override_usage.ensures (c.new.ensures.local, c.new.ensures.app))) in
    given _ _ _ (paths_rule (codes "plans")) _ c.in_ok-command.ensures c.paths.ensures.rule c.paths.ensures.local
    (given _ _ _ (path_rule (codes "settings")) _ c.in_ok-arg-3.ensures c.settings.ensures.rule c.settings.ensures.local
    (given _ _ _ (flag_rule (codes "ended")) _ c.in_ok-arg-2.ensures c.flag-2.ensures.rule c.flag-2.ensures.local
    (given _ _ _ (flag_rule (codes "segments")) _ c.in_ok-arg.ensures c.flag.ensures.rule c.flag.ensures.local begun)))
