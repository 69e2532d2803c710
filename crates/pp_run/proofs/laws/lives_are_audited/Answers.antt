use Rattle.std.specs.Prelude.{map, ◌++◌}
use Rattle.pp_report.specs.Lives.{plans_of}
use Rattle.pp_run.proofs.Lived.{whole_journals}
use Rattle.pp_run.proofs.laws.lives_are_audited.Goals as goal

pub returns : goal.returns
returns c = λ conf lives p plans bounded lived are life over.
    c.whole_lives_are_audited.ensures.verdict conf (plans_of lives ++ plans) bounded
    (whole_journals conf lives p plans (map (λ events. events.items) c.args.journals.now) c.args.last.now.items lived are life over)
