use Rattle.std.proofs.Common.{◌∙◌}
use Rattle.pp_report.specs.Reports.{heading, figures, figure_lines}
use Rattle.pp_report.proofs.Complete.{tells_each_plan}
use Rattle.pp_report.proofs.OneMore.{together}
use Rattle.pp_report.proofs.reporting.report.Goals as goal

pub returns-clause-text : goal.returns-clause-text
returns-clause-text c =
    let run = c.args.run.now in
    together _ _ _ heading _ run.plans run.events.items (figure_lines run figures) c.in_ok-text.ensures.ok
    (c.as_slice.ensures.value ∙ c.in_ok-rows.ensures)
    c.in_ok-push_rows.ensures c.in_ok-push_figures.ensures

pub returns-clause-plans : goal.returns-clause-plans
returns-clause-plans c = tells_each_plan c.args.run.now _ (returns-clause-text c)
