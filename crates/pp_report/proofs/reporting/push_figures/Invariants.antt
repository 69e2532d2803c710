use Rattle.std.proofs.Common.{◌≡◌, ◌++◌, string_bytes, drop}
use Rattle.pp_report.specs.Reports.{figure_lines}
use Rattle.pp_report.proofs.reporting.push_figures.Given as goal

abbrev pub invariant-loop-figure : goal.invariant-loop-figure
invariant-loop-figure l = string_bytes l.fn.text ++ figure_lines l.run l.figures
    ≡ string_bytes l.text ++ figure_lines l.run (drop l.figure-index l.figures)
