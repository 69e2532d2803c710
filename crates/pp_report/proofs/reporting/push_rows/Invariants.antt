use Rattle.std.proofs.Common.{◌≡◌, ◌++◌, string_bytes, drop, flat_map}
use Rattle.pp_report.specs.Reports.{row_line}
use Rattle.pp_report.proofs.reporting.push_rows.Given as goal

abbrev pub invariant-loop-row : goal.invariant-loop-row
invariant-loop-row l = string_bytes l.fn.text ++ flat_map row_line l.rows
    ≡ string_bytes l.text ++ flat_map row_line (drop l.row-index l.rows)
