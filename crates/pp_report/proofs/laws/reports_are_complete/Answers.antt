use Rattle.pp_report.proofs.Complete.{each_has_row}
use Rattle.pp_report.proofs.laws.reports_are_complete.Goals as goal

pub returns : goal.returns
returns c = record { each = each_has_row }
