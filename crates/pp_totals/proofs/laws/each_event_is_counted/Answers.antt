use Rattle.pp_totals.proofs.Sums.{each_counted}
use Rattle.pp_totals.proofs.laws.each_event_is_counted.Goals as goal

pub returns : goal.returns
returns c = each_counted
