-- What is left to show of Table::new: a search that has passed over no page knows nothing wrong.
use Rattle.std.proofs.Common.{ap, arith}
use Rattle.std.specs.Prelude.{None}
use Rattle.pp_arc.specs.FourLists.{FourLists}
use Rattle.pp_core.specs.Busy.{is_busy_in}
use Rattle.pp_core.proofs.table.Table.new.Goals as goal

pub invariant_of-result-clause-knows : goal.invariant_of-result-clause-knows
invariant_of-result-clause-knows c =
    c.in_ok-search.ensures.knows c.in_ok-directory.directory (is_busy_in c.in_ok-marks.marks None)
    (omega (arith, ap (λ (w : FourLists). w.pages) c.in_ok-directory.ensures.empty))
