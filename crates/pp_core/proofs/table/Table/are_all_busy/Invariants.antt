use Rattle.pp_core.specs.Parts.{parts_of}
use Rattle.pp_core.proofs.RefusalTies.{AllBusyBelow}
use Rattle.pp_core.proofs.table.Table.are_all_busy.Given as goal

abbrev pub invariant-loop-page : goal.invariant-loop-page
invariant-loop-page l = AllBusyBelow (parts_of l.self) l.page
