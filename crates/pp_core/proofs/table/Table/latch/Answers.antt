use Rattle.std.proofs.Common.{subst}
use Rattle.pp_core.specs.Parts.{parts_of}
use Rattle.pp_core.specs.StandsFor.{Asks}
use Rattle.pp_core.proofs.UsingMoves.{has_seat}
use Rattle.pp_core.proofs.table.Table.latch.Goals as goal

pub page_in-page-requires : goal.page_in-page-requires
page_in-page-requires c =
    has_seat (parts_of c.args.self.now) c.args.worker c.in-Ok.ask c.requires c.in-Ok.ensures.asks

pub latch_held-requires-clause-asks : goal.latch_held-requires-clause-asks
latch_held-requires-clause-asks c =
    subst (Asks (parts_of c.args.self.now) c.args.worker) c.in-Latch.is c.in-Ok.ensures.asks
