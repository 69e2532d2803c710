use Rattle.std.proofs.Common.{◌<◌, subst, arith}
use Rattle.pp_core.specs.Parts.{parts_of}
use Rattle.pp_core.specs.StandsFor.{Asks}
use Rattle.pp_core.proofs.LatchMoves.{can_choose, choose_moves}
use Rattle.pp_core.proofs.table.Table.choose.Goals as goal

pub spend-requires : goal.spend-requires
spend-requires c =
    let f = parts_of c.args.self.now in
    let asks = subst (Asks f c.args.worker) c.in-Choose.is c.in-Ok.ensures.asks in
    let lt : c.args.branch < c.in-Choose.branches = omega arith in
    can_choose f c.args.worker c.in-Choose.branches c.args.branch asks lt c.requires

pub returns-clause-moves : goal.returns-clause-moves
returns-clause-moves c =
    let f = parts_of c.args.self.now in
    let asks = subst (Asks f c.args.worker) c.in-Choose.is c.in-Ok.ensures.asks in
    let lt : c.args.branch < c.in-Choose.branches = omega arith in
    choose_moves f c.args.worker c.in-Choose.branches c.args.branch asks lt (parts_of c.spend.new.self) c.spend.ensures
