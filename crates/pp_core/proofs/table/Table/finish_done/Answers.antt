use Rattle.std.proofs.Common.{subst}
use Rattle.pp_core.specs.Parts.{parts_of}
use Rattle.pp_core.specs.StandsFor.{Asks}
use Rattle.pp_core.proofs.LeaveMoves.{done_refused, can_count, can_finish, done_moves}
use Rattle.pp_core.proofs.table.Table.finish_done.Goals as goal

pub returns-in-Err-clause-moves : goal.returns-in-Err-clause-moves
returns-in-Err-clause-moves c =
    done_refused (parts_of c.args.self.now) c.args.worker c.in-Err.cause c.requires.stays c.in-Err.ensures.cause

pub left_of_plan-left-requires : goal.left_of_plan-left-requires
left_of_plan-left-requires c =
    let f = parts_of c.args.self.now in
    can_count f c.args.worker (subst (Asks f c.args.worker) c.in-End.is c.in-Ok.ensures.asks) c.requires.kept

pub end_plan-requires : goal.end_plan-requires
end_plan-requires c =
    let f = parts_of c.args.self.now in
    can_finish f c.args.worker (subst (Asks f c.args.worker) c.in-End.is c.in-Ok.ensures.asks) c.requires.kept
    c.left_of_plan-left.result c.left_of_plan-left.ensures

pub returns-clause-moves : goal.returns-clause-moves
returns-clause-moves c =
    let f = parts_of c.args.self.now in
    done_moves f c.args.worker (subst (Asks f c.args.worker) c.in-End.is c.in-Ok.ensures.asks)
    (parts_of c.end_plan.new.self) c.left_of_plan-left.result c.left_of_plan-left.ensures c.end_plan.ensures
