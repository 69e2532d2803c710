use Rattle.pp_core.specs.Parts.{parts_of}
use Rattle.pp_core.proofs.LeaveMoves.{leaver_plan, gone_refused, can_leave, gone_moves}
use Rattle.pp_core.proofs.table.Table.finish_gone.Goals as goal

pub holds-requires : goal.holds-requires
holds-requires c = leaver_plan (parts_of c.args.self.now) c.args.worker c.requires.kept c.requires.leaves

pub returns-then-holds-gt0-clause-moves : goal.returns-then-holds-gt0-clause-moves
returns-then-holds-gt0-clause-moves c =
    gone_refused (parts_of c.args.self.now) c.args.worker c.requires.leaves c.holds.result c.holds.ensures
    c.if-holds-gt0.true

pub end_plan-requires : goal.end_plan-requires
end_plan-requires c =
    can_leave (parts_of c.args.self.now) c.args.worker c.requires.leaves c.requires.kept c.holds.result c.holds.ensures
    c.if-holds-gt0.false

pub returns-clause-moves : goal.returns-clause-moves
returns-clause-moves c =
    gone_moves (parts_of c.args.self.now) c.args.worker c.requires.leaves (parts_of c.end_plan.new.self) c.holds.result
    c.holds.ensures c.if-holds-gt0.false c.end_plan.ensures
