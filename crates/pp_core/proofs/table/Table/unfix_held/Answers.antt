use Rattle.pp_core.specs.Parts.{parts_of}
use Rattle.pp_core.proofs.UsingMoves.{can_unfix, unfix_moves}
use Rattle.pp_core.proofs.table.Table.unfix_held.Goals as goal

pub give_back-requires : goal.give_back-requires
give_back-requires c =
    can_unfix (parts_of c.args.self.now) c.args.worker c.args.slot c.args.page c.requires.kept c.requires.asks
    c.requires.page

pub returns-clause-moves : goal.returns-clause-moves
returns-clause-moves c =
    unfix_moves (parts_of c.args.self.now) (parts_of c.give_back.new.self) c.args.worker c.args.slot c.args.page
    c.requires.asks c.requires.page c.give_back.ensures
