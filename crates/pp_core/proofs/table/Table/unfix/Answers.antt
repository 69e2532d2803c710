use Rattle.std.proofs.Common.{refl, subst}
use Rattle.pp_core.specs.Parts.{parts_of}
use Rattle.pp_core.specs.StandsFor.{Asks}
use Rattle.pp_core.proofs.UsingMoves.{has_seat, can_scatter, scatter_moves, unfix_unasked}
use Rattle.pp_core.proofs.table.Table.unfix.Goals as goal

pub page_in-page-requires : goal.page_in-page-requires
page_in-page-requires c =
    let f = parts_of c.args.self.now in
    has_seat f c.args.worker c.in-Ok.ask c.requires c.in-Ok.ensures.asks

pub unfix_held-requires-clause-asks : goal.unfix_held-requires-clause-asks
unfix_held-requires-clause-asks c =
    subst (Asks (parts_of c.args.self.now) c.args.worker) c.in-Unfix.is c.in-Ok.ensures.asks

pub give_bundle_back-requires : goal.give_bundle_back-requires
give_bundle_back-requires c =
    let f = parts_of c.args.self.now in
    let asks = subst (Asks f c.args.worker) c.in-Scatter.is c.in-Ok.ensures.asks in
    can_scatter f c.args.worker c.in-Scatter.slot c.requires asks

pub returns-in-Scatter-clause-moves : goal.returns-in-Scatter-clause-moves
returns-in-Scatter-clause-moves c =
    let f = parts_of c.args.self.now in
    let asks = subst (Asks f c.args.worker) c.in-Scatter.is c.in-Ok.ensures.asks in
    scatter_moves f (parts_of c.give_bundle_back.new.self) c.args.worker c.in-Scatter.slot asks
    c.give_bundle_back.ensures

pub returns-in_default : goal.returns-in_default
returns-in_default c = record {
  moves = unfix_unasked (parts_of c.args.self.now) c.args.worker c.in-Ok.ask c.in-Ok.ensures.asks
      c.in_default.not-Unfix c.in_default.not-Scatter;
  refusal = λ is. refl;
}
