use Rattle.std.proofs.Common.{◌∙◌, ap, sym, subst}
use Rattle.pp_frames.specs.Marks.{is_compatible, latches_of}
use Rattle.pp_frames.specs.declared.mode.Mode.{Mode}
use Rattle.pp_model.specs.Turns.{is_stopped_at}
use Rattle.pp_core.specs.Parts.{parts_of}
use Rattle.pp_core.specs.StandsFor.{Asks}
use Rattle.pp_core.proofs.UsingMoves.{has_seat}
use Rattle.pp_core.proofs.TurnTies.{latch_tells}
use Rattle.pp_core.proofs.table.Table.is_stopped_at.Goals as goal

pub page_in-page-requires : goal.page_in-page-requires
page_in-page-requires c =
    has_seat (parts_of c.args.self.now) c.args.worker c.args.ask c.requires.kept c.requires.asks

pub returns-in-Latch : goal.returns-in-Latch
returns-in-Latch c = λ s r st at.
    let f = parts_of c.args.self.now in
    let page = c.page_in-page.result in
    let asks = subst (Asks f c.args.worker) c.in-Latch.is c.requires.asks in
    let told = c.can_grant.ensures.value
    ∙ ap (λ (m : Mode). is_compatible m (latches_of f.marks page)) c.latch_mode.ensures in
    latch_tells f c.args.worker c.in-Latch.slot page c.in-Latch.mode c.can_grant.result asks c.page_in-page.ensures told
    s r st at
    ∙ ap (is_stopped_at s r) (sym c.in-Latch.is)
