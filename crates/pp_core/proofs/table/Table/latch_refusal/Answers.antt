use Rattle.std.proofs.Common.{◌∙◌, subst, refl, sym, ap}
use Rattle.pp_frames.specs.declared.mode.Mode.{Mode}
use Rattle.pp_frames.specs.Marks.{is_compatible, latches_of}
use Rattle.pp_model.specs.declared.moves.Move.TheVariants as move
use Rattle.pp_model.specs.declared.reply.Reply.TheVariants.{NotNow}
use Rattle.pp_model.specs.declared.refusals.Delay.TheVariants.{LatchHeld}
use Rattle.pp_core.specs.Parts.{parts_of}
use Rattle.pp_core.specs.StandsFor.{Asks}
use Rattle.pp_core.proofs.UsingMoves.{has_seat, latch_refused}
use Rattle.pp_core.proofs.RefusalTies.{refused_so, latch_possible}
use Rattle.pp_core.proofs.table.Table.latch_refusal.Goals as goal

pub page_in-page-requires : goal.page_in-page-requires
page_in-page-requires c =
    let f = parts_of c.args.self.now in
    has_seat f c.args.worker c.in-Ok.ask c.requires c.in-Ok.ensures.asks

pub returns-then-not-can_grant : goal.returns-then-not-can_grant
returns-then-not-can_grant c =
    let f = parts_of c.args.self.now in
    let page = c.page_in-page.result in
    let asks = subst (Asks f c.args.worker) c.in-Latch.is c.in-Ok.ensures.asks in
    let told = c.can_grant.ensures.value
    ∙ ap (λ (m : Mode). is_compatible m (latches_of f.marks page)) c.latch_mode.ensures in
    refused_so f (move.Latch c.args.worker) (NotNow LatchHeld) refl
    (latch_refused f c.args.worker c.in-Latch.slot page c.in-Latch.mode asks c.page_in-page.ensures f.marks
    (sym c.if-not-can_grant.true ∙ told) refl)

pub returns : goal.returns
returns c =
    let f = parts_of c.args.self.now in
    let page = c.page_in-page.result in
    let asks = subst (Asks f c.args.worker) c.in-Latch.is c.in-Ok.ensures.asks in
    let told = c.can_grant.ensures.value
    ∙ ap (λ (m : Mode). is_compatible m (latches_of f.marks page)) c.latch_mode.ensures in
    latch_possible f c.args.worker c.in-Latch.slot page c.in-Latch.mode asks c.page_in-page.ensures
    (sym c.if-not-can_grant.false ∙ told)
