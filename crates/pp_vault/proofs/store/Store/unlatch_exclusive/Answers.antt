use Rattle.std.proofs.Common.{◌∙◌, ◌&&◌, sym, ap}
use Rattle.std.specs.Prelude.{unwrap_or}
use Rattle.pp_device.specs.Image.{with_head}
use Rattle.pp_vault.specs.Parts.{parts_of}
use Rattle.pp_vault.proofs.BackSteps.{none_some}
use Rattle.pp_vault.proofs.Unlatching.{exclusive_framed, exclusive_low, exclusive_goes_kept, exclusive_goes_acts, exclusive_unlatches}
use Rattle.pp_cert.specs.declared.note.Held.TheVariants.{X}
use Rattle.pp_model.specs.declared.moves.Move.TheVariants as move
use Rattle.pp_core.specs.Queries.{ask_of}
use Rattle.pp_vault.specs.Fits.{fits_both, asks_unlatch}
use Rattle.pp_vault.specs.Tokens.{is_long}
use Rattle.pp_vault.proofs.Done.{tells_asked}
use Rattle.pp_vault.proofs.store.Store.unlatch_exclusive.Goals as goal

pub unreachable-requires : goal.unreachable-requires
unreachable-requires c =
    none_some
    (sym c.in_default-frame_of.is ∙ c.frame_of.ensures c.requires.state c.requires.stands.core
    ∙ exclusive_framed (parts_of c.args.self.now) c.args.session c.args.guard
    (λ s st. sym (c.fits_writer-fits.ensures s st) ∙ c.in_default.ensures.none.0) c.requires)

pub put-requires : goal.put-requires
put-requires c =
    exclusive_low (parts_of c.args.self.now) (parts_of c.step_unlatch.new.self) c.args.session c.args.guard c.in-Ok.reply
    c.requires c.in-Ok.ensures.done (λ s st. sym (c.fits_writer-fits.ensures s st) ∙ c.in_default.ensures.none.0)
    (λ s st. sym (c.asks_unlatch.ensures s st) ∙ c.in_default.ensures.none.1) c.in-Some-frame_of.frame
    (λ s st. ap (λ o. unwrap_or o 0) (sym c.in-Some-frame_of.is ∙ c.frame_of.ensures s st.core))

pub session-requires-clause-kept : goal.session-requires-clause-kept
session-requires-clause-kept c =
    exclusive_goes_kept (parts_of c.args.self.now) (parts_of c.step_unlatch.new.self) c.args.session c.args.guard c.in-Ok.reply
    c.requires c.in-Ok.ensures.done (λ s st. sym (c.fits_writer-fits.ensures s st) ∙ c.in_default.ensures.none.0)
    (λ s st. sym (c.asks_unlatch.ensures s st) ∙ c.in_default.ensures.none.1) c.in-Some-frame_of.frame
    (λ s st. ap (λ o. unwrap_or o 0) (sym c.in-Some-frame_of.is ∙ c.frame_of.ensures s st.core))
    c.set_head.new.self
    (c.set_head.ensures.image ∙ ap (λ m. with_head c.args.guard.image c.args.guard.page m) c.mark_in.ensures)
    (c.set_head.ensures.head ∙ ap (λ m. (c.args.guard.page, m)) c.mark_in.ensures)
    c.set_head.ensures.length (parts_of c.put.new.self) c.put.ensures

pub session-requires-clause-acts : goal.session-requires-clause-acts
session-requires-clause-acts c =
    exclusive_goes_acts (parts_of c.args.self.now) (parts_of c.step_unlatch.new.self) c.args.session c.args.guard c.in-Ok.reply
    c.requires c.in-Ok.ensures.done (λ s st. sym (c.fits_writer-fits.ensures s st) ∙ c.in_default.ensures.none.0)
    (λ s st. sym (c.asks_unlatch.ensures s st) ∙ c.in_default.ensures.none.1) c.in-Some-frame_of.frame
    (λ s st. ap (λ o. unwrap_or o 0) (sym c.in-Some-frame_of.is ∙ c.frame_of.ensures s st.core))
    c.set_head.new.self
    (c.set_head.ensures.image ∙ ap (λ m. with_head c.args.guard.image c.args.guard.page m) c.mark_in.ensures)
    (c.set_head.ensures.head ∙ ap (λ m. (c.args.guard.page, m)) c.mark_in.ensures)
    c.set_head.ensures.length (parts_of c.put.new.self) c.put.ensures

pub returns-in-Ok-clause-ok : goal.returns-in-Ok-clause-ok
returns-in-Ok-clause-ok c =
    exclusive_unlatches (parts_of c.args.self.now) (parts_of c.step_unlatch.new.self) c.args.session c.args.guard c.in-Ok.reply
    c.requires c.in-Ok.ensures.done (λ s st. sym (c.fits_writer-fits.ensures s st) ∙ c.in_default.ensures.none.0)
    (λ s st. sym (c.asks_unlatch.ensures s st) ∙ c.in_default.ensures.none.1) c.in-Some-frame_of.frame
    (λ s st. ap (λ o. unwrap_or o 0) (sym c.in-Some-frame_of.is ∙ c.frame_of.ensures s st.core))
    c.set_head.new.self
    (c.set_head.ensures.image ∙ ap (λ m. with_head c.args.guard.image c.args.guard.page m) c.mark_in.ensures)
    (c.set_head.ensures.head ∙ ap (λ m. (c.args.guard.page, m)) c.mark_in.ensures)
    c.set_head.ensures.length (parts_of c.put.new.self) c.put.ensures c.session.result c.session.ensures

pub returns-in-Ok-clause-done : goal.returns-in-Ok-clause-done
returns-in-Ok-clause-done c =
    let old = parts_of c.args.self.now in
    let w = c.args.session.worker in
    let g = c.args.guard in
    tells_asked old (parts_of c.step_unlatch.new.self) (move.Unlatch w) c.in-Ok.reply c.in-Ok.ensures.done
    (λ s. fits_both s w g.worker g.slot g.page X && is_long old g.image) (λ s. asks_unlatch g.slot (ask_of s w))
    (λ s st. sym (c.fits_writer-fits.ensures s st) ∙ c.in_default.ensures.none.0)
    (λ s st. sym (c.asks_unlatch.ensures s st) ∙ c.in_default.ensures.none.1)
