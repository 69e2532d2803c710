use Rattle.std.proofs.Common.{◌∙◌, sym, ap, subst}
use Rattle.std.specs.Prelude.{unwrap_or}
use Rattle.pp_cert.specs.declared.note.Held.TheVariants.{Free}
use Rattle.pp_plan.specs.declared.mode.Mode.TheVariants as mode
use Rattle.pp_vault.specs.Parts.{Parts, parts_of}
use Rattle.pp_vault.specs.StandsFor.{IsKept}
use Rattle.pp_vault.specs.Tokens.{ActsIn, SessionFits}
use Rattle.pp_vault.specs.Uses.{LatchesExclusive}
use Rattle.pp_vault.proofs.BackSteps.{none_some}
use Rattle.pp_vault.proofs.FitTests.{guard_held}
use Rattle.pp_vault.proofs.HeldFrames.{held_framed}
use Rattle.pp_vault.proofs.Writing.{exclusive_there, exclusive_kept, exclusive_acts, exclusive_latches}
use Rattle.pp_model.specs.declared.moves.Move.TheVariants as move
use Rattle.pp_core.specs.Queries.{ask_of}
use Rattle.pp_vault.specs.Fits.{fits_both, asks_latch}
use Rattle.pp_vault.proofs.Done.{tells_asked}
use Rattle.pp_vault.proofs.store.Store.latch_exclusive.Goals as goal

pub unreachable-requires : goal.unreachable-requires
unreachable-requires c =
    none_some
    (sym c.in_default-frame_of.is ∙ c.frame_of.ensures c.requires.state c.requires.stands.core
    ∙ held_framed c.requires.state c.requires.stands.core.reached c.args.session.worker c.args.guard.slot c.args.guard.page Free
    (guard_held c.requires.state c.args.session.worker c.args.guard.worker c.args.guard.slot c.args.guard.page Free
    (sym (c.fits_both-fits.ensures c.requires.state c.requires.stands) ∙ c.in_default.ensures.none.0)))

pub take_out-image-requires : goal.take_out-image-requires
take_out-image-requires c =
    exclusive_there (parts_of c.args.self.now) (parts_of c.step_latch.new.self) c.args.session c.args.guard c.in-Ok.reply
    c.requires c.in-Ok.ensures.done (λ s st. sym (c.fits_both-fits.ensures s st) ∙ c.in_default.ensures.none.0)
    (λ s st. sym (c.asks_latch.ensures s st) ∙ c.in_default.ensures.none.1) c.in-Some-frame_of.frame
    (λ s st. ap (λ o. unwrap_or o 0) (sym c.in-Some-frame_of.is ∙ c.frame_of.ensures s st.core))

pub session-requires-clause-kept : goal.session-requires-clause-kept
session-requires-clause-kept c =
    subst (λ (v : Parts). IsKept v) (sym c.take_out-image.ensures.rest)
    (exclusive_kept (parts_of c.args.self.now) (parts_of c.step_latch.new.self) c.args.session c.args.guard c.in-Ok.reply
    c.requires c.in-Ok.ensures.done (λ s st. sym (c.fits_both-fits.ensures s st) ∙ c.in_default.ensures.none.0)
    (λ s st. sym (c.asks_latch.ensures s st) ∙ c.in_default.ensures.none.1) c.in-Some-frame_of.frame
    (λ s st. ap (λ o. unwrap_or o 0) (sym c.in-Some-frame_of.is ∙ c.frame_of.ensures s st.core)))

pub session-requires-clause-acts : goal.session-requires-clause-acts
session-requires-clause-acts c =
    subst (λ (v : Parts). ActsIn v c.args.session.worker) (sym c.take_out-image.ensures.rest)
    (exclusive_acts (parts_of c.args.self.now) (parts_of c.step_latch.new.self) c.args.session c.args.guard c.in-Ok.reply
    c.requires c.in-Ok.ensures.done (λ s st. sym (c.fits_both-fits.ensures s st) ∙ c.in_default.ensures.none.0)
    (λ s st. sym (c.asks_latch.ensures s st) ∙ c.in_default.ensures.none.1) c.in-Some-frame_of.frame
    (λ s st. ap (λ o. unwrap_or o 0) (sym c.in-Some-frame_of.is ∙ c.frame_of.ensures s st.core)))

pub returns-in-Ok-clause-ok : goal.returns-in-Ok-clause-ok
returns-in-Ok-clause-ok c =
    subst
    (λ (v : Parts). LatchesExclusive (parts_of c.args.self.now) c.args.session c.args.guard v c.session.result
    (record {
      worker = c.args.session.worker;
      slot = c.args.guard.slot;
      page = c.args.guard.page;
      mark = c.mark_in-mark.result;
      image = c.take_out-image.result;
    }))
    (sym c.take_out-image.ensures.rest)
    (exclusive_latches (parts_of c.args.self.now) (parts_of c.step_latch.new.self) c.args.session c.args.guard c.in-Ok.reply
    c.requires c.in-Ok.ensures.done (λ s st. sym (c.fits_both-fits.ensures s st) ∙ c.in_default.ensures.none.0)
    (λ s st. sym (c.asks_latch.ensures s st) ∙ c.in_default.ensures.none.1) c.in-Some-frame_of.frame
    (λ s st. ap (λ o. unwrap_or o 0) (sym c.in-Some-frame_of.is ∙ c.frame_of.ensures s st.core))
    c.session.result c.mark_in-mark.result c.take_out-image.result c.mark_in-mark.ensures
    c.take_out-image.ensures.image
    (subst (λ (v : Parts). SessionFits v c.args.session.worker c.session.result) c.take_out-image.ensures.rest
    c.session.ensures))

pub returns-in-Ok-clause-done : goal.returns-in-Ok-clause-done
returns-in-Ok-clause-done c =
    let old = parts_of c.args.self.now in
    let w = c.args.session.worker in
    let g = c.args.guard in
    tells_asked old (parts_of c.step_latch.new.self) (move.Latch w) c.in-Ok.reply c.in-Ok.ensures.done
    (λ s. fits_both s w g.worker g.slot g.page Free) (λ s. asks_latch g.slot mode.X (ask_of s w))
    (λ s st. sym (c.fits_both-fits.ensures s st) ∙ c.in_default.ensures.none.0)
    (λ s st. sym (c.asks_latch.ensures s st) ∙ c.in_default.ensures.none.1)
