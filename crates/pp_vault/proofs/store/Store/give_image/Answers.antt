use Rattle.std.proofs.Common.{◌∙◌, ◌&&◌, sym, ap}
use Rattle.std.specs.Prelude.{unwrap_or}
use Rattle.pp_device.specs.Image.{with_head}
use Rattle.pp_vault.specs.Parts.{parts_of}
use Rattle.pp_vault.proofs.BackSteps.{none_some}
use Rattle.pp_vault.proofs.Unwinding.{unwind_framed, unwind_low, gives_image, image_slot_is_empty}
use Rattle.pp_model.specs.declared.moves.Move.TheVariants.{Unwind}
use Rattle.pp_cert.specs.declared.note.Held.TheVariants.{X}
use Rattle.pp_vault.specs.Fits.{leaver_fits}
use Rattle.pp_vault.specs.Tokens.{is_long}
use Rattle.pp_vault.proofs.Done.{tells_tested}
use Rattle.pp_vault.proofs.store.Store.give_image.Goals as goal

pub unreachable-requires : goal.unreachable-requires
unreachable-requires c =
    none_some
    (sym c.in_default.is ∙ c.frame_of.ensures c.requires.state c.requires.stands.core
    ∙ unwind_framed (parts_of c.args.self.now) c.args.leaver c.args.guard
    (λ s st. sym (c.if-not-fits_leaving_writer.ensures s st)) c.requires)

pub put-requires : goal.put-requires
put-requires c =
    unwind_low (parts_of c.args.self.now) (parts_of c.step.new.self) c.args.leaver c.args.guard
    (λ s st. sym (c.if-not-fits_leaving_writer.ensures s st)) c.in-Ok.reply c.requires c.in-Ok.ensures.done
    c.in-Some.frame (λ s st. ap (λ o. unwrap_or o 0) (sym c.in-Some.is ∙ c.frame_of.ensures s st.core))

pub returns-in-Ok-clause-ok : goal.returns-in-Ok-clause-ok
returns-in-Ok-clause-ok c =
    gives_image (parts_of c.args.self.now) (parts_of c.step.new.self) c.args.leaver c.args.guard
    (λ s st. sym (c.if-not-fits_leaving_writer.ensures s st)) c.in-Ok.reply c.requires c.in-Ok.ensures.done
    c.in-Some.frame (λ s st. ap (λ o. unwrap_or o 0) (sym c.in-Some.is ∙ c.frame_of.ensures s st.core))
    c.set_head.new.self
    (c.set_head.ensures.image ∙ ap (λ m. with_head c.args.guard.image c.args.guard.page m) c.mark_in.ensures)
    (c.set_head.ensures.head ∙ ap (λ m. (c.args.guard.page, m)) c.mark_in.ensures)
    c.set_head.ensures.length (parts_of c.put.new.self) c.put.ensures

pub returns-in-Ok-clause-empty : goal.returns-in-Ok-clause-empty
returns-in-Ok-clause-empty c =
    image_slot_is_empty (parts_of c.args.self.now) (parts_of c.step.new.self) c.args.leaver c.args.guard
    (λ s st. sym (c.if-not-fits_leaving_writer.ensures s st)) c.in-Ok.reply c.requires c.in-Ok.ensures.done
    c.in-Some.frame (λ s st. ap (λ o. unwrap_or o 0) (sym c.in-Some.is ∙ c.frame_of.ensures s st.core))
    c.set_head.new.self
    (c.set_head.ensures.image ∙ ap (λ m. with_head c.args.guard.image c.args.guard.page m) c.mark_in.ensures)
    (c.set_head.ensures.head ∙ ap (λ m. (c.args.guard.page, m)) c.mark_in.ensures)
    c.set_head.ensures.length (parts_of c.put.new.self) c.put.ensures

pub returns-in-Ok-clause-done : goal.returns-in-Ok-clause-done
returns-in-Ok-clause-done c =
    let old = parts_of c.args.self.now in
    let w = c.args.leaver.worker in
    let g = c.args.guard in
    tells_tested old (parts_of c.step.new.self) (Unwind w g.slot) c.in-Ok.reply c.in-Ok.ensures.done
    (λ s. leaver_fits s w g.worker g.slot g.page X && is_long old g.image)
    (λ s st. sym (c.if-not-fits_leaving_writer.ensures s st))
