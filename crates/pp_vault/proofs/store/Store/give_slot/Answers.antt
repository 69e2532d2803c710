use Rattle.std.proofs.Common.{◌&&◌, true, sym, ap}
use Rattle.pp_vault.specs.Parts.{parts_of}
use Rattle.pp_vault.proofs.Unwinding.{gives_slot, slot_is_empty, unwind_refuses}
use Rattle.pp_model.specs.declared.moves.Move.TheVariants.{Unwind}
use Rattle.pp_vault.specs.Fits.{leaver_fits}
use Rattle.pp_vault.proofs.Done.{tells_tested}
use Rattle.pp_vault.proofs.store.Store.give_slot.Goals as goal

pub returns-in-Ok-clause-ok : goal.returns-in-Ok-clause-ok
returns-in-Ok-clause-ok c =
    gives_slot (parts_of c.args.self.now) (parts_of c.step.new.self) c.args.leaver c.args.of c.args.slot c.args.page
    c.args.held c.requires.not_written (λ s st. sym (c.if-not-fits_leaver.ensures s st)) c.in-Ok.reply c.requires.kept
    c.in-Ok.ensures.done

pub returns-in-Err-clause-err : goal.returns-in-Err-clause-err
returns-in-Err-clause-err c =
    unwind_refuses (parts_of c.args.self.now) (parts_of c.step.new.self) c.args.leaver c.args.of c.args.slot c.args.page
    c.args.held true (λ s st. ap (λ b. b && true) (sym (c.if-not-fits_leaver.ensures s st))) c.in-Err.refusal
    c.in-Err.ensures.refused

pub returns-in-Ok-clause-empty : goal.returns-in-Ok-clause-empty
returns-in-Ok-clause-empty c =
    slot_is_empty (parts_of c.args.self.now) (parts_of c.step.new.self) c.args.leaver c.args.of c.args.slot c.args.page
    c.args.held c.requires.not_written (λ s st. sym (c.if-not-fits_leaver.ensures s st)) c.in-Ok.reply c.requires.kept
    c.in-Ok.ensures.done

pub returns-in-Ok-clause-done : goal.returns-in-Ok-clause-done
returns-in-Ok-clause-done c =
    tells_tested (parts_of c.args.self.now) (parts_of c.step.new.self) (Unwind c.args.leaver.worker c.args.slot) c.in-Ok.reply
    c.in-Ok.ensures.done
    (λ s. leaver_fits s c.args.leaver.worker c.args.of c.args.slot c.args.page c.args.held && true)
    (λ s st. ap (λ b. b && true) (sym (c.if-not-fits_leaver.ensures s st)))
