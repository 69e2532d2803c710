use Rattle.std.proofs.Common.{sym}
use Rattle.pp_vault.specs.Parts.{parts_of}
use Rattle.pp_vault.proofs.Unwinding.{gives_bundle, bundle_is_empty, bundle_refuses}
use Rattle.pp_model.specs.declared.moves.Move.TheVariants.{Unwind}
use Rattle.pp_vault.specs.Fits.{leaver_fits_bundle}
use Rattle.pp_vault.proofs.Done.{tells_tested}
use Rattle.pp_vault.proofs.store.Store.give_bundle.Goals as goal

pub returns-in-Ok-clause-ok : goal.returns-in-Ok-clause-ok
returns-in-Ok-clause-ok c =
    gives_bundle (parts_of c.args.self.now) (parts_of c.step.new.self) c.args.leaver c.args.guard.worker c.args.guard.slot
    (λ s st. sym (c.if-not-fits_leaver_bundle.ensures s st)) c.in-Ok.reply c.requires c.in-Ok.ensures.done

pub returns-in-Err-clause-err : goal.returns-in-Err-clause-err
returns-in-Err-clause-err c =
    bundle_refuses (parts_of c.args.self.now) (parts_of c.step.new.self) c.args.leaver c.args.guard.worker c.args.guard.slot
    (λ s st. sym (c.if-not-fits_leaver_bundle.ensures s st)) c.in-Err.refusal c.in-Err.ensures.refused

pub returns-in-Ok-clause-empty : goal.returns-in-Ok-clause-empty
returns-in-Ok-clause-empty c =
    bundle_is_empty (parts_of c.args.self.now) (parts_of c.step.new.self) c.args.leaver c.args.guard.worker
    c.args.guard.slot (λ s st. sym (c.if-not-fits_leaver_bundle.ensures s st)) c.in-Ok.reply c.requires
    c.in-Ok.ensures.done

pub returns-in-Ok-clause-done : goal.returns-in-Ok-clause-done
returns-in-Ok-clause-done c =
    let w = c.args.leaver.worker in
    tells_tested (parts_of c.args.self.now) (parts_of c.step.new.self) (Unwind w c.args.guard.slot) c.in-Ok.reply
    c.in-Ok.ensures.done (λ s. leaver_fits_bundle s w c.args.guard.worker c.args.guard.slot)
    (λ s st. sym (c.if-not-fits_leaver_bundle.ensures s st))
