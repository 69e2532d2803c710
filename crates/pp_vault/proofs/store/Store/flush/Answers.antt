use Rattle.pp_vault.specs.Parts.{parts_of}
use Rattle.pp_vault.proofs.Flushed.{can_copy, copies, flush_does, flush_fits}
use Rattle.std.proofs.Common.{refl}
use Rattle.pp_model.specs.declared.moves.Move.TheVariants.{FlushBegin}
use Rattle.pp_vault.specs.Flushes.{flush_call}
use Rattle.pp_vault.proofs.Done.{tells}
use Rattle.pp_vault.proofs.store.Store.flush.Goals as goal

pub copy_out-requires : goal.copy_out-requires
copy_out-requires c =
    can_copy (parts_of c.args.self.now) (parts_of c.step.new.self) c.args.page c.in-Ok.reply c.requires
    c.in-Ok.ensures.done

pub returns-in-Ok-clause-ok : goal.returns-in-Ok-clause-ok
returns-in-Ok-clause-ok c =
    flush_does (parts_of c.args.self.now) (parts_of c.step.new.self) c.args.page c.in-Ok.reply c.requires
    c.in-Ok.ensures.done (parts_of c.copy_out.new.self) c.copy_out.result c.copy_out.ensures.duty
    c.copy_out.ensures.image c.copy_out.ensures.rest

pub returns-in-Ok-clause-errand : goal.returns-in-Ok-clause-errand
returns-in-Ok-clause-errand c =
    flush_fits (parts_of c.args.self.now) (parts_of c.step.new.self) c.args.page c.in-Ok.reply c.requires
    c.in-Ok.ensures.done (parts_of c.copy_out.new.self) c.copy_out.result c.copy_out.ensures.duty
    c.copy_out.ensures.image c.copy_out.ensures.rest

pub returns-in-Ok-clause-copied : goal.returns-in-Ok-clause-copied
returns-in-Ok-clause-copied c =
    copies (parts_of c.args.self.now) (parts_of c.step.new.self) c.args.page c.in-Ok.reply c.requires
    c.in-Ok.ensures.done (parts_of c.copy_out.new.self) c.copy_out.result c.copy_out.ensures.duty
    c.copy_out.ensures.image c.copy_out.ensures.rest

pub returns-in-Ok-clause-done : goal.returns-in-Ok-clause-done
returns-in-Ok-clause-done c =
    tells (parts_of c.args.self.now) (parts_of c.step.new.self) (FlushBegin c.args.page) c.in-Ok.reply c.in-Ok.ensures.done
    (flush_call c.args.page) (λ s st. refl)
