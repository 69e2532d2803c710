use Rattle.std.proofs.Common.{◌∙◌, sym}
use Rattle.pp_vault.specs.Parts.{parts_of}
use Rattle.pp_vault.proofs.AnswerSteps.{flush_is}
use Rattle.pp_model.specs.declared.moves.Move.TheVariants.{FlushDone}
use Rattle.pp_vault.specs.Answers.{is_flush_out}
use Rattle.pp_vault.proofs.Done.{tells_tested}
use Rattle.pp_vault.proofs.store.Store.flushed.Goals as goal

pub returns-clause-ok : goal.returns-clause-ok
returns-clause-ok c =
    flush_is (parts_of c.args.self.now) (parts_of c.step.new.self) c.args.page c.args.image c.args.ok c.in-Flushed.clean
    c.in-Ok.reply c.in-Ok.ensures.done c.in-Flushed.is
    (λ s st. sym (c.is_flush_out.ensures s st) ∙ c.if-not-is_flush_out.false)

pub returns-clause-done : goal.returns-clause-done
returns-clause-done c =
    let old = parts_of c.args.self.now in
    tells_tested old (parts_of c.step.new.self) (FlushDone c.args.ok) c.in-Ok.reply c.in-Ok.ensures.done
    (λ s. is_flush_out old.page_bytes c.args.page c.args.image s)
    (λ s st. sym (c.is_flush_out.ensures s st) ∙ c.if-not-is_flush_out.false)
