use Rattle.std.proofs.Common.{◌∙◌, sym}
use Rattle.pp_vault.specs.Parts.{parts_of}
use Rattle.pp_vault.proofs.BackSteps.{none_some}
use Rattle.pp_vault.proofs.WriteSteps.{framed, low, written_is, unwritten_is}
use Rattle.pp_model.specs.declared.moves.Move.TheVariants.{WriteDone}
use Rattle.pp_vault.specs.Answers.{is_write_out}
use Rattle.pp_vault.proofs.Done.{tells_tested}
use Rattle.pp_vault.proofs.store.Store.written.Goals as goal

pub unreachable-requires : goal.unreachable-requires
unreachable-requires c =
    none_some
    (sym c.in_default.is ∙ c.frame_of.ensures c.requires.state c.requires.stands.core
    ∙ framed (parts_of c.args.self.now) c.args.worker c.args.slot c.args.page c.args.victim c.args.image
    (λ s st. sym (c.is_write_out.ensures s st) ∙ c.if-not-is_write_out.false) c.requires)

pub put-requires : goal.put-requires
put-requires c =
    low (parts_of c.args.self.now) c.args.worker c.args.slot c.args.page c.args.victim c.args.image
    (λ s st. sym (c.is_write_out.ensures s st) ∙ c.if-not-is_write_out.false) c.requires (parts_of c.step.new.self)
    c.args.ok c.in-Ok.reply c.in-Ok.ensures.done c.in-Some.frame (λ s st. sym c.in-Some.is ∙ c.frame_of.ensures s st)

pub returns-in-MustRead-clause-ok : goal.returns-in-MustRead-clause-ok
returns-in-MustRead-clause-ok c =
    written_is (parts_of c.args.self.now) c.args.worker c.args.slot c.args.page c.args.victim c.args.image
    (λ s st. sym (c.is_write_out.ensures s st) ∙ c.if-not-is_write_out.false) c.requires (parts_of c.step.new.self)
    c.args.ok c.in-Ok.reply c.in-Ok.ensures.done c.in-MustRead.frame c.in-MustRead.is

pub returns-in-Failed-clause-ok : goal.returns-in-Failed-clause-ok
returns-in-Failed-clause-ok c =
    unwritten_is (parts_of c.args.self.now) c.args.worker c.args.slot c.args.page c.args.victim c.args.image
    (λ s st. sym (c.is_write_out.ensures s st) ∙ c.if-not-is_write_out.false) c.requires (parts_of c.step.new.self)
    c.args.ok c.in-Ok.reply c.in-Ok.ensures.done c.in-Some.frame (λ s st. sym c.in-Some.is ∙ c.frame_of.ensures s st)
    c.in-Failed.field-0 c.in-Failed.is (parts_of c.put.new.self) c.put.ensures

pub returns-in-MustRead-clause-done : goal.returns-in-MustRead-clause-done
returns-in-MustRead-clause-done c =
    let old = parts_of c.args.self.now in
    tells_tested old (parts_of c.step.new.self) (WriteDone c.args.worker c.args.ok) c.in-Ok.reply c.in-Ok.ensures.done
    (λ s. is_write_out old.page_bytes c.args.worker c.args.slot c.args.page c.args.victim c.args.image s)
    (λ s st. sym (c.is_write_out.ensures s st) ∙ c.if-not-is_write_out.false)

pub returns-in-Failed-clause-done : goal.returns-in-Failed-clause-done
returns-in-Failed-clause-done c =
    let old = parts_of c.args.self.now in
    tells_tested old (parts_of c.step.new.self) (WriteDone c.args.worker c.args.ok) c.in-Ok.reply c.in-Ok.ensures.done
    (λ s. is_write_out old.page_bytes c.args.worker c.args.slot c.args.page c.args.victim c.args.image s)
    (λ s st. sym (c.is_write_out.ensures s st) ∙ c.if-not-is_write_out.false)
