use Rattle.std.proofs.Common.{◌∙◌, ap}
use Rattle.std.specs.Prelude.{not}
use Rattle.pp_vault.specs.Parts.{parts_of}
use Rattle.pp_vault.specs.Fits.{is_acting}
use Rattle.pp_vault.proofs.SeatMoves.{all_act, finish_does, finish_idle, finish_empty}
use Rattle.pp_model.specs.declared.moves.Move.TheVariants.{Finish}
use Rattle.pp_vault.proofs.Done.{tells_tested}
use Rattle.pp_vault.proofs.store.Store.finish.Goals as goal

pub returns-in-Ok-clause-ok : goal.returns-in-Ok-clause-ok
returns-in-Ok-clause-ok c =
    let old = parts_of c.args.self.now in
    let new = parts_of c.step.new.self in
    let w = c.args.session.worker in
    let all = all_act old w c.ask.result (c.is_none.ensures ∙ ap not c.if-is_none.false) c.ask.ensures in
    finish_does old new w c.in-Ok.reply c.requires (λ s. is_acting s w) all c.in-Ok.ensures.done

pub returns-in-Ok-clause-nothing_held : goal.returns-in-Ok-clause-nothing_held
returns-in-Ok-clause-nothing_held c =
    let old = parts_of c.args.self.now in
    let new = parts_of c.step.new.self in
    let w = c.args.session.worker in
    let all = all_act old w c.ask.result (c.is_none.ensures ∙ ap not c.if-is_none.false) c.ask.ensures in
    finish_empty old new w c.in-Ok.reply c.requires (λ s. is_acting s w) all c.in-Ok.ensures.done

pub returns-in-Ok-clause-idle : goal.returns-in-Ok-clause-idle
returns-in-Ok-clause-idle c =
    let old = parts_of c.args.self.now in
    let new = parts_of c.step.new.self in
    let w = c.args.session.worker in
    let all = all_act old w c.ask.result (c.is_none.ensures ∙ ap not c.if-is_none.false) c.ask.ensures in
    finish_idle old new w c.in-Ok.reply c.requires (λ s. is_acting s w) all c.in-Ok.ensures.done

pub returns-in-Ok-clause-done : goal.returns-in-Ok-clause-done
returns-in-Ok-clause-done c =
    let old = parts_of c.args.self.now in
    let w = c.args.session.worker in
    let all = all_act old w c.ask.result (c.is_none.ensures ∙ ap not c.if-is_none.false) c.ask.ensures in
    tells_tested old (parts_of c.step.new.self) (Finish w) c.in-Ok.reply c.in-Ok.ensures.done (λ s. is_acting s w) all
