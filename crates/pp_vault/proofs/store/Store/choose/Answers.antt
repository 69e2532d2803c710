use Rattle.std.proofs.Common.{◌∙◌, ap}
use Rattle.std.specs.Prelude.{not}
use Rattle.pp_model.specs.declared.moves.Move.TheVariants.{Choose}
use Rattle.pp_vault.specs.Parts.{parts_of}
use Rattle.pp_vault.specs.Fits.{choose_call, is_acting}
use Rattle.pp_vault.proofs.Kept.{kept_after}
use Rattle.pp_vault.proofs.SeatMoves.{all_act, choose_does, choose_acts, tested_refuses}
use Rattle.pp_vault.proofs.Done.{tells_tested}
use Rattle.pp_vault.proofs.store.Store.choose.Goals as goal

pub session-requires-clause-kept : goal.session-requires-clause-kept
session-requires-clause-kept c =
    let old = parts_of c.args.self.now in
    let new = parts_of c.step.new.self in
    let w = c.args.session.worker in
    let i = c.args.branch in
    let all = all_act old w c.ask.result (c.is_none.ensures ∙ ap not c.if-is_none.false) c.ask.ensures in
    kept_after old new (choose_call w i) c.requires
    (choose_does old new w c.in-Ok.reply c.requires i all c.in-Ok.ensures.done)

pub session-requires-clause-acts : goal.session-requires-clause-acts
session-requires-clause-acts c =
    let old = parts_of c.args.self.now in
    let new = parts_of c.step.new.self in
    let w = c.args.session.worker in
    let all = all_act old w c.ask.result (c.is_none.ensures ∙ ap not c.if-is_none.false) c.ask.ensures in
    choose_acts old new w c.in-Ok.reply c.requires c.args.branch all c.in-Ok.ensures.done

pub returns-in-Ok-clause-ok : goal.returns-in-Ok-clause-ok
returns-in-Ok-clause-ok c =
    let old = parts_of c.args.self.now in
    let new = parts_of c.step.new.self in
    let w = c.args.session.worker in
    let all = all_act old w c.ask.result (c.is_none.ensures ∙ ap not c.if-is_none.false) c.ask.ensures in
    choose_does old new w c.in-Ok.reply c.requires c.args.branch all c.in-Ok.ensures.done

pub returns-in-Err-clause-err : goal.returns-in-Err-clause-err
returns-in-Err-clause-err c =
    let old = parts_of c.args.self.now in
    let new = parts_of c.step.new.self in
    let w = c.args.session.worker in
    let all = all_act old w c.ask.result (c.is_none.ensures ∙ ap not c.if-is_none.false) c.ask.ensures in
    tested_refuses old new (λ s. is_acting s w) (Choose w c.args.branch) c.in-Err.refusal c.in-Err.ensures.refused all

pub returns-in-Ok-clause-done : goal.returns-in-Ok-clause-done
returns-in-Ok-clause-done c =
    let old = parts_of c.args.self.now in
    let w = c.args.session.worker in
    let all = all_act old w c.ask.result (c.is_none.ensures ∙ ap not c.if-is_none.false) c.ask.ensures in
    tells_tested old (parts_of c.step.new.self) (Choose w c.args.branch) c.in-Ok.reply c.in-Ok.ensures.done
    (λ s. is_acting s w) all
