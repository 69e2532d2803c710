use Rattle.pp_model.specs.declared.moves.Move.TheVariants.{Finish}
use Rattle.pp_core.specs.Queries.{is_leaving}
use Rattle.pp_vault.specs.Parts.{parts_of}
use Rattle.pp_vault.proofs.SeatMoves.{all_pass, finish_does, finish_idle, finish_empty, tested_refuses}
use Rattle.pp_vault.proofs.Done.{tells_tested}
use Rattle.pp_vault.proofs.store.Store.end.Goals as goal

pub returns-in-Ok-clause-ok : goal.returns-in-Ok-clause-ok
returns-in-Ok-clause-ok c =
    let old = parts_of c.args.self.now in
    let new = parts_of c.step.new.self in
    let w = c.args.leaver.worker in
    let all = all_pass old (λ s. is_leaving s w) c.is_leaving.result c.if-not-is_leaving.false c.is_leaving.ensures in
    finish_does old new w c.in-Ok.reply c.requires (λ s. is_leaving s w) all c.in-Ok.ensures.done

pub returns-in-Err-clause-err : goal.returns-in-Err-clause-err
returns-in-Err-clause-err c =
    let old = parts_of c.args.self.now in
    let new = parts_of c.step.new.self in
    let w = c.args.leaver.worker in
    let all = all_pass old (λ s. is_leaving s w) c.is_leaving.result c.if-not-is_leaving.false c.is_leaving.ensures in
    tested_refuses old new (λ s. is_leaving s w) (Finish w) c.in-Err.refusal c.in-Err.ensures.refused all

pub returns-in-Ok-clause-nothing_held : goal.returns-in-Ok-clause-nothing_held
returns-in-Ok-clause-nothing_held c =
    let old = parts_of c.args.self.now in
    let new = parts_of c.step.new.self in
    let w = c.args.leaver.worker in
    let all = all_pass old (λ s. is_leaving s w) c.is_leaving.result c.if-not-is_leaving.false c.is_leaving.ensures in
    finish_empty old new w c.in-Ok.reply c.requires (λ s. is_leaving s w) all c.in-Ok.ensures.done

pub returns-in-Ok-clause-idle : goal.returns-in-Ok-clause-idle
returns-in-Ok-clause-idle c =
    let old = parts_of c.args.self.now in
    let new = parts_of c.step.new.self in
    let w = c.args.leaver.worker in
    let all = all_pass old (λ s. is_leaving s w) c.is_leaving.result c.if-not-is_leaving.false c.is_leaving.ensures in
    finish_idle old new w c.in-Ok.reply c.requires (λ s. is_leaving s w) all c.in-Ok.ensures.done

pub returns-in-Ok-clause-done : goal.returns-in-Ok-clause-done
returns-in-Ok-clause-done c =
    let old = parts_of c.args.self.now in
    let w = c.args.leaver.worker in
    let all = all_pass old (λ s. is_leaving s w) c.is_leaving.result c.if-not-is_leaving.false c.is_leaving.ensures in
    tells_tested old (parts_of c.step.new.self) (Finish w) c.in-Ok.reply c.in-Ok.ensures.done (λ s. is_leaving s w) all
