use Rattle.pp_model.specs.declared.moves.Move.TheVariants.{Take}
use Rattle.pp_core.specs.Queries.{is_idle}
use Rattle.pp_vault.specs.Parts.{parts_of}
use Rattle.pp_vault.specs.Fits.{take_call}
use Rattle.pp_vault.proofs.Kept.{kept_after}
use Rattle.pp_vault.proofs.SeatMoves.{all_pass, take_does, take_acts, tested_refuses}
use Rattle.pp_vault.proofs.Done.{tells_tested}
use Rattle.pp_vault.proofs.store.Store.take.Goals as goal

pub session-requires-clause-kept : goal.session-requires-clause-kept
session-requires-clause-kept c =
    let old = parts_of c.args.self.now in
    let new = parts_of c.step.new.self in
    let w = c.args.chair.worker in
    let all = all_pass old (λ s. is_idle s w) c.is_idle.result c.if-not-is_idle.false c.is_idle.ensures in
    kept_after old new (take_call w) c.requires (take_does old new w c.in-Ok.reply c.requires all c.in-Ok.ensures.done)

pub session-requires-clause-acts : goal.session-requires-clause-acts
session-requires-clause-acts c =
    let old = parts_of c.args.self.now in
    let new = parts_of c.step.new.self in
    let w = c.args.chair.worker in
    let all = all_pass old (λ s. is_idle s w) c.is_idle.result c.if-not-is_idle.false c.is_idle.ensures in
    take_acts old new w c.in-Ok.reply c.requires all c.in-Ok.ensures.done

pub returns-in-Ok-clause-ok : goal.returns-in-Ok-clause-ok
returns-in-Ok-clause-ok c =
    let old = parts_of c.args.self.now in
    let new = parts_of c.step.new.self in
    let w = c.args.chair.worker in
    let all = all_pass old (λ s. is_idle s w) c.is_idle.result c.if-not-is_idle.false c.is_idle.ensures in
    take_does old new w c.in-Ok.reply c.requires all c.in-Ok.ensures.done

pub returns-in-Err-clause-err : goal.returns-in-Err-clause-err
returns-in-Err-clause-err c =
    let old = parts_of c.args.self.now in
    let new = parts_of c.step.new.self in
    let w = c.args.chair.worker in
    let all = all_pass old (λ s. is_idle s w) c.is_idle.result c.if-not-is_idle.false c.is_idle.ensures in
    tested_refuses old new (λ s. is_idle s w) (Take w) c.in-Err.refusal c.in-Err.ensures.refused all

pub returns-in-Ok-clause-done : goal.returns-in-Ok-clause-done
returns-in-Ok-clause-done c =
    let old = parts_of c.args.self.now in
    let w = c.args.chair.worker in
    let all = all_pass old (λ s. is_idle s w) c.is_idle.result c.if-not-is_idle.false c.is_idle.ensures in
    tells_tested old (parts_of c.step.new.self) (Take w) c.in-Ok.reply c.in-Ok.ensures.done (λ s. is_idle s w) all
