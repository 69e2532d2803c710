use Rattle.std.proofs.Common.{◌∙◌, length, subst}
use Rattle.pp_pool.specs.Turns.{Uses, Tells}
use Rattle.pp_pool.proofs.Turning.{stage_after, placed_after}
use Rattle.pp_pool.proofs.ShortTurns.{comes_told}
use Rattle.pp_pool.proofs.worker.made_any.Goals as goal

pub stage_after-stage-requires-clause-stage : goal.stage_after-stage-requires-clause-stage
stage_after-stage-requires-clause-stage g c =
    stage_after g.S.Site g.W.Work _ _ _ c.used-answer.result.1 _ c.args.request c.perform-event.result.answer
    c.used-answer.result.0 c.requires.workers c.perform-event.ensures.fits.tokens c.used-answer.ensures.uses

pub stage_after-stage-requires-clause-place : goal.stage_after-stage-requires-clause-place
stage_after-stage-requires-clause-place g c =
    placed_after g.S.Site g.W.Work _ _ _ c.used-answer.result.1 _ c.args.guards.now c.args.request
    c.perform-event.result.answer c.used-answer.result.0 c.requires.finds c.perform-event.ensures.fits.tokens
    c.used-answer.ensures.uses

pub returns-clause-comes : goal.returns-clause-comes
returns-clause-comes g c =
    comes_told g.S.Site g.W.Work (length c.args.seen.now.items) c.args.request c.args.guards.now c.args.site.now
    c.perform-event.new.self c.tell.new.site c.args.log.now c.args.work.now c.ended.result
    c.stage_after-stage.result c.stage_after-stage.new.guards c.add-is_logged.new.log c.used-answer.new.work
    c.args.end.now c.tell.new.end c.tell.new.work
    c.perform-event.result c.used-answer.result.0 c.add-is_logged.result c.used-answer.result.1
    c.perform-event.ensures.given c.perform-event.ensures.fits
    (c.tell.ensures.site ∙ c.let_go_unless_at_once.ensures ∙ c.used-answer.ensures.site) c.add-is_logged.ensures.items
    c.add-is_logged.ensures.full
    (subst (λ xs. Uses g.S.Site g.W.Work c.perform-event.new.self (length xs) c.args.work.now c.perform-event.result.answer
    c.used-answer.result.1 c.used-answer.result.0 c.used-answer.new.work) c.deref_mut.ensures.value
    c.used-answer.ensures.uses)
    c.stage_after-stage.ensures.stage c.stage_after-stage.ensures.guards c.ended.ensures
    (subst (λ called. Tells g.W.Work called c.used-answer.new.work c.args.end.now c.perform-event.result.event c.tell.new.work
    c.tell.new.end) c.page_called-called.ensures c.tell.ensures.tells)
