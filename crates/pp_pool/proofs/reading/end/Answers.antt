use Rattle.std.proofs.Common.{◌≡◌, ◌∙◌, Some, refl, sym, ap}
use Rattle.pp_plan.specs.declared.action.Ask.TheVariants as ask
use Rattle.pp_vault.specs.declared.tokens.Session.{Session}
use Rattle.pp_vault.specs.declared.guards.ReadGuard.{ReadGuard}
use Rattle.pp_vault.specs.declared.guards.Guard.{Guard}
use Rattle.pp_vault.specs.declared.guards.Guard.TheVariants as guard
use Rattle.pp_vault.specs.declared.stage.Stage.TheVariants as stages
use Rattle.pp_vault.specs.Holding.{slot_by}
use Rattle.pp_pool.proofs.Placing.{guards_back, back_same}
use Rattle.pp_pool.proofs.ShortTurns.{held_turns, same_scene}
use Rattle.pp_pool.proofs.reading.end.Goals as goal

pub returns-in-Ok-clause-turns : goal.returns-in-Ok-clause-turns
returns-in-Ok-clause-turns g c layout room =
    let h = c.in-Some-Read.guard in
    let is = c.in-Some-Read.field-0-is in
    let at : h.slot ≡ c.from.result = ap slot_by (sym is) ∙ c.in-Some-Read.ensures.slot in
    held_turns g.S.Site g.W.Work layout room c.args.session h c.args.guards.now c.take.new.self c.from.result
    (sym c.in-Some-Read.ensures.guard ∙ ap (λ (o : Guard). Some o) is) at c.in-Some-Read.ensures.taken
    c.args.site.now c.end_read.new.self c.args.log.now c.note_end.new.journal c.args.work.now c.worker-worker.result
    (sym c.worker-worker.ensures) c.in-Ok.session c.in-Ok.mark c.in-Ok.ensures.given
    (c.requires.asks ∙ ap ask.Unlatch (sym (at ∙ c.from.ensures))) c.requires.room
    c.note_end.ensures.journal c.note_end.ensures.memory

pub returns-in-Err-clause-turns : goal.returns-in-Err-clause-turns
returns-in-Err-clause-turns g c layout room =
    let back = c.in-Err.ensures.back in
    let is = c.in-Some-Read.field-0-is in
    same_scene _ _ (ap (λ (p : Session × ReadGuard). stages.In p.0) back)
    (guards_back c.in-Err.session c.args.session c.args.guards.now c.take.new.self c.put.new.guards c.from.result
    (guard.Read c.in-Err.guard) (guard.Read c.in-Some-Read.guard)
    (ap (λ (p : Session × ReadGuard). (p.0, guard.Read p.1)) back)
    (sym c.in-Some-Read.ensures.guard ∙ ap (λ (o : Guard). Some o) is)
    (ap slot_by (sym is) ∙ c.in-Some-Read.ensures.slot) c.in-Some-Read.ensures.taken c.put.ensures)
    c.in-Err.ensures.same refl refl

pub returns-in-Some : goal.returns-in-Some
returns-in-Some g c = record {
  turns = λ layout room.
      same_scene _ _ refl
      (back_same c.args.guards.now c.take.new.self c.put-in-Some.new.guards c.from.result c.in-Some.guard
      (sym c.in-Some.ensures.guard) c.in-Some.ensures.slot c.in-Some.ensures.taken c.put-in-Some.ensures)
      refl refl refl;
  memory = refl;
}
