use Rattle.std.proofs.Common.{◌≡◌, ◌∙◌, Some, length, refl, sym, ap}
use Rattle.pp_plan.specs.declared.action.Ask.TheVariants as ask
use Rattle.pp_plan.specs.declared.mode.Mode.TheVariants as mode
use Rattle.pp_vault.specs.declared.guards.Guard.{Guard}
use Rattle.pp_vault.specs.Holding.{slot_by}
use Rattle.pp_pool.specs.declared.request.Request.TheVariants as request
use Rattle.pp_pool.proofs.Placing.{back_same}
use Rattle.pp_pool.proofs.ShortTurns.{held_request, same_scene}
use Rattle.pp_pool.proofs.reading.latch.Goals as goal

pub returns-in-Some-Pin-clause-turns : goal.returns-in-Some-Pin-clause-turns
returns-in-Some-Pin-clause-turns g c layout =
    let h = c.in-Some-Pin.guard in
    let is = c.in-Some-Pin.field-0-is in
    let slot : h.slot ≡ c.args.slot = ap slot_by (sym is) ∙ c.in-Some-Pin.ensures.slot ∙ c.from.ensures in
    held_request g.S.Site g.W.Work layout (length c.args.seen.now.items) c.args.session
    (request.LatchShared c.args.session h) c.in-Some-Pin.field-0 c.args.guards.now c.take.new.self c.made-stage.new.guards
    c.from.result (sym c.in-Some-Pin.ensures.guard) c.in-Some-Pin.ensures.slot c.in-Some-Pin.ensures.taken
    (ap (λ (o : Guard). Some o) (sym is)) (ap (λ (o : Guard). Some (slot_by o)) (sym is)) tt
    refl
    (refl, c.requires.asks ∙ ap (λ n. ask.Latch n mode.S) (sym slot))
    c.args.site.now c.made-stage.new.site c.args.log.now c.made-stage.new.log c.args.work.now c.made-stage.new.work refl
    c.requires.room c.made-stage.ensures.memory c.made-stage.result.1 c.made-stage.result.0 c.made-stage.ensures.comes

pub returns-in-Some : goal.returns-in-Some
returns-in-Some g c = record {
  turns = λ layout.
      same_scene _ _ refl
      (back_same c.args.guards.now c.take.new.self c.put.new.guards c.from.result c.in-Some.guard
      (sym c.in-Some.ensures.guard) c.in-Some.ensures.slot c.in-Some.ensures.taken c.put.ensures)
      refl refl refl;
  memory = refl;
  seen = refl;
  reach = c.requires.reach;
}
