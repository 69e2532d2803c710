-- What is left to show of lend_slot: the guard is back where it was.
use Rattle.std.proofs.Common.{◌∙◌, sym}
use Rattle.pp_vault.specs.Holding.{slot_by}
use Rattle.pp_steps.proofs.Bodies.{guard_back}
use Rattle.pp_steps.proofs.lent.lend_slot.Goals as goal

pub returns-in-Some-lent-clause-guards : goal.returns-in-Some-lent-clause-guards
returns-in-Some-lent-clause-guards c =
    guard_back c.args.guards.now c.take.new.self c.put.new.guards c.args.slot (slot_by c.in-Some.guard) c.in-Some.guard
    (sym c.in-Some.is ∙ c.take.ensures.guard) c.in-Some.ensures.taken c.in-Some.ensures.slot c.put.ensures

pub returns-in-None-clause-guards : goal.returns-in-None-clause-guards
returns-in-None-clause-guards c =
    guard_back c.args.guards.now c.take.new.self c.put.new.guards c.args.slot (slot_by c.in-Some.guard) c.in-Some.guard
    (sym c.in-Some.is ∙ c.take.ensures.guard) c.in-Some.ensures.taken c.in-Some.ensures.slot c.put.ensures
