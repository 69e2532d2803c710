use Rattle.std.proofs.Common.{sym}
use Rattle.pp_pool.proofs.Placing.{guards_back, prepared_so}
use Rattle.pp_pool.proofs.asked.with_slot.Goals as goal

pub returns-in-Err-clause-guards : goal.returns-in-Err-clause-guards
returns-in-Err-clause-guards c =
    guards_back c.in-Err.session c.args.session c.args.guards.now c.take.new.self c.put.new.guards c.from.result
    c.in-Err.guard c.in-Some.guard c.in-Err.ensures.back (sym c.in-Some.ensures.guard) c.in-Some.ensures.slot
    c.in-Some.ensures.taken c.put.ensures

pub returns-in-Ok-clause-prepares : goal.returns-in-Ok-clause-prepares
returns-in-Ok-clause-prepares c =
    prepared_so c.args.guards.now c.take.new.self c.from.result c.in-Some.guard c.in-Ok.request c.args.session
    (sym c.in-Some.ensures.guard) c.in-Some.ensures.slot c.in-Some.ensures.taken c.in-Ok.ensures.guard c.in-Ok.ensures.slot
    c.in-Ok.ensures.worker c.in-Ok.ensures.step
