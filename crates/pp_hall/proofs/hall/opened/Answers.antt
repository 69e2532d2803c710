use Rattle.pp_hall.proofs.Kept.{ends_fit, fresh_kept}
use Rattle.pp_hall.proofs.hall.opened.Goals as goal

pub new-requires-in-Ok-new-clause-ends : goal.new-requires-in-Ok-new-clause-ends
new-requires-in-Ok-new-clause-ends g c = ends_fit c.args.settings.now _ c.requires

pub invariant_of-result : goal.invariant_of-result
invariant_of-result g c =
    fresh_kept c.in-Ok-new.seating c.in-Ok.waiters c.new-in-Ok-new.result c.args.policy c.args.settings.now.workers
    c.workers-workers.result c.args.policy.queue c.args.policy.bypass c.in-Ok-new.ensures.peaks c.in-Ok.ensures
    c.new-in-Ok-new.ensures.there
