use Rattle.std.proofs.Common.{◌∙◌}
use Rattle.pp_buffer_pool.proofs.Execution.{runs_on_some, untouched}
use Rattle.pp_buffer_pool.proofs.pool.BufferPool.run_plan.Goals as goal

pub returns-in-Ended-Some-clause-ok : goal.returns-in-Ended-Some-clause-ok
returns-in-Ended-Some-clause-ok g c =
    runs_on_some g.D.Device g.W.Work c.args.plan.now.prepared c.over_site-worker.result.1 c.args.work.now
    (c.over_site-worker.ensures.site ∙ c.over-site.ensures) c.run-worker.result.0 c.run-worker.new.work c.run-worker.result.1
    c.run-worker.result.2 c.in-Ended-Some.end c.run-worker.ensures c.in-Ended-Some.is-0 c.in-Ended-Some.is-1

pub returns-in-NoMemory-None-clause-untouched : goal.returns-in-NoMemory-None-clause-untouched
returns-in-NoMemory-None-clause-untouched g c _ =
    untouched g.D.Device g.W.Work c.args.plan.now.prepared c.over_site-worker.result.1 c.args.work.now
    (c.over_site-worker.ensures.site ∙ c.over-site.ensures) c.run-worker.result.0 c.run-worker.new.work c.run-worker.result.1
    c.run-worker.result.2 c.run-worker.ensures c.in-NoMemory-None.is-0
