use Rattle.std.proofs.Common.{inl}
use Rattle.pp_buffer_pool.specs.Copies.{late_calls}
use Rattle.pp_buffer_pool.proofs.Execution.{executes}
use Rattle.pp_buffer_pool.proofs.pool.BufferPool.execute_on_copies.Goals as goal

pub returns-in-Ok-clause-ok : goal.returns-in-Ok-clause-ok
returns-in-Ok-clause-ok g c =
    executes g.D.Device (late_calls g.W.Work) c.args.plan.now.prepared c.args.work.now c.in-Ok.end c.run_plan.new.work
    c.tell_end.new.self c.as_outcome.result c.in-Ok.ensures.ok (inl c.tell_end.ensures) c.as_outcome.ensures
