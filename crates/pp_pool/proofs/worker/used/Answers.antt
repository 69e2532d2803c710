use Rattle.std.proofs.Common.{rules}
use Rattle.pp_pool.proofs.Turning.{changed}
use Rattle.pp_pool.proofs.worker.used.Goals as goal

pub returns-in-Exclusive-clause-uses : goal.returns-in-Exclusive-clause-uses
returns-in-Exclusive-clause-uses g c =
    changed g.S.Site g.W.Work _ _ _ _ c.args.answer c.in-Exclusive.session c.in-Exclusive.guard c.page-page.result
    c.body_mut.result.now c.change.new.body c.in-Exclusive.is c.page-page.ensures c.body_mut.ensures.body (search rules)
    c.change.ensures.left
