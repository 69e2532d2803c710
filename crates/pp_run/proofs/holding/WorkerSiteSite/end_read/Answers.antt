use Rattle.pp_run.proofs.Tried.{ended_given}
use Rattle.pp_run.proofs.holding.WorkerSiteSite.end_read.Goals as goal

pub returns-clause-given : goal.returns-clause-given
returns-clause-given g c =
    ended_given _ _ _ _ _ c.args.session c.args.guard c.end_read-ended.result c.end_read-ended.ensures.given
