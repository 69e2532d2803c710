use Rattle.pp_run.proofs.Tried.{read_given}
use Rattle.pp_run.proofs.holding.WorkerSiteSite.read.Goals as goal

pub returns-clause-given : goal.returns-clause-given
returns-clause-given g c =
    read_given _ _ _ _ _ c.args.session c.args.page c.read-read.result c.read-read.ensures.given
