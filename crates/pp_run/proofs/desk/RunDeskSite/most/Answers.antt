use Rattle.std.proofs.Common.{ap}
use Rattle.pp_run.proofs.Desks.{same_desk}
use Rattle.pp_run.proofs.desk.RunDeskSite.most.Goals as goal

pub returns-clause-same : goal.returns-clause-same
returns-clause-same g c =
    let d = c.args.self.now in
    same_desk g.row.N g.N.Naming _ d (ap (λ s. (s, (d.hands, (d.pages, (d.of, (d.finished, tt)))))) c.most.ensures.same)
