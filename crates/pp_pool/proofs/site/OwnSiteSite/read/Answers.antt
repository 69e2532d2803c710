use Rattle.pp_pool.proofs.Readings.{own_reads}
use Rattle.pp_pool.proofs.site.OwnSiteSite.read.Goals as goal

pub returns-clause-given : goal.returns-clause-given
returns-clause-given c =
    own_reads c.args.self.now c.args.session c.args.page (record { book = c.read.new.self }) c.read.result c.read.ensures.ok
