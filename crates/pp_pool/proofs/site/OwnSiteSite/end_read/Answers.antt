use Rattle.pp_pool.proofs.Readings.{own_ends_read}
use Rattle.pp_pool.proofs.site.OwnSiteSite.end_read.Goals as goal

pub returns-clause-given : goal.returns-clause-given
returns-clause-given c =
    own_ends_read c.args.self.now c.args.session c.args.guard (record { book = c.end_read.new.self }) c.end_read.result
    c.end_read.ensures.ok
