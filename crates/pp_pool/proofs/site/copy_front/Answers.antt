use Rattle.pp_pool.proofs.Looking.{head_made}
use Rattle.pp_pool.proofs.site.copy_front.Goals as goal

pub returns-clause-head : goal.returns-clause-head
returns-clause-head c =
    λ _. head_made _ _ c.args.page c.args.mark c.make.ensures c.ranges.page.fits c.ranges.mark.fits
