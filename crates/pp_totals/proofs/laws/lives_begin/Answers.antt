use Rattle.pp_totals.proofs.Complete.{opens, renews}
use Rattle.pp_totals.proofs.laws.lives_begin.Goals as goal

pub returns-clause-opens : goal.returns-clause-opens
returns-clause-opens c = opens

pub returns-clause-renews : goal.returns-clause-renews
returns-clause-renews c = renews
