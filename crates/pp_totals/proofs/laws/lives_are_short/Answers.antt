use Rattle.pp_totals.proofs.Short.{short}
use Rattle.pp_totals.proofs.laws.lives_are_short.Goals as goal

pub returns : goal.returns
returns c = short
