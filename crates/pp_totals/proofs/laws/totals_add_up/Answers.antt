use Rattle.pp_totals.proofs.Sums.{add_up, segments_add_up, exact}
use Rattle.pp_totals.proofs.laws.totals_add_up.Goals as goal

pub returns-clause-two : goal.returns-clause-two
returns-clause-two c = add_up

pub returns-clause-segments : goal.returns-clause-segments
returns-clause-segments c = segments_add_up

pub returns-clause-exact : goal.returns-clause-exact
returns-clause-exact c = exact
