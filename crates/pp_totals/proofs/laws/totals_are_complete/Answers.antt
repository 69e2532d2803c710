use Rattle.pp_totals.proofs.Complete.{complete, segments_complete}
use Rattle.pp_totals.proofs.laws.totals_are_complete.Goals as goal

pub returns-clause-journals : goal.returns-clause-journals
returns-clause-journals c = complete

pub returns-clause-segments : goal.returns-clause-segments
returns-clause-segments c = segments_complete
