use Rattle.pp_model.proofs.Alone.{flush_stays, flush_starts, flush_ends}
use Rattle.pp_model.proofs.laws.flushes_go_by_flushers.Goals as goal

pub returns-clause-stays : goal.returns-clause-stays
returns-clause-stays c = flush_stays

pub returns-clause-starts : goal.returns-clause-starts
returns-clause-starts c = flush_starts

pub returns-clause-ends : goal.returns-clause-ends
returns-clause-ends c = flush_ends
