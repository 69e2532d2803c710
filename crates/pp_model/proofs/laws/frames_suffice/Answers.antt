use Rattle.pp_model.proofs.Stuck.{none_stuck, flush_holds_alone}
use Rattle.pp_model.proofs.laws.frames_suffice.Goals as goal

pub returns-clause-none_stuck : goal.returns-clause-none_stuck
returns-clause-none_stuck c = none_stuck

pub returns-clause-flush_alone : goal.returns-clause-flush_alone
returns-clause-flush_alone c = flush_holds_alone
