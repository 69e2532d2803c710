use Rattle.pp_model.proofs.Dirties.{dirty_rises, dirty_falls, clean_are_evicted}
use Rattle.pp_model.proofs.laws.dirty_pages_are_written.Goals as goal

pub returns-clause-rises : goal.returns-clause-rises
returns-clause-rises c = dirty_rises

pub returns-clause-falls : goal.returns-clause-falls
returns-clause-falls c = dirty_falls

pub returns-clause-evicted : goal.returns-clause-evicted
returns-clause-evicted c = clean_are_evicted
