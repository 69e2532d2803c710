use Rattle.pp_model.proofs.ReadyLaws.{opens_empty, ready_are_cached, ready_stand, ready_are_apart, framed_are_ready_or_away}
use Rattle.pp_model.proofs.ReadyLaws.{away_are_of_pages, away_are_apart, shared_are_ready, exclusive_are_away, loading_are_away}
use Rattle.pp_model.proofs.laws.frames_are_ready.Goals as goal

pub returns-clause-opens : goal.returns-clause-opens
returns-clause-opens c = opens_empty

pub returns-clause-cached : goal.returns-clause-cached
returns-clause-cached c = ready_are_cached

pub returns-clause-stand : goal.returns-clause-stand
returns-clause-stand c = ready_stand

pub returns-clause-apart : goal.returns-clause-apart
returns-clause-apart c = ready_are_apart

pub returns-clause-or_away : goal.returns-clause-or_away
returns-clause-or_away c = framed_are_ready_or_away

pub returns-clause-away : goal.returns-clause-away
returns-clause-away c = away_are_of_pages

pub returns-clause-away_apart : goal.returns-clause-away_apart
returns-clause-away_apart c = away_are_apart

pub returns-clause-shared : goal.returns-clause-shared
returns-clause-shared c = shared_are_ready

pub returns-clause-exclusive : goal.returns-clause-exclusive
returns-clause-exclusive c = exclusive_are_away

pub returns-clause-loading : goal.returns-clause-loading
returns-clause-loading c = loading_are_away
