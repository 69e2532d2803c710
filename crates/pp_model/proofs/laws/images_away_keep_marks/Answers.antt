use Rattle.pp_model.proofs.AwayMarks.{away_keep, victims_keep}
use Rattle.pp_model.proofs.laws.images_away_keep_marks.Goals as goal

pub returns-clause-away : goal.returns-clause-away
returns-clause-away c = away_keep

pub returns-clause-victims : goal.returns-clause-victims
returns-clause-victims c = victims_keep
