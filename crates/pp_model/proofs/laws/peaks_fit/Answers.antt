use Rattle.pp_model.proofs.Room.{room}
use Rattle.pp_model.proofs.Stuck.{within_peaks}
use Rattle.pp_model.proofs.laws.peaks_fit.Goals as goal

pub returns-clause-together : goal.returns-clause-together
returns-clause-together c = room

pub returns-clause-each : goal.returns-clause-each
returns-clause-each c = within_peaks
