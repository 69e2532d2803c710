use Rattle.pp_model.proofs.MarkBounds.{marks_are_small}
use Rattle.pp_model.proofs.FrameLaws.{dirty_are_kept, held_are_known, loaded_are_known}
use Rattle.pp_model.proofs.ToldMarks.{marks_are_the_journals, marks_follow}
use Rattle.pp_model.proofs.laws.marks_are_kept.Goals as goal

pub returns-clause-dirty : goal.returns-clause-dirty
returns-clause-dirty c = dirty_are_kept

pub returns-clause-held : goal.returns-clause-held
returns-clause-held c = held_are_known

pub returns-clause-cached : goal.returns-clause-cached
returns-clause-cached c = loaded_are_known

pub returns-clause-journals : goal.returns-clause-journals
returns-clause-journals c = marks_are_the_journals

pub returns-clause-follow : goal.returns-clause-follow
returns-clause-follow c = marks_follow

pub returns-clause-small : goal.returns-clause-small
returns-clause-small c = marks_are_small
