use Rattle.pp_model.proofs.ReadyAnswers.{shared_stays, shared_goes, exclusive_leaves, exclusive_enters, unwound_enters}
use Rattle.pp_model.proofs.ReadyAnswers.{flushed_are_ready}
use Rattle.pp_model.proofs.laws.latches_move_images.Goals as goal

pub returns-clause-shared_stays : goal.returns-clause-shared_stays
returns-clause-shared_stays c = shared_stays

pub returns-clause-shared_goes : goal.returns-clause-shared_goes
returns-clause-shared_goes c = shared_goes

pub returns-clause-exclusive_leaves : goal.returns-clause-exclusive_leaves
returns-clause-exclusive_leaves c = exclusive_leaves

pub returns-clause-exclusive_enters : goal.returns-clause-exclusive_enters
returns-clause-exclusive_enters c = exclusive_enters

pub returns-clause-unwound_enters : goal.returns-clause-unwound_enters
returns-clause-unwound_enters c = unwound_enters

pub returns-clause-flushed : goal.returns-clause-flushed
returns-clause-flushed c = flushed_are_ready
