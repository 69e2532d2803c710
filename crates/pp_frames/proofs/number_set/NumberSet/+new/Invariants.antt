-- What NumberSet::new keeps as it goes on.
use Rattle.pp_frames.proofs.number_set.NumberSet.+new.Given as goal

abbrev pub decreases-new : goal.decreases-new
decreases-new l = l.limit
