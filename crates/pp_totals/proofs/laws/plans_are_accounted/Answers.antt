use Rattle.pp_model.specs.Segments.{segments_end}
use Rattle.pp_totals.specs.Counting.{totals_of}
use Rattle.pp_totals.specs.Complete.{segment_totals}
use Rattle.pp_totals.proofs.Complete.{complete, segments_complete, accounted, all_ended}
use Rattle.pp_totals.proofs.laws.plans_are_accounted.Goals as goal

pub returns-clause-journals : goal.returns-clause-journals
returns-clause-journals c = λ o t es begins h j. accounted o t (totals_of es) begins h (complete o t es j)

pub returns-clause-segments : goal.returns-clause-segments
returns-clause-segments c = λ o xs begins h are.
    accounted o (segments_end o xs) (segment_totals xs) begins h (segments_complete o xs are)

pub returns-clause-whole : goal.returns-clause-whole
returns-clause-whole c = λ o t es begins h j none.
    all_ended t (totals_of es) h none (accounted o t (totals_of es) begins h (complete o t es j))

pub returns-clause-whole_segments : goal.returns-clause-whole_segments
returns-clause-whole_segments c = λ o xs begins h are none.
    let t = segments_end o xs in
    let x = segment_totals xs in
    all_ended t x h none (accounted o t x begins h (segments_complete o xs are))
