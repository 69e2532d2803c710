use Rattle.pp_segments.proofs.Texts.{written_audited}
use Rattle.pp_segments.proofs.Whole.{audited_again}
use Rattle.pp_segments.specs.Segments.{texts_from}
use Rattle.pp_segments.proofs.laws.true_segments_are_audited.Goals as goal

pub returns-clause-texts : goal.returns-clause-texts
returns-clause-texts c = written_audited

pub returns-clause-verdict : goal.returns-clause-verdict
returns-clause-verdict c = λ k prepared ended told s begins are fits ends.
    audited_again k prepared ended (texts_from 0 0 told) _ _
    (written_audited k prepared ended told s begins are fits ends)
