use Rattle.std.proofs.Common.{◌++◌, [], ◌∷◌, length, subst, sym}
use Rattle.pp_model.specs.declared.event.Event.TheVariants.{Submit}
use Rattle.pp_model.specs.Submitting.{submitted_unless}
use Rattle.pp_model.specs.Journals.{IsJournalFrom}
use Rattle.pp_model.proofs.Journeys.{opening_reached, step_told, submit_told, renewal_stays, lives_reached}
use Rattle.pp_model.proofs.BoundLaws.{runs_reached}
use Rattle.pp_model.proofs.laws.runs_stay_reached.Goals as goal

pub returns-clause-opens : goal.returns-clause-opens
returns-clause-opens c = opening_reached

pub returns-clause-goes_on : goal.returns-clause-goes_on
returns-clause-goes_on c = λ s h is ok. runs_reached s is ok h

pub returns-clause-steps : goal.returns-clause-steps
returns-clause-steps c = step_told

pub returns-clause-submits : goal.returns-clause-submits
returns-clause-submits c =
    λ s o es a h e. subst (λ p. IsJournalFrom o (submitted_unless p s a) (es ++ Submit (length s.plans) ∷ [])) (sym e)
    (submit_told s o es a h e)

pub returns-clause-renews : goal.returns-clause-renews
returns-clause-renews c = renewal_stays

pub returns-clause-lives : goal.returns-clause-lives
returns-clause-lives c = lives_reached
