use Rattle.pp_model.proofs.Settled.{seats_are_workers, plans_are_of_the_layout, pages_are_of_the_layout}
use Rattle.pp_model.proofs.laws.states_are_of_their_settings.Goals as goal

pub returns-clause-seats : goal.returns-clause-seats
returns-clause-seats c = seats_are_workers

pub returns-clause-plans : goal.returns-clause-plans
returns-clause-plans c = plans_are_of_the_layout

pub returns-clause-pages : goal.returns-clause-pages
returns-clause-pages c = pages_are_of_the_layout
