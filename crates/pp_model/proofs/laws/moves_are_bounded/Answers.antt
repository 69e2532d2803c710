use Rattle.pp_model.proofs.Changes.{refused_by}
use Rattle.pp_model.proofs.BoundLaws.{bound_falls, bound_rises, done_within}
use Rattle.pp_model.proofs.Rest.{renewal_sets_bound}
use Rattle.pp_model.proofs.laws.moves_are_bounded.Goals as goal

pub returns-clause-falls : goal.returns-clause-falls
returns-clause-falls c = bound_falls

pub returns-clause-refused : goal.returns-clause-refused
returns-clause-refused c = refused_by

pub returns-clause-rises : goal.returns-clause-rises
returns-clause-rises c = bound_rises

pub returns-clause-renewals : goal.returns-clause-renewals
returns-clause-renewals c = renewal_sets_bound

pub returns-clause-lists : goal.returns-clause-lists
returns-clause-lists c = λ s h ms. done_within s ms h
