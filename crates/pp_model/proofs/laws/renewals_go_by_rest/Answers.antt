use Rattle.pp_model.proofs.Rest.{renewal_answers}
use Rattle.pp_model.proofs.Quiet.{renewal_opens}
use Rattle.pp_model.proofs.laws.renewals_go_by_rest.Goals as goal

pub returns-clause-answers : goal.returns-clause-answers
returns-clause-answers c = renewal_answers

pub returns-clause-opens : goal.returns-clause-opens
returns-clause-opens c = renewal_opens
