use Rattle.pp_model.proofs.LatchLaws.{in_order, latches_agree}
use Rattle.pp_model.proofs.laws.latches_agree.Goals as goal

pub returns-clause-in_order : goal.returns-clause-in_order
returns-clause-in_order c = in_order

pub returns-clause-on_a_page : goal.returns-clause-on_a_page
returns-clause-on_a_page c = latches_agree
