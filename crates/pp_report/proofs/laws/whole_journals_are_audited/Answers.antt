use Rattle.pp_report.proofs.Whole.{whole_spelled, whole_audited}
use Rattle.pp_report.proofs.laws.whole_journals_are_audited.Goals as goal

pub returns-clause-text : goal.returns-clause-text
returns-clause-text c = λ k plans bounded. whole_spelled k plans bounded c.args.events.now.items c.have_numbers.ensures

pub returns-clause-verdict : goal.returns-clause-verdict
returns-clause-verdict c = λ k plans bounded. whole_audited k plans bounded c.args.events.now.items c.have_numbers.ensures
