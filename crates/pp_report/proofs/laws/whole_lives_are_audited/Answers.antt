use Rattle.pp_report.proofs.LivesWhole.{whole_spelled, whole_audited}
use Rattle.pp_report.proofs.laws.whole_lives_are_audited.Goals as goal

pub returns-clause-text : goal.returns-clause-text
returns-clause-text c = λ k plans bounded.
    whole_spelled k plans bounded _ c.args.last.now.items c.each_has_numbers.ensures c.have_numbers.ensures

pub returns-clause-verdict : goal.returns-clause-verdict
returns-clause-verdict c = λ k plans bounded.
    whole_audited k plans bounded _ c.args.last.now.items c.each_has_numbers.ensures c.have_numbers.ensures
