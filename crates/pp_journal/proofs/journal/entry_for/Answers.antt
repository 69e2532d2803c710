use Rattle.pp_journal.proofs.journal.entry_for.Goals as goal

pub returns-in-Some-clause-inside : goal.returns-in-Some-clause-inside
returns-in-Some-clause-inside c = (c.in-Some.ensures.entry c.args.others.now.items).0
