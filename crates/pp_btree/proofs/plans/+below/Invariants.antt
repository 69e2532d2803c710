use Rattle.pp_btree.proofs.plans.+below.Given as goal

abbrev pub decreases-below : goal.decreases-below
decreases-below l = l.level
