use Rattle.pp_test_walks.proofs.shape.+push_words.Given as goal

abbrev pub decreases-push_words : goal.decreases-push_words
decreases-push_words l = l.levels
