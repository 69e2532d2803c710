use Rattle.pp_test_durable.proofs.crashing.CrashingDurable.sync.Goals as goal

pub invariant_of-self-2 : goal.invariant_of-self-2
invariant_of-self-2 c = c.settle_all.ensures.lengths c.self.inside.page_bytes c.self.invariant
