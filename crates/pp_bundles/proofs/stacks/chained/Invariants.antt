-- What the loop that chains the records keeps true.
use Rattle.pp_bundles.proofs.FreshLemmas.{BelowAreChained}
use Rattle.pp_bundles.proofs.stacks.chained.Given as goal

abbrev pub invariant-loop-i : goal.invariant-loop-i
invariant-loop-i l = BelowAreChained l.chained.items l.records l.i
