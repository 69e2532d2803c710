use Rattle.std.proofs.Common.{◌≡◌, length}
use Rattle.pp_steps.specs.Parts.{AreSeated}
use Rattle.pp_steps.proofs.whole.end_all.Given as goal

abbrev pub invariant-loop-place : goal.invariant-loop-place
invariant-loop-place l = record {
  seated : AreSeated l.hall.value l.places.items;
  vault : l.hall.value.seating.vault ≡ l.fn.hall.value.seating.vault;
}

abbrev pub decreases-loop-place : goal.decreases-loop-place
decreases-loop-place l = length l.places.items
