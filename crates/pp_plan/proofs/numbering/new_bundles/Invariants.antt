use Rattle.std.proofs.Common.{◌≡◌, ℕ, ◌<◌, ◌≤◌, false, length, slice_index_or}
use Rattle.pp_plan.proofs.numbering.new_bundles.Given as goal

abbrev pub invariant-loop-slot : goal.invariant-loop-slot
invariant-loop-slot l = record {
  long : length l.table ≡ 32;
  slots : (k : ℕ) → k < l.slot → slice_index_or l.table k false
      ≡ slice_index_or l.bundles (slice_index_or l.old k 0) false;
  past : (k : ℕ) → l.slot ≤ k → slice_index_or l.table k false ≡ false;
}
