use Rattle.std.proofs.Common.{◌≡◌, length, take, drop}
use Rattle.std.specs.Prelude.{vec_capacity}
use Rattle.pp_pool.specs.Lent.{with_back}
use Rattle.pp_pool.proofs.held.put_back.Given as goal

abbrev pub invariant-loop-guard : goal.invariant-loop-guard
invariant-loop-guard l = record {
  left : l.out.items ≡ take (length l.out.items) l.fn.out.items;
  back : l.guards ≡ with_back l.fn.guards (drop (length l.out.items) l.fn.out.items);
  capacity : vec_capacity l.out ≡ vec_capacity l.fn.out;
}

abbrev pub decreases-loop-guard : goal.decreases-loop-guard
decreases-loop-guard l = length l.out.items
