use Rattle.std.proofs.Common.{length, vec_len, vec_capacity}
use Rattle.std.specs.Prelude.{sum_by}
use Rattle.pp_hall.specs.Posts.{one_if}
use Rattle.pp_hall.proofs.Filling.{IsEmptied}
use Rattle.pp_hall.proofs.posts.Posts.end.Given as goal

abbrev pub invariant-loop-place : goal.invariant-loop-place
invariant-loop-place g l =
    IsEmptied (length l.fn.self.there) (sum_by one_if l.fn.self.there) l.places.items l.hands.workers (vec_len l.devices)
    (vec_capacity l.devices)

abbrev pub decreases-loop-place : goal.decreases-loop-place
decreases-loop-place g l = goal.left-loop-place g l
