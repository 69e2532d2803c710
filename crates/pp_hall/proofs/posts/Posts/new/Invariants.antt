use Rattle.std.proofs.Common.{◌≡◌, vec_len, vec_capacity}
use Rattle.pp_hall.proofs.Filling.{IsFilled}
use Rattle.pp_hall.proofs.posts.Posts.new.Given as goal

abbrev pub invariant-loop-worker : goal.invariant-loop-worker
invariant-loop-worker g l =
    record {
      filled : IsFilled l.fn.settings.workers l.worker l.places.items l.hands.workers (vec_len l.devices);
      places : vec_capacity l.places ≡ vec_capacity l.fn.places;
      devices : vec_capacity l.devices ≡ vec_capacity l.fn.devices;
    }
