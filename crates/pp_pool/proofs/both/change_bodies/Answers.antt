use Rattle.std.proofs.Common.{refl}
use Rattle.pp_pool.proofs.both.change_bodies.Goals as goal

pub returns : goal.returns
returns g c = record {
  first = c.body_mut.result;
  second = c.body_mut-2.result;
  shows = (c.body_mut.ensures.body, c.body_mut-2.ensures.body);
  left = _;
  met = c.change.ensures;
  leaves = (refl, refl);
}
