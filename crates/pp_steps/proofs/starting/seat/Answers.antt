use Rattle.std.proofs.Common.{refl, arith}
use Rattle.pp_steps.proofs.starting.seat.Goals as goal

pub returns-clause-seat : goal.returns-clause-seat
returns-clause-seat c = record {
  fresh = c.seat.ensures.next;
  one = record { worker = c.over_site-worker.result.1; plan = c.args.plan };
  rests = record { hall = grind arith; told = grind arith; own = grind arith };
  plan_is = refl;
  hand_is = c.over_site-worker.ensures.hand;
  new_is = c.seat.ensures.seat;
}
