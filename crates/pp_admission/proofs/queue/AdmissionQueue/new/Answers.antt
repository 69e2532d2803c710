use Rattle.std.proofs.Common.{arith}
use Rattle.pp_admission.proofs.Calls.{sound_empty}
use Rattle.pp_admission.proofs.queue.AdmissionQueue.new.Goals as goal

pub invariant_of-result : goal.invariant_of-result
invariant_of-result c = record {
  sound = rw c.in_ok-with_capacity.ensures.items (sound_empty c.args.most c.args.bypass);
  room = omega (arith, c.in_ok-with_capacity.ensures.exact);
  most_fits = omega arith;
  bypass_fits = omega arith;
}

pub returns-clause-sound : goal.returns-clause-sound
returns-clause-sound c = rw c.in_ok-with_capacity.ensures.items (sound_empty c.args.most c.args.bypass)
