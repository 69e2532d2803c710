-- What the check leaves to show of NumberSet::full.
use Rattle.std.proofs.Common.{arith}
use Rattle.pp_frames.proofs.Opening.{all_members}
use Rattle.pp_frames.proofs.number_set.NumberSet.full.Goals as goal

pub returns : goal.returns
returns c =
    all_members c.loop-number.set c.args.limit c.loop-number.invariant.0
    (λ k lt. c.loop-number.invariant.1 k (omega (arith, lt, c.loop-number-test.false)))
