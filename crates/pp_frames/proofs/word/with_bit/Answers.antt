-- What the check leaves to show of with_bit.
use Rattle.std.proofs.Common.{eqb, ap, w64}
use Rattle.std.proofs.lemmas.Nat.Bits.{bit_at_set_same, bit_at_set_other}
use Rattle.pp_frames.proofs.word.with_bit.Goals as goal

pub returns-clause-here : goal.returns-clause-here
returns-clause-here c = ap (λ n. eqb n 1) (bit_at_set_same w64 c.args.word c.args.bit c.requires)

pub returns-clause-others : goal.returns-clause-others
returns-clause-others c = λ k away. ap (λ n. eqb n 1) (bit_at_set_other w64 c.args.word c.args.bit c.requires k away)
