-- What the check leaves to show of without_bit.
use Rattle.std.proofs.Common.{◌*◌, ◌-◌, ◌%◌, ◌^◌, eqb, ap, w64}
use Rattle.std.proofs.lemmas.Nat.{and_le_l}
use Rattle.std.proofs.lemmas.Nat.Bits.{bit_at_clear_same, bit_at_clear_other}
use Rattle.pp_frames.proofs.word.without_bit.Goals as goal

pub returns-clause-here : goal.returns-clause-here
returns-clause-here c = ap (λ n. eqb n 1) (bit_at_clear_same w64 c.args.word c.args.bit c.requires)

pub returns-clause-others : goal.returns-clause-others
returns-clause-others c =
    λ k lt away. ap (λ n. eqb n 1) (bit_at_clear_other w64 c.args.word c.args.bit c.requires k lt away)

pub returns-clause-no_more : goal.returns-clause-no_more
returns-clause-no_more c =
    and_le_l c.args.word (18446744073709551615 - 1 * 2 ^ c.args.bit % 18446744073709551616)
