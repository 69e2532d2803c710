-- What the check leaves to show of with_bell.
use Rattle.std.proofs.Common.{eqb, ap, w32}
use Rattle.std.proofs.lemmas.Nat.Bits.{bit_at_set_same, bit_at_set_other}
use Rattle.pp_wants.proofs.mask.with_bell.Goals as goal

pub returns-clause-here : goal.returns-clause-here
returns-clause-here c = ap (λ n. eqb n 1) (bit_at_set_same w32 c.args.mask c.args.bell c.requires)

pub returns-clause-others : goal.returns-clause-others
returns-clause-others c =
    λ b away. ap (λ n. eqb n 1) (bit_at_set_other w32 c.args.mask c.args.bell c.requires b away)
