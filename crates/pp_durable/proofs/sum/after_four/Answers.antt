use Rattle.std.proofs.Common.{◌∙◌, ◌<◌, ◌/◌, ◌%◌, sym, ap, arith}
use Rattle.std.specs.Prelude.{bit_xor}
use Rattle.pp_durable.proofs.SumLemmas.{after_bits-split, table}
use Rattle.pp_durable.proofs.sum.after_four.Goals as goal

pub returns : goal.returns
returns c =
    let below : c.args.register % 16 < 16 = omega arith in
    ap (λ x. bit_xor x (c.args.register / 16)) (table (c.args.register % 16) below) ∙ sym (after_bits-split c.args.register)
