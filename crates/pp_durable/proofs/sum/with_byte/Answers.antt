use Rattle.std.proofs.Common.{◌∙◌, ap}
use Rattle.std.specs.Prelude.{bit_xor}
use Rattle.pp_durable.specs.Sum.{with_byte, after_bits}
use Rattle.pp_durable.proofs.SumLemmas.{after_bits-twice}
use Rattle.pp_durable.proofs.sum.with_byte.Goals as goal

pub returns : goal.returns
unfolding with_byte
returns c =
    c.after_four-2.ensures ∙ ap (after_bits 4) c.after_four.ensures ∙ ap (λ x. after_bits 4 (after_bits 4 (bit_xor c.args.register x))) c.from.ensures ∙ after_bits-twice _
