-- What the check leaves to show of least_bit.
use Rattle.std.proofs.Common.{arith, ◌*◌, ◌^◌, ◌%◌}
use Rattle.std.proofs.lemmas.Nat.{and_le_l}
use Rattle.pp_frames.proofs.Bits.{no_bit, least_bit}
use Rattle.pp_frames.proofs.word.least_bit.Goals as goal

pub returns-then-onward-eq0 : goal.returns-then-onward-eq0
returns-then-onward-eq0 c = record { first = no_bit c.args.word c.args.from c.requires c.if-onward-eq0.true }

pub returns-else-onward-eq0 : goal.returns-else-onward-eq0
returns-else-onward-eq0 c =
    record {
      first = least_bit c.args.word c.args.from c.requires (omega arith)
          (omega (arith, and_le_l c.args.word (18446744073709551615 * 2 ^ c.args.from % 18446744073709551616)));
    }
