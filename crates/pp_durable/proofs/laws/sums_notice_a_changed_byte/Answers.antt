use Rattle.std.proofs.Common.{refl}
use Rattle.pp_durable.specs.Sum.{after_bit, after_bits, with_byte}
use Rattle.pp_durable.proofs.NoticedLemmas.{sum_of-changed}
use Rattle.pp_durable.proofs.laws.sums_notice_a_changed_byte.Goals as goal

pub returns-clause-check : goal.returns-clause-check
unfolding after_bit after_bits with_byte
returns-clause-check c = refl

pub returns-clause-changed : goal.returns-clause-changed
returns-clause-changed c = sum_of-changed
