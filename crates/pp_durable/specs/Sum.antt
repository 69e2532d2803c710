-- The check sum of an image: CRC-32C.
use Rattle.std.specs.Prelude.{ℕ, zero, suc, ◌-◌, ◌*◌, ◌/◌, ◌%◌, ◌^◌, List, fold, bit_xor}

-- Castagnoli's polynomial, which SCTP, iSCSI and ext4 use: x^32 + x^28 + x^27 + x^26 + x^25 + x^23 + x^22 + x^20 + x^19
-- + x^18 + x^14 + x^13 + x^11 + x^10 + x^9 + x^8 + x^6 + 1. The lowest power stands in the highest bit, and x^32 in none.
abbrev pub polynomial : ℕ
polynomial = 0x82F6_3B78

-- The register after one more bit of 0, which comes in at the top: the lowest falls out, and where it is 1 the polynomial
-- is taken away.
unfoldable pub after_bit : ℕ → ℕ
after_bit register = bit_xor (register / 2) (register % 2 * polynomial)

-- After so many of them.
unfoldable pub after_bits : ℕ → ℕ → ℕ
after_bits zero register = register
after_bits (suc n) register = after_bits n (after_bit register)

-- After one more byte: it is laid over the lowest eight bits, and these go out.
unfoldable pub with_byte : ℕ → ℕ → ℕ
with_byte register byte = after_bits 8 (bit_xor register byte)

-- The sum: from a register of ones, byte for byte, and all bits turned at the end.
abbrev pub sum_of : List ℕ → ℕ
sum_of bytes = bit_xor (fold with_byte (2 ^ 32 - 1) bytes) (2 ^ 32 - 1)
