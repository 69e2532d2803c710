-- Two registers that differ go on to differ.
use Rattle.std.proofs.Common.{◌≡◌, ℕ, zero, suc, ◌*◌, ◌/◌, ◌%◌, ◌^◌, ◌-◌, ◌<◌, List, [], ◌∷◌, ◌++◌, All, sym, ◌∙◌, ap, arith, lit<}
use Rattle.std.specs.Prelude.{bit_xor, fold}
use Rattle.std.specs.Int.Bits.{xor_assoc, xor_self, xor_zero_r}
use Rattle.std.proofs.lemmas.Nat.{xor_comm, xor_lt}
use Rattle.std.proofs.lemmas.List.Sums.{fold-append}
use Rattle.pp_durable.specs.Sum.{polynomial, after_bit, after_bits, with_byte}
use Rattle.pp_durable.specs.Noticed.{NoticesAByte}
use Rattle.pp_durable.proofs.SumLemmas.{after_bits-xor}

-- What is laid over both is taken away again.
xor-cancel : (a b c : ℕ) → bit_xor a c ≡ bit_xor b c → a ≡ b
xor-cancel a b c same =
    sym (xor_zero_r a) ∙ ap (bit_xor a) (sym (xor_self c)) ∙ sym (xor_assoc a c c) ∙ ap (λ x. bit_xor x c) same
    ∙ xor_assoc b c c ∙ ap (bit_xor b) (xor_self c) ∙ xor_zero_r b

-- Numbers that come to 0 when laid over one another are the same.
xor-zero : (a b : ℕ) → bit_xor a b ≡ 0 → a ≡ b
xor-zero a b none = xor-cancel a b b (none ∙ sym (xor_self b))

-- One bit further a register of 32 bits is one.
after_bit-fits : (r : ℕ) → r < 2 ^ 32 → after_bit r < 2 ^ 32
unfolding after_bit
after_bit-fits r small = xor_lt 32 (r / 2) (r % 2 * polynomial) (omega arith) (omega arith)

-- Only from 0 it comes to 0: where the lowest bit was 1, the highest is 1 now.
after_bit-none : (r : ℕ) → r < 2 ^ 32 → after_bit r ≡ 0 → r ≡ 0
unfolding after_bit
after_bit-none r small none =
    let same : r / 2 ≡ r % 2 * polynomial = xor-zero (r / 2) (r % 2 * polynomial) none in
    omega arith

after_bits-none : (n r : ℕ) → r < 2 ^ 32 → after_bits n r ≡ 0 → r ≡ 0
unfolding after_bits
after_bits-none zero r small none = none
after_bits-none (suc n) r small none =
    after_bit-none r small (after_bits-none n (after_bit r) (after_bit-fits r small) none)

after_bits-fits : (n r : ℕ) → r < 2 ^ 32 → after_bits n r < 2 ^ 32
unfolding after_bits
after_bits-fits zero r small = small
after_bits-fits (suc n) r small = after_bits-fits n (after_bit r) (after_bit-fits r small)

-- Two registers that are the same after so many bits were the same.
after_bits-same : (n a b : ℕ) → a < 2 ^ 32 → b < 2 ^ 32 → after_bits n a ≡ after_bits n b → a ≡ b
after_bits-same n a b small less same =
    xor-zero a b
    (after_bits-none n (bit_xor a b) (xor_lt 32 a b small less)
    (after_bits-xor n a b ∙ ap (λ x. bit_xor x (after_bits n b)) same ∙ xor_self (after_bits n b)))

-- A byte laid over a register.
over-fits : (r byte : ℕ) → r < 2 ^ 32 → byte < 256 → bit_xor r byte < 2 ^ 32
over-fits r byte small less = xor_lt 32 r byte small (omega arith)

with_byte-fits : (r byte : ℕ) → r < 2 ^ 32 → byte < 256 → with_byte r byte < 2 ^ 32
unfolding with_byte
with_byte-fits r byte small less = after_bits-fits 8 (bit_xor r byte) (over-fits r byte small less)

-- Registers that are the same after the same byte were the same, and bytes after which the same register is the same are the
-- same.
register-same : (r s byte : ℕ) → r < 2 ^ 32 → s < 2 ^ 32 → byte < 256 → with_byte r byte ≡ with_byte s byte → r ≡ s
unfolding with_byte
register-same r s byte small less few same =
    xor-cancel r s byte
    (after_bits-same 8 (bit_xor r byte) (bit_xor s byte) (over-fits r byte small few) (over-fits s byte less few) same)

byte-same : (r was is : ℕ) → r < 2 ^ 32 → was < 256 → is < 256 → with_byte r was ≡ with_byte r is → was ≡ is
unfolding with_byte
byte-same r was is small less few same =
    xor-cancel was is r
    (xor_comm was r
    ∙ after_bits-same 8 (bit_xor r was) (bit_xor r is) (over-fits r was small less) (over-fits r is small few) same
    ∙ xor_comm r is)

-- What each element of a list of bytes is.
abbrev IsByte : ℕ → Type 0
IsByte byte = byte < 256

fold-fits : (bytes : List ℕ) (r : ℕ) → All IsByte bytes → r < 2 ^ 32 → fold with_byte r bytes < 2 ^ 32
fold-fits [] r each small = small
fold-fits (byte ∷ bytes) r each small =
    fold-fits bytes (with_byte r byte) (λ k d below. each (suc k) d (omega (arith, below)))
    (with_byte-fits r byte small (each 0 0 (omega arith)))

fold-same : (bytes : List ℕ) (r s : ℕ) → All IsByte bytes → r < 2 ^ 32 → s < 2 ^ 32
    → fold with_byte r bytes ≡ fold with_byte s bytes → r ≡ s
fold-same [] r s each small less same = same
fold-same (byte ∷ bytes) r s each small less same =
    let few : byte < 256 = each 0 0 (omega arith) in
    register-same r s byte small less few
    (fold-same bytes (with_byte r byte) (with_byte s byte) (λ k d below. each (suc k) d (omega (arith, below)))
    (with_byte-fits r byte small few) (with_byte-fits s byte less few) same)

pub sum_of-changed : NoticesAByte
sum_of-changed front back was is before behind less few ne same =
    let ones : ℕ = 2 ^ 32 - 1 in
    let r : ℕ = fold with_byte ones front in
    let small : r < 2 ^ 32 = fold-fits front ones before (lit< tt) in
    let folds : fold with_byte ones (front ++ was ∷ back) ≡ fold with_byte ones (front ++ is ∷ back) =
    xor-cancel (fold with_byte ones (front ++ was ∷ back)) (fold with_byte ones (front ++ is ∷ back)) ones same in
    ne
    (byte-same r was is small less few
    (fold-same back (with_byte r was) (with_byte r is) behind (with_byte-fits r was small less) (with_byte-fits r is small few)
    (sym (fold-append with_byte ones front (was ∷ back)) ∙ folds ∙ fold-append with_byte ones front (is ∷ back))))
