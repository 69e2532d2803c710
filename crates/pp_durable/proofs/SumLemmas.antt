-- Several bits of the register at once.
use Rattle.std.proofs.Common.{◌≡◌, ℕ, zero, suc, ◌+◌, ◌*◌, ◌/◌, ◌%◌, ◌^◌, ◌<◌, [], ◌∷◌, slice_index_or, refl, sym, ◌∙◌, ap, arith, lit<, add-zero, zero-add}
use Rattle.std.proofs.lemmas.List.FromFn.{get_or-map-range_with_len}
use Rattle.std.proofs.Math.Nat.{mul_assoc, pow-suc}
use Rattle.std.specs.Prelude.{bit_xor}
use Rattle.std.specs.Int.Bits.{xor_assoc, xor_zero_l, xor_zero_r}
use Rattle.std.proofs.lemmas.Nat.{xor_comm, xor_shr, xor_mod, xor_block, shl-shr, shr_split}
use Rattle.pp_durable.specs.Sum.{polynomial, after_bit, after_bits}

-- Two and two may be laid over one another in another order.
xor_swap : (a b c d : ℕ) → bit_xor (bit_xor a b) (bit_xor c d) ≡ bit_xor (bit_xor a c) (bit_xor b d)
xor_swap a b c d =
    xor_assoc a b (bit_xor c d)
    ∙ ap (λ x. bit_xor a x) (sym (xor_assoc b c d) ∙ ap (λ x. bit_xor x d) (xor_comm b c) ∙ xor_assoc c b d)
    ∙ sym (xor_assoc a c (bit_xor b d))

-- Of two bits the polynomial is taken as often as of both laid over one another.
digit-xor : (p q : ℕ) → p < 2 → q < 2 → bit_xor p q * polynomial ≡ bit_xor (p * polynomial) (q * polynomial)
digit-xor zero zero small less = refl
digit-xor zero (suc zero) small less = refl
digit-xor (suc zero) zero small less = refl
digit-xor (suc zero) (suc zero) small less = refl
digit-xor (suc (suc p)) q small less = absurd (omega arith)
digit-xor p (suc (suc q)) small less = absurd (omega arith)

-- One more bit of two registers laid over one another.
after_bit-xor : (a b : ℕ) → after_bit (bit_xor a b) ≡ bit_xor (after_bit a) (after_bit b)
unfolding after_bit
after_bit-xor a b =
    ap (λ x. bit_xor x (bit_xor a b % 2 * polynomial)) (xor_shr a b 1)
    ∙ ap (λ x. bit_xor (bit_xor (a / 2) (b / 2)) (x * polynomial)) (xor_mod a b 1)
    ∙ ap (λ x. bit_xor (bit_xor (a / 2) (b / 2)) x) (digit-xor (a % 2) (b % 2) (omega arith) (omega arith))
    ∙ xor_swap (a / 2) (b / 2) (a % 2 * polynomial) (b % 2 * polynomial)

pub after_bits-xor : (n a b : ℕ) → after_bits n (bit_xor a b) ≡ bit_xor (after_bits n a) (after_bits n b)
unfolding after_bits
after_bits-xor zero a b = refl
after_bits-xor (suc n) a b = ap (after_bits n) (after_bit-xor a b) ∙ after_bits-xor n (after_bit a) (after_bit b)

-- Where only zeros fall out, the register moves down.
after_bit-double : (h : ℕ) → after_bit (h * 2) ≡ h
unfolding after_bit
after_bit-double h =
    let half : h * 2 / 2 ≡ h = shl-shr h 1 in
    let even : h * 2 % 2 ≡ 0 = omega arith in
    rw (half, even) (xor_zero_r h)

after_bits-high : (n h : ℕ) → after_bits n (h * 2 ^ n) ≡ h
unfolding after_bits
after_bits-high zero h = omega arith
after_bits-high (suc n) h =
    let doubled : h * 2 ^ suc n ≡ h * 2 ^ n * 2 = rw (pow-suc, mul_assoc) refl in
    ap (λ x. after_bits n (after_bit x)) doubled ∙ ap (after_bits n) (after_bit-double (h * 2 ^ n)) ∙ after_bits-high n h

-- So many bits at once: what stands above them moves down, and what they come to is laid over it.
pub after_bits-split : (register : ℕ) → after_bits 4 register ≡ bit_xor (after_bits 4 (register % 16)) (register / 16)
after_bits-split register =
    let high : ℕ = register / 16 in
    let low : ℕ = register % 16 in
    let four : low < 2 ^ 4 = omega arith in
    let block : bit_xor (high * 2 ^ 4 + 0) (0 * 2 ^ 4 + low) ≡ bit_xor high 0 * 2 ^ 4 + bit_xor 0 low = xor_block 4 high 0 0 low (lit< tt) four in
    let joined : bit_xor (high * 2 ^ 4) low ≡ register = cc (block, add-zero (high * 2 ^ 4), zero-add low, xor_zero_r high, xor_zero_l low, shr_split register 4) in
    ap (after_bits 4) (sym joined) ∙ after_bits-xor 4 (high * 2 ^ 4) low
    ∙ ap (λ x. bit_xor x (after_bits 4 low)) (after_bits-high 4 high) ∙ xor_comm high (after_bits 4 low)

-- What four bits come to.
pub table : (i : ℕ) → i < 16 → slice_index_or {A = ℕ} (0 ∷ 274646895 ∷ 549293790 ∷ 820201905 ∷ 1098587580 ∷ 1361435347 ∷ 1640403810 ∷ 1905808397 ∷ 2197175160 ∷ 2460548119 ∷ 2722870694 ∷ 2987750089 ∷ 3280807620 ∷ 3553878443 ∷ 3811616794 ∷ 4084100981 ∷ []) i 0 ≡ after_bits 4 i
unfolding after_bits after_bit
table i below = get_or-map-range_with_len (after_bits 4) 0 16 i i 0 below (zero-add i)

-- Eight bits are twice four.
pub after_bits-twice : (register : ℕ) → after_bits 4 (after_bits 4 register) ≡ after_bits 8 register
unfolding after_bits
after_bits-twice register = refl
