-- The bits of one word, and the least from a bit on.
use Rattle.std.proofs.Common.{◌≡◌, ℕ, ◌*◌, ◌-◌, ◌%◌, ◌^◌, ◌<◌, ◌≤◌, ◌&&◌, eqb, leb, bit_and, nat_le, Some, None, refl}
use Rattle.std.proofs.Common.{ap, sym, ◌∙◌, arith, inl, inr, w64}
use Rattle.std.specs.Int.{bit_at, trailing_zeros}
use Rattle.std.proofs.lemmas.Bool.{cases_lt, lt-leb, le-leb, and_left, and_right, and_from}
use Rattle.std.proofs.lemmas.Nat.Bits.{bit_at-lt, bit_at_and, bit_at-zero, ones_shl, bit_at_mask_inside}
use Rattle.std.proofs.lemmas.Nat.Bits.{bit_at_mask_below, bit_at-trailing_zeros}
use Rattle.pp_frames.specs.Least.{FirstBelow, first, nowhere}
use Rattle.pp_frames.specs.Words.{has_bit}

-- the word's bits from one on, and none below
abbrev pub onward : ℕ → ℕ → ℕ
onward word from = bit_and word (18446744073709551615 * 2 ^ from % 18446744073709551616)

module _ (word from : ℕ) (within : from < 64) where
  masked : onward word from ≡ bit_and word (2 ^ 64 - 2 ^ from)
  masked = ap (λ m. bit_and word m) (ones_shl 64 from (omega arith))

  pub above_from : (k : ℕ) → k < 64 → from ≤ k → bit_at (onward word from) k ≡ bit_at word k
  above_from k lt le =
      ap (λ n. bit_at n k) masked
      ∙ omega (arith, bit_at_and word (2 ^ 64 - 2 ^ from) k, bit_at_mask_inside from 64 k le lt, bit_at-lt word k)

  pub below_from : (k : ℕ) → k < from → bit_at (onward word from) k ≡ 0
  below_from k lt =
      ap (λ n. bit_at n k) masked
      ∙ omega (arith, bit_at_and word (2 ^ 64 - 2 ^ from) k, bit_at_mask_below from 64 k lt)

  -- none of the bits from there on
  pub no_bit : onward word from ≡ 0 → FirstBelow (λ k. nat_le from k && has_bit word k) 64 None
  no_bit none =
      nowhere refl (λ k lt. elim (cases_lt k from) [
        | inl below ↦ and_left (leb from k) (has_bit word k) (lt-leb from k below)
        | inr le ↦
            and_right (leb from k) (has_bit word k)
            (ap (λ n. eqb n 1) (sym (above_from k lt le) ∙ ap (λ n. bit_at n k) none ∙ bit_at-zero k))
      ])

  pub least_bit : 0 < onward word from → onward word from < 2 ^ 64
      → FirstBelow (λ k. nat_le from k && has_bit word k) 64 (Some (trailing_zeros w64 (onward word from)))
  least_bit some fits =
      let t : ℕ = trailing_zeros w64 (onward word from) in
      let found = bit_at-trailing_zeros w64 (onward word from) some fits in
      let on : from ≤ t = elim (cases_lt t from) [
        | inl below ↦ absurd (omega (arith, below_from t below, found.1))
        | inr le ↦ le
      ] in
      first t refl found.0
      (and_from (leb from t) (has_bit word t) (le-leb from t on)
      (ap (λ n. eqb n 1) (sym (above_from t found.0 on) ∙ found.1)))
      (λ k lt. elim (cases_lt k from) [
        | inl below ↦ and_left (leb from k) (has_bit word k) (lt-leb from k below)
        | inr le ↦
            and_right (leb from k) (has_bit word k)
            (ap (λ n. eqb n 1) (sym (above_from k (omega (arith, found.0)) le) ∙ found.2 k lt))
      ])
