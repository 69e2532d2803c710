-- The bits of a mask of 32.
use Rattle.std.proofs.Common.{◌≡◌, ℕ, ◌<◌, ◌⊎◌, ◌||◌, eqb, max}
use Rattle.std.proofs.Common.{ap, ◌∙◌, inl, inr, arith}
use Rattle.std.specs.Prelude.{bit_or}
use Rattle.std.specs.Int.{bit_at}
use Rattle.std.proofs.lemmas.Bool.{cases_eq}
use Rattle.std.proofs.lemmas.Nat.Bits.{bit_at-lt, bit_at_or}
use Rattle.pp_wants.specs.Masks.{has_bell}

one_of : (a : ℕ) → a < 2 → (a ≡ 0) ⊎ (a ≡ 1)
one_of a lt = elim (cases_eq a 0) [ inl none ↦ inl none | inr some ↦ inr (omega arith) ]

either : (a b : ℕ) → a < 2 → b < 2 → eqb (max a b) 1 ≡ (eqb a 1 || eqb b 1)
either a b one two =
    elim (one_of a one) [
      | inl zero_a ↦ elim (one_of b two) [ inl zero_b ↦ rw (zero_a, zero_b) | inr one_b ↦ rw (zero_a, one_b) ]
      | inr one_a ↦ elim (one_of b two) [ inl zero_b ↦ rw (one_a, zero_b) | inr one_b ↦ rw (one_a, one_b) ]
    ]

pub has_either : (one two b : ℕ) → has_bell (bit_or one two) b ≡ (has_bell one b || has_bell two b)
has_either one two b =
    ap (λ n. eqb n 1) (bit_at_or one two b) ∙ either (bit_at one b) (bit_at two b) (bit_at-lt one b) (bit_at-lt two b)
