-- The first place of a list that passes a test, and the least number that does.
use Rattle.std.proofs.Common.{◌≡◌, ℕ, zero, suc, ◌<◌, Bool, true, false, cond, Option}
use Rattle.std.proofs.Common.{Some, None, refl, ap, sym, ◌∙◌, arith, inl, inr}
use Rattle.std.proofs.lemmas.Bool.{cases_order}
use Rattle.std.proofs.lemmas.Bool.{both_ways}
use Rattle.pp_frames.specs.Least.{least_below, or_next, FirstBelow, first, nowhere}

-- there is one such answer
pub same_first : (test : ℕ → Bool) (n : ℕ) (a b : Option ℕ) → FirstBelow test n a → FirstBelow test n b → a ≡ b
same_first test n a b (first i ai li yi ni) (first k bk lk yk nk) =
    elim (cases_order i k) [
      | inl same ↦ ai ∙ ap (λ (j : ℕ). Some j) same ∙ sym bk
      | inr (inl lt) ↦ absurd (both_ways (test i) (nk i lt) yi)
      | inr (inr lt) ↦ absurd (both_ways (test k) (ni k lt) yk)
    ]
same_first test n a b (first i ai li yi ni) (nowhere bn fails) = absurd (both_ways (test i) (fails i li) yi)
same_first test n a b (nowhere an fails) (first k bk lk yk nk) = absurd (both_ways (test k) (fails k lk) yk)
same_first test n a b (nowhere an fails) (nowhere bn fails_too) = an ∙ sym bn

-- a test that answers alike
pub retest : (f g : ℕ → Bool) (n : ℕ) (a : Option ℕ) → ((k : ℕ) → k < n → f k ≡ g k) → FirstBelow f n a
    → FirstBelow g n a
retest f g n a same (first i ai li yi ni) =
    first i ai li (sym (same i li) ∙ yi) (λ k lt. sym (same k (omega arith)) ∙ ni k lt)
retest f g n a same (nowhere an fails) = nowhere an (λ k lt. sym (same k lt) ∙ fails k lt)

-- one number more, after none so far
one_more : (test : ℕ → Bool) (n : ℕ) (b : Bool) → test n ≡ b → ((k : ℕ) → k < n → test k ≡ false)
    → FirstBelow test (suc n) (cond b (Some n) None)
one_more test n b is fails =
    let whole : test n ≡ b → FirstBelow test (suc n) (cond b (Some n) None) =
    elim b as (λ b. test n ≡ b → FirstBelow test (suc n) (cond b (Some n) None)) [
      | true ↦ λ e. first n refl (omega arith) e fails
      | false ↦ λ e.
          nowhere refl (λ k lt. elim (cases_order k n) [
            | inl same ↦ ap test same ∙ e
            | inr (inl below) ↦ fails k below
            | inr (inr above) ↦ absurd (omega arith)
          ])
    ] in
    whole is

next_first : (test : ℕ → Bool) (n : ℕ) (a : Option ℕ) → FirstBelow test n a → FirstBelow test (suc n) (or_next test n a)
next_first test n a (first i ai li yi ni) = first i (ap (or_next test n) ai) (omega arith) yi ni
next_first test n a (nowhere an fails) = rw an (one_more test n (test n) refl fails)

pub least_first : (test : ℕ → Bool) (n : ℕ) → FirstBelow test n (least_below test n)
least_first test zero = nowhere refl (λ k lt. absurd (omega arith))
least_first test (suc n) = next_first test n (least_below test n) (least_first test n)
