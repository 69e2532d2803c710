-- Where an element stands that alone passes a test, and equal texts.
use Rattle.std.proofs.Common.{◌≡◌, ℕ, ◌<◌, Bool, true, List, length, get_or, Some, arith}
use Rattle.std.specs.List.{position, position_or_len}
use Rattle.std.specs.Str.{bytes_eq}
use Rattle.std.proofs.lemmas.Bool.{false_from_ne_true}
use Rattle.std.proofs.lemmas.Bool.Decides.{nat_tests}
use Rattle.std.proofs.lemmas.List.Sums.{position_or_len_is}
use Rattle.std.proofs.lemmas.Slice.Eq.{bytes_eq-Decides}

-- The first place that passes is the position.
pub position_at : {X : Type 0} (q : X → Bool) (xs : List X) (i : ℕ) → position_or_len q xs ≡ i → i < length xs
    → position q xs ≡ Some i
position_at q xs i first within = rw first (grind (arith, nat_tests))

-- A place that passes, and before which none does, is the position.
pub position_only : {X : Type 0} (q : X → Bool) (xs : List X) (i : ℕ) (d : X) → i < length xs
    → q (get_or xs i d) ≡ true → ((k : ℕ) → k < i → q (get_or xs k d) ≡ true → ⊥) → position q xs ≡ Some i
position_only q xs i d within passes others =
    position_at q xs i (position_or_len_is q xs i d (omega (arith, within))
    (λ k below. false_from_ne_true (q (get_or xs k d)) (others k below)) (λ w. passes)) within

-- Texts that the test of equality takes for equal are.
pub same_text : (a b : List ℕ) → bytes_eq a b ≡ true → a ≡ b
same_text a b = (bytes_eq-Decides a b).0
