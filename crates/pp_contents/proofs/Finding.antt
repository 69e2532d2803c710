-- The first thing that the places of a list give.
use Rattle.std.proofs.Common.{◌≡◌, ◌≢◌, ◌∙◌, ℕ, zero, suc, true, false, Option, Some, None, List, [], ◌∷◌, refl, arith}
use Rattle.std.specs.Prelude.{◌==◌}
use Rattle.std.proofs.lemmas.Bool.Decides.{nat_tests}
use Rattle.pp_vault.specs.Holding.{placed}
use Rattle.pp_contents.specs.Content.{or_other, first_given}

-- ---- tests

pub test_same : (a b : ℕ) → a ≡ b → (a == b) ≡ true
test_same a b e = grind (arith, nat_tests)

pub test_apart : (a b : ℕ) → a ≢ b → (a == b) ≡ false
test_apart a b d = grind (arith, nat_tests)

-- ---- places

-- A place that gives this.
pub record GivenAt {T U : Type 0} (gives : Option T → Option U) (xs : List (Option T)) (y : U) : Type 0 where
  pub place : ℕ
  pub given : gives (placed xs place) ≡ Some y

-- Where something is given, a place gives it.
pub given_at : {T U : Type 0} (gives : Option T → Option U) (xs : List (Option T)) (y : U)
    → first_given gives xs ≡ Some y → GivenAt gives xs y
given_at {T} {U} gives [] y e = absurd (cc)
given_at {T} {U} gives (x ∷ xs) y e = go (gives x) refl e (λ f. given_at gives xs y f)
  where
    go : (o : Option U) → gives x ≡ o → or_other o (first_given gives xs) ≡ Some y
        → (first_given gives xs ≡ Some y → GivenAt gives xs y) → GivenAt gives (x ∷ xs) y
    go (Some z) is f rest = record { place = 0; given = is ∙ f }
    go None is f rest = record { place = suc (rest f).place; given = (rest f).given }

-- Where nothing is given, no place gives anything.
pub none_given : {T U : Type 0} (gives : Option T → Option U) → gives None ≡ None → (xs : List (Option T))
    → first_given gives xs ≡ None → (n : ℕ) → gives (placed xs n) ≡ None
none_given {T} {U} gives none [] e n = none
none_given {T} {U} gives none (x ∷ xs) e n = go (gives x) refl e (λ f k. none_given gives none xs f k) n
  where
    go : (o : Option U) → gives x ≡ o → or_other o (first_given gives xs) ≡ None
        → (first_given gives xs ≡ None → (k : ℕ) → gives (placed xs k) ≡ None) → (k : ℕ)
        → gives (placed (x ∷ xs) k) ≡ None
    go (Some z) is f rest k = absurd (cc)
    go None is f rest zero = is
    go None is f rest (suc k) = rest f k
