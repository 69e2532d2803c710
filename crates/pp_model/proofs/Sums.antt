-- Sums over lists: what a write to one place does to them, and how often a page stands in lists of pages.
use Rattle.std.proofs.Common.{◌≡◌, ℕ, zero, suc, ◌+◌, ◌≤◌, ◌<◌, eqb, cond, List, [], ◌∷◌, ◌++◌, length, Some, refl, ap}
use Rattle.std.proofs.Common.{arith}
use Rattle.std.specs.Prelude.{sum_by, slice_get, slice_set}
use Rattle.std.proofs.lemmas.Bool.Decides.{nat_tests}
use Rattle.std.proofs.lemmas.List.Sums.{sum_by-cons, sum_by-append}
use Rattle.pp_model.specs.Holders.{times}

-- ---- one place of a list is written

pub sum_by-slice_set : {A : Type 0} (f : A → ℕ) (xs : List A) (i : ℕ) (x y : A) → slice_get xs i ≡ Some x
    → sum_by f (slice_set xs i y) + f x ≡ sum_by f xs + f y
sum_by-slice_set f [] i x y e = cc
sum_by-slice_set f (a ∷ xs) zero x y e =
    let same : a ≡ x = cc in
    omega (arith, sum_by-cons f y xs, sum_by-cons f a xs, ap f same)
sum_by-slice_set f (a ∷ xs) (suc i) x y e =
    omega (arith, sum_by-cons f a (slice_set xs i y), sum_by-cons f a xs, sum_by-slice_set f xs i x y e)

-- A term of the sum is at most the sum.
pub sum_by-term : {A : Type 0} (f : A → ℕ) (xs : List A) (i : ℕ) (x : A) → slice_get xs i ≡ Some x → f x ≤ sum_by f xs
sum_by-term f [] i x e = cc
sum_by-term f (a ∷ xs) zero x e = let same : a ≡ x = cc in omega (arith, sum_by-cons f a xs, ap f same)
sum_by-term f (a ∷ xs) (suc i) x e = omega (arith, sum_by-cons f a xs, sum_by-term f xs i x e)

-- Sums of terms that are at most those of another sum, and of terms one of which is less.
pub sum_by-le : {A : Type 0} (f g : A → ℕ) (xs : List A) → ((i : ℕ) (x : A) → slice_get xs i ≡ Some x → f x ≤ g x)
    → sum_by f xs ≤ sum_by g xs
sum_by-le f g [] le = omega arith
sum_by-le f g (x ∷ xs) le =
    omega (arith, sum_by-cons f x xs, sum_by-cons g x xs, le 0 x refl, sum_by-le f g xs (λ i. le (suc i)))

pub sum_by-lt : {A : Type 0} (f g : A → ℕ) (xs : List A) (at : ℕ) (y : A)
    → ((i : ℕ) (x : A) → slice_get xs i ≡ Some x → f x ≤ g x) → slice_get xs at ≡ Some y → suc (f y) ≤ g y
    → suc (sum_by f xs) ≤ sum_by g xs
sum_by-lt f g [] at y le e lt = cc
sum_by-lt f g (x ∷ xs) zero y le e lt =
    let same : x ≡ y = cc in
    omega (arith, sum_by-cons f x xs, sum_by-cons g x xs, ap f same, ap g same, lt, sum_by-le f g xs (λ i. le (suc i)))
sum_by-lt f g (x ∷ xs) (suc at) y le e lt =
    omega (arith, sum_by-cons f x xs, sum_by-cons g x xs, le 0 x refl, sum_by-lt f g xs at y (λ i. le (suc i)) e lt)

-- ---- how often a page stands in a list

pub times-cons : (q p : ℕ) (ps : List ℕ) → times q (p ∷ ps) ≡ cond (eqb p q) 1 0 + times q ps
times-cons q p ps = sum_by-cons (λ x. cond (eqb x q) 1 0) p ps

pub times-append : (q : ℕ) (ps qs : List ℕ) → times q (ps ++ qs) ≡ times q ps + times q qs
times-append q ps qs = sum_by-append (λ x. cond (eqb x q) 1 0) ps qs

pub itself : (x : ℕ) → ◌≡◌ {A = ℕ} (cond (eqb x x) 1 0) 1
itself x = grind (arith, nat_tests)

other_way : (p q : ℕ) → ◌≡◌ {A = ℕ} (cond (eqb p q) 1 0) (cond (eqb q p) 1 0)
other_way p q = grind (arith, nat_tests)

matches : (y : ℕ) (xs : List ℕ) → sum_by (λ p. cond (eqb y p) 1 0) xs ≡ times y xs
matches y [] = refl
matches y (x ∷ xs) =
    omega (arith, sum_by-cons (λ p. cond (eqb y p) 1 0) x xs, times-cons y x xs, other_way x y, matches y xs)

add_up : (y : ℕ) (ys xs : List ℕ)
    → sum_by (λ p. times p (y ∷ ys)) xs ≡ sum_by (λ p. cond (eqb y p) 1 0) xs + sum_by (λ p. times p ys) xs
add_up y ys [] = refl
add_up y ys (x ∷ xs) =
    omega (
      arith,
      sum_by-cons (λ p. times p (y ∷ ys)) x xs,
      sum_by-cons (λ p. cond (eqb y p) 1 0) x xs,
      sum_by-cons (λ p. times p ys) x xs,
      times-cons x y ys,
      add_up y ys xs,
    )

zeros : (xs : List ℕ) → sum_by (λ p. times p []) xs ≡ 0
zeros [] = refl
zeros (x ∷ xs) = omega (arith, sum_by-cons (λ p. times p []) x xs, zeros xs)

-- Where no page stands twice in the first list, its pages stand in the second no more often than this is long.
pub spread : (xs ys : List ℕ) → ((q : ℕ) → times q xs ≤ 1) → sum_by (λ p. times p ys) xs ≤ length ys
spread xs [] once = omega (arith, zeros xs)
spread xs (y ∷ ys) once = omega (arith, add_up y ys xs, matches y xs, once y, spread xs ys once)

-- A sum over a list whose pages all count is at least as great as the list is long.
pub covers : (f : ℕ → ℕ) (xs : List ℕ) → ((q : ℕ) → 0 < times q xs → 0 < f q) → length xs ≤ sum_by f xs
covers f [] some = omega arith
covers f (x ∷ xs) some =
    omega (
      arith,
      sum_by-cons f x xs,
      some x (omega (arith, times-cons x x xs, itself x)),
      covers f xs (λ q lt. some q (omega (arith, times-cons q x xs, lt))),
    )
