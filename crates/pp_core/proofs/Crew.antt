-- The seats that the core keeps and those of the state, worker by worker.
use Rattle.std.proofs.Common.{◌≡◌, ◌≢◌, ℕ, zero, suc, Option, Some, None, List, [], ◌∷◌, length, refl, sym}
use Rattle.std.proofs.Common.{ap, arith, subst}
use Rattle.std.specs.Prelude.{slice_get, slice_set}
use Rattle.pp_cert.specs.Accepted.{Acceptance}
use Rattle.pp_model.specs.Pool.{Running}
use Rattle.pp_core.specs.declared.seat.Seat.{Seat}
use Rattle.pp_core.specs.StandsFor.{FitsSeat, FitsCrew}

-- ---- lists that are as long as each other

same_places : {A B : Type 0} (xs : List A) (ys : List B) (i : ℕ) (x : A) → length xs ≡ length ys
    → slice_get xs i ≡ Some x → (y : B) × (slice_get ys i ≡ Some y)
same_places [] ys i x e f = cc
same_places (x ∷ xs) [] i z e f = absurd (omega arith)
same_places (x ∷ xs) (y ∷ ys) zero z e f = (y, refl)
same_places (x ∷ xs) (y ∷ ys) (suc i) z e f = same_places xs ys i z (omega arith) f

same_ends : {A B : Type 0} (xs : List A) (ys : List B) (i : ℕ) → length xs ≡ length ys → slice_get xs i ≡ None
    → slice_get ys i ≡ None
same_ends [] [] i e f = refl
same_ends [] (y ∷ ys) i e f = absurd (omega arith)
same_ends (x ∷ xs) [] i e f = absurd (omega arith)
same_ends (x ∷ xs) (y ∷ ys) zero e f = cc
same_ends (x ∷ xs) (y ∷ ys) (suc i) e f = same_ends xs ys i (omega arith) f

pub set_length : {A : Type 0} (xs : List A) (i : ℕ) (x : A) → length (slice_set xs i x) ≡ length xs
set_length [] i x = refl
set_length (y ∷ ys) zero x = refl
set_length (y ∷ ys) (suc i) x = ap suc (set_length ys i x)

pub set_at : {A : Type 0} (xs : List A) (w : ℕ) (x y : A) → slice_get xs w ≡ Some x
    → slice_get (slice_set xs w y) w ≡ Some y
set_at [] w x y e = cc
set_at (a ∷ xs) zero x y e = refl
set_at (a ∷ xs) (suc w) x y e = set_at xs w x y e

pub set_here : {A : Type 0} (xs : List A) (i k : ℕ) (x y : A) → k ≡ i → slice_get (slice_set xs i x) k ≡ Some y → y ≡ x
set_here {A = A} xs i k x y same e = at xs i (subst (λ (j : ℕ). slice_get (slice_set xs i x) j ≡ Some y) same e)
  where
    at : (zs : List A) (j : ℕ) → slice_get (slice_set zs j x) j ≡ Some y → y ≡ x
    at [] j f = cc
    at (z ∷ zs) zero f = cc
    at (z ∷ zs) (suc j) f = at zs j f

pub set_apart : {A : Type 0} (xs : List A) (i k : ℕ) (x : A) → k ≢ i → slice_get (slice_set xs i x) k ≡ slice_get xs k
set_apart [] i k x ne = refl
set_apart (y ∷ ys) zero zero x ne = absurd (ne refl)
set_apart (y ∷ ys) zero (suc k) x ne = refl
set_apart (y ∷ ys) (suc i) zero x ne = refl
set_apart (y ∷ ys) (suc i) (suc k) x ne = set_apart ys i k x (λ e. ne (ap suc e))

-- ---- seats

module _ (plans : List Acceptance) where
  -- The state has a seat where the core has one, and they fit.
  pub seat_from : (xs : List (Option Seat)) (ys : List (Option Running)) (w : ℕ) (x : Option Seat)
      → FitsCrew plans xs ys → slice_get xs w ≡ Some x
      → (y : Option Running) × (slice_get ys w ≡ Some y) × FitsSeat plans x y
  seat_from xs ys w x h e =
      let there = same_places xs ys w x h.size e in
      (there.0, there.1, h.each w x there.0 e there.1)

  -- And the other way round.
  pub seat_to : (xs : List (Option Seat)) (ys : List (Option Running)) (w : ℕ) (y : Option Running)
      → FitsCrew plans xs ys → slice_get ys w ≡ Some y
      → (x : Option Seat) × (slice_get xs w ≡ Some x) × FitsSeat plans x y
  seat_to xs ys w y h e =
      let there = same_places ys xs w y (sym h.size) e in
      (there.0, there.1, h.each w there.0 y there.1 e)

  pub seat_none : (xs : List (Option Seat)) (ys : List (Option Running)) (w : ℕ) → FitsCrew plans xs ys
      → slice_get xs w ≡ None → slice_get ys w ≡ None
  seat_none xs ys w h e = same_ends xs ys w h.size e

  each_set : (xs : List (Option Seat)) (ys : List (Option Running)) (w : ℕ) (x : Option Seat) (y : Option Running)
      → ((v : ℕ) (a : Option Seat) (b : Option Running) → slice_get xs v ≡ Some a → slice_get ys v ≡ Some b
      → FitsSeat plans a b)
      → FitsSeat plans x y → (v : ℕ) (a : Option Seat) (b : Option Running) → slice_get (slice_set xs w x) v ≡ Some a
      → slice_get (slice_set ys w y) v ≡ Some b → FitsSeat plans a b
  each_set [] ys w x y h fits v a b e f = cc
  each_set (c ∷ xs) [] w x y h fits v a b e f = cc
  each_set (c ∷ xs) (d ∷ ys) zero x y h fits zero a b e f =
      let left : x ≡ a = cc in
      let right : y ≡ b = cc in
      subst (λ z. FitsSeat plans a z) right (subst (λ z. FitsSeat plans z y) left fits)
  each_set (c ∷ xs) (d ∷ ys) zero x y h fits (suc v) a b e f = h (suc v) a b e f
  each_set (c ∷ xs) (d ∷ ys) (suc w) x y h fits zero a b e f = h zero a b e f
  each_set (c ∷ xs) (d ∷ ys) (suc w) x y h fits (suc v) a b e f =
      each_set xs ys w x y (λ u. h (suc u)) fits v a b e f

  -- A worker's seat changes on both sides.
  pub seat_set : (xs : List (Option Seat)) (ys : List (Option Running)) (w : ℕ) (x : Option Seat) (y : Option Running)
      → FitsCrew plans xs ys → FitsSeat plans x y → FitsCrew plans (slice_set xs w x) (slice_set ys w y)
  seat_set xs ys w x y h fits = record {
    size = omega (arith, h.size, set_length xs w x, set_length ys w y);
    each = each_set xs ys w x y h.each fits;
  }
