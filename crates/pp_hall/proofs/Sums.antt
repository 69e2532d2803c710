-- Peaks over chairs.
use Rattle.std.proofs.Common.{◌≡◌, ℕ, zero, suc, ◌+◌, ◌-◌, ◌≤◌, List, [], ◌∷◌, Option, Some, None, refl, ap, arith}
use Rattle.std.specs.Prelude.{sum_by, slice_get, slice_set, slice_index_or, unwrap_or, drop}
use Rattle.std.proofs.lemmas.List.Sums.{sum_by-cons}
use Rattle.pp_model.specs.Pool.{Running}
use Rattle.pp_model.specs.Budget.{peak_of}
use Rattle.pp_model.proofs.Sums.{sum_by-slice_set, sum_by-term}
use Rattle.pp_hall.specs.Seatings.{pages_out}

-- What is in a place after a write to one, by a measure that the write doesn't raise.
pub at_set : {A : Type 0} (f : A → ℕ) (xs : List A) (w : ℕ) (x : A) (v : ℕ) (a d : A) → slice_get xs w ≡ Some a → f x ≤ f a
    → f (slice_index_or (slice_set xs w x) v d) ≤ f (slice_index_or xs v d)
at_set f [] w x v a d there le = cc
at_set f (y ∷ ys) zero x zero a d there le =
    let same : y ≡ a = cc in
    omega (arith, ap f same, le)
at_set f (y ∷ ys) zero x (suc v) a d there le = omega arith
at_set f (y ∷ ys) (suc w) x zero a d there le = omega arith
at_set f (y ∷ ys) (suc w) x (suc v) a d there le = at_set f ys w x v a d there le

-- Where each place is within a bound, and so is what is written to one, each place still is.
pub within_set : {A : Type 0} (f : A → ℕ) (d : A) (xs : List A) (w : ℕ) (x : A) (bound : ℕ → ℕ)
    → ((v : ℕ) → f (slice_index_or xs v d) ≤ bound v) → f x ≤ bound w
    → (v : ℕ) → f (slice_index_or (slice_set xs w x) v d) ≤ bound v
within_set f d [] w x bound below le v = below v
within_set f d (y ∷ ys) zero x bound below le zero = le
within_set f d (y ∷ ys) zero x bound below le (suc v) = below (suc v)
within_set f d (y ∷ ys) (suc w) x bound below le zero = below zero
within_set f d (y ∷ ys) (suc w) x bound below le (suc v) =
    within_set f d ys w x (λ k. bound (suc k)) (λ k. below (suc k)) le v

-- Where the peak of each worker is at most the chair's, so are the sums.
pub sums_below : (seats : List (Option Running)) (peaks : List (Option ℕ))
    → ((w : ℕ) → peak_of (slice_index_or seats w None) ≤ unwrap_or (slice_index_or peaks w None) 0)
    → sum_by peak_of seats ≤ pages_out peaks
sums_below [] peaks below = omega arith
sums_below (x ∷ xs) [] below =
    let here : peak_of x ≤ 0 = below 0 in
    let rest : sum_by peak_of xs ≤ 0 = sums_below xs [] (λ w. below (suc w)) in
    omega (arith, sum_by-cons peak_of x xs)
sums_below (x ∷ xs) (p ∷ ps) below =
    let here : peak_of x ≤ unwrap_or p 0 = below 0 in
    let rest : sum_by peak_of xs ≤ pages_out ps = sums_below xs ps (λ w. below (suc w)) in
    omega (arith, sum_by-cons peak_of x xs, sum_by-cons (λ (q : Option ℕ). unwrap_or q 0) p ps)

-- A chair that is sent out adds its peak.
pub sent_out : (peaks : List (Option ℕ)) (w peak : ℕ) → slice_get peaks w ≡ Some None
    → pages_out (slice_set peaks w (Some peak)) ≡ pages_out peaks + peak
sent_out peaks w peak home =
    omega (arith, sum_by-slice_set (λ (q : Option ℕ). unwrap_or q 0) peaks w None (Some peak) home)

-- One that comes home takes it away.
pub taken_in : (peaks : List (Option ℕ)) (w peak : ℕ) → slice_get peaks w ≡ Some (Some peak)
    → pages_out (slice_set peaks w None) + peak ≡ pages_out peaks
taken_in peaks w peak out =
    omega (arith, sum_by-slice_set (λ (q : Option ℕ). unwrap_or q 0) peaks w (Some peak) None out)

-- Where nothing is left from a place on, nothing stands there.
pub none_at : {A : Type 0} (xs : List A) (n : ℕ) → drop n xs ≡ [] → slice_get xs n ≡ None
none_at [] n e = refl
none_at (x ∷ xs) zero e = cc
none_at (x ∷ xs) (suc n) e = none_at xs n e

-- What a place has that isn't the default, it has.
pub placed_get : {A : Type 0} (xs : List (Option A)) (w : ℕ) (a : A) → slice_index_or xs w None ≡ Some a
    → slice_get xs w ≡ Some (Some a)
placed_get [] w a e = cc
placed_get (x ∷ xs) zero a e = ap Some e
placed_get (x ∷ xs) (suc w) a e = placed_get xs w a e

pub get_placed : {A : Type 0} (xs : List (Option A)) (w : ℕ) (a : Option A) → slice_get xs w ≡ Some a
    → slice_index_or xs w None ≡ a
get_placed [] w a e = cc
get_placed (x ∷ xs) zero a e = cc
get_placed (x ∷ xs) (suc w) a e = get_placed xs w a e
