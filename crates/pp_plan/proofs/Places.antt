-- Names in a list: which stand in it, and at which places.
use Rattle.std.proofs.Common.{◌≡◌, ◌⊎◌, inl, inr, ℕ, zero, suc, ◌<◌, ◌≤◌, Bool, true, false, List, [], ◌∷◌, ◌++◌}
use Rattle.std.proofs.Common.{length, get_or, Some, None, refl, ap, ◌∙◌, arith}
use Rattle.std.specs.List.{position, position_or_len, slice_get}
use Rattle.std.specs.Str.{bytes_eq}
use Rattle.std.proofs.lemmas.Bool.Decides.{nat_tests}
use Rattle.std.proofs.lemmas.Bool.{false_from_ne_true}
use Rattle.std.proofs.lemmas.List.Quantifiers.{position-Some}
use Rattle.std.proofs.lemmas.List.Sums.{position_or_len_is}
use Rattle.std.proofs.lemmas.Option.{slice_get-get_or, slice_get_within, get_or_from_slice_get}
use Rattle.std.proofs.lemmas.Slice.Eq.{bytes_eq-Decides}
use Rattle.pp_plan.specs.Numbering.{position_of}

-- the name is one of these
abbrev pub Has : List (List ℕ) → List ℕ → Type 0
Has [] n = ⊥
Has (x ∷ xs) n = (x ≡ n) ⊎ Has xs n

pub has_at : (xs : List (List ℕ)) (n : List ℕ) → Has xs n → (k : ℕ) × (slice_get xs k ≡ Some n)
has_at [] n h = absurd h
has_at (x ∷ xs) n (inl e) = (0, ap (λ (y : List ℕ). Some y) e)
has_at (x ∷ xs) n (inr h) = let (k, is) = has_at xs n h in (suc k, is)

pub at_has : (xs : List (List ℕ)) (k : ℕ) (n : List ℕ) → slice_get xs k ≡ Some n → Has xs n
at_has [] k n e = absurd cc
at_has (x ∷ xs) zero n e = inl cc
at_has (x ∷ xs) (suc k) n e = inr (at_has xs k n e)

pub has_push : (xs : List (List ℕ)) (y n : List ℕ) → Has (xs ++ y ∷ []) n → Has xs n ⊎ (y ≡ n)
has_push [] y n (inl e) = inr e
has_push [] y n (inr h) = absurd h
has_push (x ∷ xs) y n (inl e) = inl (inl e)
has_push (x ∷ xs) y n (inr h) = elim (has_push xs y n h) [ inl old ↦ inl (inr old) | inr e ↦ inr e ]

-- ---- a list that grows keeps the places

-- what stands at a place of the first stands there in the second
abbrev pub Extends : List (List ℕ) → List (List ℕ) → Type 0
Extends xs ys = (k : ℕ) (n : List ℕ) → slice_get xs k ≡ Some n → slice_get ys k ≡ Some n

pub extends_push : (xs : List (List ℕ)) (y : List ℕ) → Extends xs (xs ++ y ∷ [])
extends_push [] y k n e = absurd cc
extends_push (x ∷ xs) y zero n e = e
extends_push (x ∷ xs) y (suc k) n e = extends_push xs y k n e

pub push_at : (xs : List (List ℕ)) (y : List ℕ) → slice_get (xs ++ y ∷ []) (length xs) ≡ Some y
push_at [] y = refl
push_at (x ∷ xs) y = push_at xs y

pub push_cases : (xs : List (List ℕ)) (y : List ℕ) (k : ℕ) (n : List ℕ) → slice_get (xs ++ y ∷ []) k ≡ Some n
    → (slice_get xs k ≡ Some n) ⊎ ((k ≡ length xs) × (y ≡ n))
push_cases [] y zero n e = inr (refl, cc)
push_cases [] y (suc k) n e = absurd cc
push_cases (x ∷ xs) y zero n e = inl e
push_cases (x ∷ xs) y (suc k) n e =
    elim (push_cases xs y k n e) [ inl old ↦ inl old | inr new ↦ inr (ap suc new.0, new.1) ]

pub filled : (xs : List (List ℕ)) (k : ℕ) → k < length xs → (n : List ℕ) × (slice_get xs k ≡ Some n)
filled [] k h = absurd (omega (arith, h))
filled (x ∷ xs) zero h = (x, refl)
filled (x ∷ xs) (suc k) h = filled xs k (omega (arith, h))

not_longer : (xs ys : List (List ℕ)) (m : ℕ) → length xs ≡ m → Extends xs ys → m ≤ length ys
not_longer xs ys zero long e = omega arith
not_longer xs ys (suc m) long e =
    let (n, is) = filled xs m (omega (arith, long)) in
    let within : m < length ys = slice_get_within ys m n (e m n is) in
    omega (arith, within)

pub extends_length : (xs ys : List (List ℕ)) → Extends xs ys → length xs ≤ length ys
extends_length xs ys e = not_longer xs ys (length xs) refl e

-- ---- the place of a name

abbrev pub AreApart : List (List ℕ) → Type 0
AreApart xs = (i j : ℕ) (n : List ℕ) → slice_get xs i ≡ Some n → slice_get xs j ≡ Some n → i ≡ j

pub place_some : (xs : List (List ℕ)) (n : List ℕ) (k : ℕ) → position_of xs n ≡ Some k → slice_get xs k ≡ Some n
place_some xs n k e =
    let (within, passes, _) = position-Some (λ (x : List ℕ). bytes_eq x n) xs k [] e in
    slice_get-get_or xs k [] within ∙ ap (λ (y : List ℕ). Some y) ((bytes_eq-Decides (get_or xs k []) n).0 passes)

position_at : (p : List ℕ → Bool) (xs : List (List ℕ)) (i : ℕ) → position_or_len p xs ≡ i → i < length xs
    → position p xs ≡ Some i
position_at p xs i first within = rw first (grind (arith, nat_tests))

pub place_only : (xs : List (List ℕ)) (n : List ℕ) (k : ℕ) → AreApart xs → slice_get xs k ≡ Some n
    → position_of xs n ≡ Some k
place_only xs n k apart is =
    let within : k < length xs = slice_get_within xs k n is in
    let test = λ (x : List ℕ). bytes_eq x n in
    let here : get_or xs k [] ≡ n = get_or_from_slice_get xs k n [] is in
    let others : (j : ℕ) → j < k → test (get_or xs j []) ≡ false =
    λ j below. false_from_ne_true (test (get_or xs j [])) (λ e.
    let there : slice_get xs j ≡ Some n = slice_get-get_or xs j [] (omega (arith, below, within))
    ∙ ap (λ (y : List ℕ). Some y) ((bytes_eq-Decides (get_or xs j []) n).0 e) in
    let same : j ≡ k = apart j k n there is in
    absurd (omega (arith, below, same))) in
    position_at test xs k (position_or_len_is test xs k [] (omega (arith, within)) others
    (λ w. (bytes_eq-Decides (get_or xs k []) n).1 here)) within

first_fails : (p : List ℕ → Bool) (xs : List (List ℕ)) (k : ℕ) (n : List ℕ) → slice_get xs k ≡ Some n → p n ≡ true
    → position_or_len p xs < length xs
first_fails p [] k n is passes = absurd cc
first_fails p (x ∷ xs) zero n is passes = let same : x ≡ n = cc in let here : p x ≡ true = ap p same ∙ passes in
    rw here (omega arith)
first_fails p (x ∷ xs) (suc k) n is passes =
    let more = first_fails p xs k n is passes in grind (arith, more)

pub place_none : (xs : List (List ℕ)) (n : List ℕ) → position_of xs n ≡ None → (k : ℕ) → slice_get xs k ≡ Some n → ⊥
place_none xs n e k is =
    let below = first_fails (λ (x : List ℕ). bytes_eq x n) xs k n is ((bytes_eq-Decides n n).1 refl) in
    let found : position_of xs n ≡ Some (position_or_len (λ (x : List ℕ). bytes_eq x n) xs) =
    position_at (λ (x : List ℕ). bytes_eq x n) xs _ refl below in
    absurd cc
