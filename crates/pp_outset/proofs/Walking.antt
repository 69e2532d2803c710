-- Lemmas on a walk over one of ARC's lists.
use Rattle.std.proofs.Common.{◌≡◌, ℕ, zero, suc, ◌+◌, ◌≤◌, true, false, List, [], ◌∷◌, ◌++◌}
use Rattle.std.proofs.Common.{length, take, drop, refl, ap, ◌∙◌, arith, inl, inr, eq-eqb}
use Rattle.std.specs.Prelude.{None, Some, slice_get}
use Rattle.std.specs.Option.{option_and_then}
use Rattle.std.proofs.lemmas.Bool.Decides.{eqb_tells}
use Rattle.pp_arc.specs.declared.list.List.{List as ListName}
use Rattle.pp_arc.specs.declared.list.List.TheVariants.{T1, T2, B1, B2}
use Rattle.pp_arc.specs.Pages.{contains, times_in, next_after}
use Rattle.pp_arc.specs.FourLists.{FourLists, list_of, times_named, place, after}
use Rattle.pp_arc.specs.Bounds.{IsWithinBounds}
use Rattle.pp_arc.proofs.PageLemmas.{times_in-contains, contains-times_in}
use Rattle.pp_arc.proofs.SizeLemmas.{times_in-append}

-- ---- one list

contains-first : (k : ℕ) (ys : List ℕ) → contains (k ∷ ys) k ≡ true
contains-first k ys = rw (eq-eqb k k refl) refl

contains-behind : (xs ys : List ℕ) (k : ℕ) → contains (xs ++ k ∷ ys) k ≡ true
contains-behind [] ys k = contains-first k ys
contains-behind (x ∷ xs) ys k = elim (eqb_tells x k) [
  | inl t ↦ rw t.0 refl
  | inr t ↦ rw t.0 (contains-behind xs ys k)
]

shift : (y : ℕ) (ys : List ℕ) (k : ℕ) → slice_get (drop (1 + k + 1) (y ∷ ys)) 0 ≡ slice_get (drop (k + 1) ys) 0
shift y ys k = let e : 1 + k + 1 ≡ suc (k + 1) = omega arith in rw e refl

-- The page after one that stands there once.
next-passed : (xs ys : List ℕ) (k : ℕ) → contains xs k ≡ false → next_after (xs ++ k ∷ ys) k ≡ slice_get ys 0
next-passed [] ys k h = rw (eq-eqb k k refl) refl
next-passed (x ∷ xs) ys k h = elim (eqb_tells x k) [
  | inl t ↦ let n : true ≡ false = rw t.0 at h in absurd (cc)
  | inr t ↦ let h' : contains xs k ≡ false = rw t.0 at h in rw t.0 (shift x (xs ++ k ∷ ys) _ ∙ next-passed xs ys k h')
]

-- A list by its place: what was passed, the page here, and what is still to come.
split_at : (l : List ℕ) (i k : ℕ) → slice_get l i ≡ Some k → l ≡ take i l ++ k ∷ drop (i + 1) l
split_at [] i k e = absurd (cc)
split_at (x ∷ xs) zero k e = let same : x ≡ k = cc in ap (λ y. y ∷ xs) same
split_at (x ∷ xs) (suc i) k e =
    let on : suc i + 1 ≡ suc (i + 1) = omega arith in rw on (ap (λ l. x ∷ l) (split_at xs i k e))

get_next : (l : List ℕ) (i : ℕ) → slice_get (drop i l) 0 ≡ slice_get l i
get_next [] zero = refl
get_next [] (suc i) = refl
get_next (x ∷ xs) zero = refl
get_next (x ∷ xs) (suc i) = get_next xs i

pub take_next : (l : List ℕ) (i k : ℕ) → slice_get l i ≡ Some k → take (i + 1) l ≡ take i l ++ k ∷ []
take_next [] i k e = absurd (cc)
take_next (x ∷ xs) zero k e = let same : x ≡ k = cc in ap (λ y. y ∷ []) same
take_next (x ∷ xs) (suc i) k e =
    let on : suc i + 1 ≡ suc (i + 1) = omega arith in rw on (ap (λ l. x ∷ l) (take_next xs i k e))

pub none_past : (l : List ℕ) (i : ℕ) → slice_get l i ≡ None → length l ≤ i
none_past [] i e = omega arith
none_past (x ∷ xs) zero e = absurd (cc)
none_past (x ∷ xs) (suc i) e = omega (arith, none_past xs i e)

-- ---- one of the four lists

times_in-list : (s : FourLists) (list : ListName) (y : ℕ) → times_in (list_of s list) y ≤ times_named s y
times_in-list s T1 y = omega arith
times_in-list s T2 y = omega arith
times_in-list s B1 y = omega arith
times_in-list s B2 y = omega arith

-- A page stands in one list alone.
place-in : (s : FourLists) (list : ListName) (k : ℕ) → IsWithinBounds s → contains (list_of s list) k ≡ true
    → place s k ≡ Some list
place-in s T1 k h here = rw here refl
place-in s T2 k h here =
    let a : contains s.t1 k ≡ false = contains-times_in s.t1 k (omega (arith, h.once k, times_in-contains s.t2 k here)) in
    rw (a, here) refl
place-in s B1 k h here =
    let n : 1 ≤ times_in s.b1 k = times_in-contains s.b1 k here in
    let a : contains s.t1 k ≡ false = contains-times_in s.t1 k (omega (arith, h.once k, n)) in
    let b : contains s.t2 k ≡ false = contains-times_in s.t2 k (omega (arith, h.once k, n)) in
    rw (a, b, here) refl
place-in s B2 k h here =
    let n : 1 ≤ times_in s.b2 k = times_in-contains s.b2 k here in
    let a : contains s.t1 k ≡ false = contains-times_in s.t1 k (omega (arith, h.once k, n)) in
    let b : contains s.t2 k ≡ false = contains-times_in s.t2 k (omega (arith, h.once k, n)) in
    let d : contains s.b1 k ≡ false = contains-times_in s.b1 k (omega (arith, h.once k, n)) in
    rw (a, b, d, here) refl

not_passed : (xs ys : List ℕ) (k : ℕ) → times_in (xs ++ k ∷ ys) k ≤ 1 → contains xs k ≡ false
not_passed xs ys k once =
    contains-times_in xs k
    (omega (arith, once, times_in-append xs (k ∷ ys) k, times_in-contains (k ∷ ys) k (contains-first k ys)))

-- The page that stands after the one at a place is the one at the next place.
pub after-at : (s : FourLists) (list : ListName) (i k : ℕ) → IsWithinBounds s → slice_get (list_of s list) i ≡ Some k
    → after s k ≡ slice_get (list_of s list) (i + 1)
after-at s list i k h e =
    ap (λ p. option_and_then (λ name. next_after (list_of s name) k) p) (place-in s list k h there)
    ∙ ap (λ w. next_after w k) split ∙ next-passed (take i l) (drop (i + 1) l) k (not_passed (take i l) (drop (i + 1) l) k once)
    ∙ get_next l (i + 1)
  where
    l : List ℕ
    l = list_of s list

    split : l ≡ take i l ++ k ∷ drop (i + 1) l
    split = split_at l i k e

    there : contains l k ≡ true
    there = ap (λ w. contains w k) split ∙ contains-behind (take i l) (drop (i + 1) l) k

    once : times_in (take i l ++ k ∷ drop (i + 1) l) k ≤ 1
    once = let n : times_in l k ≤ 1 = omega (arith, times_in-list s list k, h.once k) in rw (← split) n
