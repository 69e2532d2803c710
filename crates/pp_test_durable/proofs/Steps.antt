-- One step of a loop over bytes or pages.
use Rattle.std.proofs.Common.{◌≡◌, ℕ, zero, suc, ◌+◌, ◌<◌, ◌≤◌, List, [], ◌∷◌, ◌++◌, length, map, take, drop, slice_index_or, slice_set, All, refl, sym, ◌∙◌, ap, subst, zero-add, arith, inl, inr, get_or-set_same, get_or-set_other, add-one}
use Rattle.std.specs.Prelude.{Some, slice_get}
use Rattle.std.specs.List.{range_with_len}
use Rattle.std.proofs.lemmas.Bool.{cases_eq}
use Rattle.std.proofs.lemmas.List.Elements.{All-append, All-cons, All-nil}
use Rattle.std.proofs.lemmas.List.FromFn.{map-range_with_len_more}
use Rattle.std.proofs.Math.ListN.{length-set}
use Rattle.pp_durable.specs.Crash.{IsTorn}
use Rattle.pp_test_durable.specs.Leaves.{Image, settled, IsCrashed}
use Rattle.pp_test_durable.specs.Power.{no_leaf}

-- ---- bytes

-- Nothing was laid over the old image.
pub torn-none : (old new : List ℕ) → IsTorn old new old
torn-none old new = record { each = λ k. inl refl }

get-set_same : (xs : List ℕ) (i x : ℕ) → i < length xs → slice_get (slice_set xs i x) i ≡ Some x
get-set_same [] i x below = absurd (omega arith)
get-set_same (y ∷ ys) zero x below = refl
get-set_same (y ∷ ys) (suc i) x below = get-set_same ys i x (omega arith)

get-set_other : (xs : List ℕ) (i k x : ℕ) → (k ≡ i → ⊥) → slice_get (slice_set xs i x) k ≡ slice_get xs k
get-set_other [] i k x ne = refl
get-set_other (y ∷ ys) zero zero x ne = absurd (ne refl)
get-set_other (y ∷ ys) zero (suc k) x ne = refl
get-set_other (y ∷ ys) (suc i) zero x ne = refl
get-set_other (y ∷ ys) (suc i) (suc k) x ne = get-set_other ys i k x (λ same. ne (ap suc same))

-- One byte more of the new image was laid over it.
pub torn-more : (old new image : List ℕ) (i x : ℕ) → IsTorn old new image → i < length image → slice_get new i ≡ Some x
    → IsTorn old new (slice_set image i x)
torn-more old new image i x torn below is =
    record {
      each = λ k.
          elim (cases_eq k i) [
            | inl same ↦
                inr
                (ap (slice_get (slice_set image i x)) same ∙ get-set_same image i x below ∙ sym is ∙ ap (slice_get new) (sym same))
            | inr ne ↦
                elim (torn.each k) [
                  | inl was ↦ inl (get-set_other image i k x ne ∙ was)
                  | inr was ↦ inr (get-set_other image i k x ne ∙ was)
                ]
          ];
    }

-- ---- pages

pub map-more : {X : Type 0} (f : ℕ → X) (xs : List X) (x : X) (n : ℕ) → xs ≡ map f (range_with_len 0 n) → x ≡ f n
    → xs ++ x ∷ [] ≡ map f (range_with_len 0 (n + 1))
map-more f xs x n were is =
    ap (λ ys. ys ++ x ∷ []) were ∙ ap (λ y. map f (range_with_len 0 n) ++ y ∷ []) is
    ∙ sym (map-range_with_len_more f 0 n n (zero-add n))

pub All-more : {X : Type 0} (P : X → Type 0) (xs : List X) (x : X) → All P xs → P x → All P (xs ++ x ∷ [])
All-more P xs x each one = All-append P xs (x ∷ []) each (All-cons P x [] one (All-nil P))

-- The next element of a list whose front was changed is what it was.
pub next-is : {X : Type 0} (f : X → X) (xs : List X) (i : ℕ) (d : X) → i < length xs
    → slice_index_or (map f (take i xs) ++ drop i xs) i d ≡ slice_index_or xs i d
next-is f [] i d below = absurd (omega arith)
next-is f (x ∷ xs) zero d below = refl
next-is f (x ∷ xs) (suc i) d below = next-is f xs i d (omega arith)

-- One element more was changed.
pub front-more : {X : Type 0} (f : X → X) (xs : List X) (i : ℕ) (d : X) → i < length xs
    → slice_set (map f (take i xs) ++ drop i xs) i (f (slice_index_or xs i d))
    ≡ map f (take (suc i) xs) ++ drop (suc i) xs
front-more f [] i d below = absurd (omega arith)
front-more f (x ∷ xs) zero d below = refl
front-more f (x ∷ xs) (suc i) d below = ap (λ ys. f x ∷ ys) (front-more f xs i d (omega arith))

-- So many pages crashed, and the others are as they were.
pub record CrashedTo (n : ℕ) (before after : List Image) : Type 0 where
  pub length_is : length after ≡ length before
  pub each : (page : ℕ) → page < n → IsCrashed (slice_index_or before page no_leaf) (slice_index_or after page no_leaf)
  pub others : (page : ℕ) → n ≤ page → slice_index_or after page no_leaf ≡ slice_index_or before page no_leaf

-- Within a list the element doesn't depend on what is told past its end.
pub within : {X : Type 0} (xs : List X) (i : ℕ) (d e : X) → i < length xs → slice_index_or xs i d ≡ slice_index_or xs i e
within [] i d e below = absurd (omega arith)
within (x ∷ xs) zero d e below = refl
within (x ∷ xs) (suc i) d e below = within xs i d e (omega arith)

pub crashed-more : (n : ℕ) (before after : List Image) (leaf : Image) → CrashedTo n before after → n < length before
    → IsCrashed (slice_index_or before n no_leaf) leaf → CrashedTo (n + 1) before (slice_set after n leaf)
crashed-more n before after leaf so below crashed =
    let inside : n < length after = omega (arith, so.length_is) in
    record {
      length_is = length-set after n leaf ∙ so.length_is;
      each = λ page less.
          elim (cases_eq page n) [
            | inl same ↦
                subst (λ p. IsCrashed (slice_index_or before p no_leaf) (slice_index_or (slice_set after n leaf) p no_leaf))
                (sym same)
                (subst (λ l. IsCrashed (slice_index_or before n no_leaf) l) (sym (get_or-set_same after n leaf no_leaf inside))
                crashed)
            | inr ne ↦
                subst (λ l. IsCrashed (slice_index_or before page no_leaf) l)
                (sym (get_or-set_other after n page leaf no_leaf ne))
                (so.each page (omega arith))
          ];
      others = λ page past.
          let ne : page ≡ n → ⊥ = λ same. omega (arith, same) in
          get_or-set_other after n page leaf no_leaf ne ∙ so.others page (omega arith);
    }

pub settled-more : (xs now : List Image) (i : ℕ) (d new : Image) → now ≡ map settled (take i xs) ++ drop i xs → i < length xs
    → new ≡ settled (slice_index_or now i d) → slice_set now i new ≡ map settled (take (i + 1) xs) ++ drop (i + 1) xs
settled-more xs now i d new are below is =
    ap (λ l. slice_set l i new) are
    ∙ ap (slice_set (map settled (take i xs) ++ drop i xs) i)
    (is ∙ ap settled (ap (λ l. slice_index_or l i d) are ∙ next-is settled xs i d below))
    ∙ front-more settled xs i d below ∙ ap (λ k. map settled (take k xs) ++ drop k xs) (sym (add-one i))

-- Settled pages are as long.
pub settled-lengths : (xs : List Image) (len : ℕ) → All (λ image. length image.shown ≡ len) xs
    → All (λ image. length image.shown ≡ len) (map settled xs)
settled-lengths [] len each = λ k d below. absurd (omega (arith, below))
settled-lengths (x ∷ xs) len each =
    All-cons (λ image. length image.shown ≡ len) (settled x) (map settled xs) (each 0 x (omega arith))
    (settled-lengths xs len (λ k d below. each (suc k) d (omega (arith, below))))

-- All were settled.
pub settled-all : (xs : List Image) (i : ℕ) → length xs ≤ i → map settled (take i xs) ++ drop i xs ≡ map settled xs
settled-all [] zero past = refl
settled-all [] (suc i) past = refl
settled-all (x ∷ xs) zero past = absurd (omega arith)
settled-all (x ∷ xs) (suc i) past = ap (λ ys. settled x ∷ ys) (settled-all xs i (omega arith))
