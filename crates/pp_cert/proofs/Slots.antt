-- Lists by slot: what stands in one slot after a change of this slot, or of another.
use Rattle.std.proofs.Common.{◌≡◌, ℕ, true, false, Option, Some, None, List, [], ◌∷◌, ◌++◌, refl, sym, ap, ◌∙◌, arith}
use Rattle.std.specs.Prelude.{◌==◌, nat_le, if◌then◌else◌, find}
use Rattle.std.proofs.lemmas.Bool.{eqb-true}
use Rattle.std.proofs.lemmas.Bool.Decides.{nat_tests}
use Rattle.pp_cert.specs.Slots.{slot_get, slot_push, slot_remove, slot_clear, slot_update}

pub same_number : (n : ℕ) → (n == n) ≡ true
same_number n = grind (arith, nat_tests)

-- a number that is one of two different ones isn't the other
pub not_other : (m s t : ℕ) → (s == t) ≡ false → (m == s) ≡ true → (m == t) ≡ false
not_other m s t d h = ap (λ x. x == t) (eqb-true m s h) ∙ d

abbrev pub first_of : {A : Type 0} → List A → Option A
first_of [] = None
first_of (x ∷ xs) = Some x

abbrev pub without_first : {A : Type 0} → List A → List A
without_first [] = []
without_first (x ∷ xs) = xs

abbrev pub with_first : {A : Type 0} → (A → A) → List A → List A
with_first f [] = []
with_first f (x ∷ xs) = f x ∷ xs

-- All that stands in the slot, in order.
abbrev pub slot_all : {A : Type 0} → (A → ℕ) → ℕ → List A → List A
slot_all slot_of s [] = []
slot_all slot_of s (y ∷ ys) = if slot_of y == s then y ∷ slot_all slot_of s ys else slot_all slot_of s ys

module _ {A : Type 0} (slot_of : A → ℕ) where
  pub get_first : (s : ℕ) (xs : List A) → slot_get slot_of s xs ≡ first_of (slot_all slot_of s xs)
  get_first s [] = refl
  get_first s (y ∷ ys) =
      elim (slot_of y == s) as (λ b. (if b then Some y else find (λ x. slot_of x == s) ys)
      ≡ first_of (if b then y ∷ slot_all slot_of s ys else slot_all slot_of s ys)) [
        | true ↦ refl
        | false ↦ get_first s ys
      ]

  -- an element stands among those of its slot
  pub member_splits : (x : A) (us vs : List A) → (ys : List A) × (zs : List A)
      × (slot_all slot_of (slot_of x) (us ++ x ∷ vs) ≡ ys ++ x ∷ zs)
  member_splits x [] vs = (
    [],
    slot_all slot_of (slot_of x) vs,
    ap (λ b. if b then x ∷ slot_all slot_of (slot_of x) vs else slot_all slot_of (slot_of x) vs)
        (same_number (slot_of x)),
  )
  member_splits x (u ∷ us) vs =
      let p = member_splits x us vs in
      elim (slot_of u == slot_of x) as (λ b. (ys : List A) × (zs : List A)
      × ((if b then u ∷ slot_all slot_of (slot_of x) (us ++ x ∷ vs) else slot_all slot_of (slot_of x) (us ++ x ∷ vs))
      ≡ ys ++ x ∷ zs)) [
        | true ↦ (u ∷ p.0, p.1, ap (λ l. u ∷ l) p.2)
        | false ↦ p
      ]

  -- ---- a new element

  -- it stands before those of its slot
  pub push_here : (x : A) (xs : List A)
      → slot_all slot_of (slot_of x) (slot_push slot_of x xs) ≡ x ∷ slot_all slot_of (slot_of x) xs
  push_here x [] = ap (λ b. if b then x ∷ [] else []) (same_number (slot_of x))
  push_here x (y ∷ ys) =
      let s : ℕ = slot_of x in
      elim (nat_le s (slot_of y)) as (λ b. nat_le s (slot_of y) ≡ b
      → slot_all slot_of s (if b then x ∷ y ∷ ys else y ∷ slot_push slot_of x ys) ≡ x ∷ slot_all slot_of s (y ∷ ys)) [
        | true ↦ λ e.
            ap (λ b. if b then x ∷ slot_all slot_of s (y ∷ ys) else slot_all slot_of s (y ∷ ys)) (same_number s)
        | false ↦ λ e.
            let above : (slot_of y == s) ≡ false = grind (arith, nat_tests, e) in
            ap (λ b. if b then y ∷ slot_all slot_of s (slot_push slot_of x ys) else slot_all slot_of s
            (slot_push slot_of x ys)) above
            ∙ push_here x ys
            ∙ sym (ap (λ b. x ∷ (if b then y ∷ slot_all slot_of s ys else slot_all slot_of s ys)) above)
      ] refl

  pub push_other : (x : A) (s : ℕ) (xs : List A) → (slot_of x == s) ≡ false
      → slot_all slot_of s (slot_push slot_of x xs) ≡ slot_all slot_of s xs
  push_other x s [] d = ap (λ b. if b then x ∷ [] else []) d
  push_other x s (y ∷ ys) d =
      elim (nat_le (slot_of x) (slot_of y))
      as (λ b. slot_all slot_of s (if b then x ∷ y ∷ ys else y ∷ slot_push slot_of x ys)
      ≡ slot_all slot_of s (y ∷ ys)) [
        | true ↦ ap (λ b. if b then x ∷ slot_all slot_of s (y ∷ ys) else slot_all slot_of s (y ∷ ys)) d
        | false ↦ ap (λ l. if slot_of y == s then y ∷ l else l) (push_other x s ys d)
      ]

  -- ---- the first element of the slot goes

  pub remove_here : (s : ℕ) (xs : List A)
      → slot_all slot_of s (slot_remove slot_of s xs) ≡ without_first (slot_all slot_of s xs)
  remove_here s [] = refl
  remove_here s (y ∷ ys) =
      elim (slot_of y == s) as (λ b. (slot_of y == s) ≡ b
      → slot_all slot_of s (if b then ys else y ∷ slot_remove slot_of s ys)
      ≡ without_first (if b then y ∷ slot_all slot_of s ys else slot_all slot_of s ys)) [
        | true ↦ λ e. refl
        | false ↦ λ e.
            ap (λ b. if b then y ∷ slot_all slot_of s (slot_remove slot_of s ys) else slot_all slot_of s
            (slot_remove slot_of s ys)) e
            ∙ remove_here s ys
      ] refl

  pub remove_other : (s t : ℕ) (xs : List A) → (s == t) ≡ false
      → slot_all slot_of t (slot_remove slot_of s xs) ≡ slot_all slot_of t xs
  remove_other s t [] d = refl
  remove_other s t (y ∷ ys) d =
      elim (slot_of y == s) as (λ b. (slot_of y == s) ≡ b
      → slot_all slot_of t (if b then ys else y ∷ slot_remove slot_of s ys) ≡ slot_all slot_of t (y ∷ ys)) [
        | true ↦ λ e. sym (ap (λ b. if b then y ∷ slot_all slot_of t ys else slot_all slot_of t ys)
            (not_other (slot_of y) s t d e))
        | false ↦ λ e. ap (λ l. if slot_of y == t then y ∷ l else l) (remove_other s t ys d)
      ] refl

  -- ---- all elements of the slot go

  pub clear_here : (s : ℕ) (xs : List A) → slot_all slot_of s (slot_clear slot_of s xs) ≡ []
  clear_here s [] = refl
  clear_here s (y ∷ ys) =
      elim (slot_of y == s) as (λ b. (slot_of y == s) ≡ b
      → slot_all slot_of s (if b then slot_clear slot_of s ys else y ∷ slot_clear slot_of s ys) ≡ []) [
        | true ↦ λ e. clear_here s ys
        | false ↦ λ e.
            ap (λ b. if b then y ∷ slot_all slot_of s (slot_clear slot_of s ys) else slot_all slot_of s
            (slot_clear slot_of s ys)) e
            ∙ clear_here s ys
      ] refl

  pub clear_other : (s t : ℕ) (xs : List A) → (s == t) ≡ false
      → slot_all slot_of t (slot_clear slot_of s xs) ≡ slot_all slot_of t xs
  clear_other s t [] d = refl
  clear_other s t (y ∷ ys) d =
      elim (slot_of y == s) as (λ b. (slot_of y == s) ≡ b
      → slot_all slot_of t (if b then slot_clear slot_of s ys else y ∷ slot_clear slot_of s ys)
      ≡ slot_all slot_of t (y ∷ ys)) [
        | true ↦ λ e.
            clear_other s t ys d
            ∙ sym (ap (λ b. if b then y ∷ slot_all slot_of t ys else slot_all slot_of t ys)
            (not_other (slot_of y) s t d e))
        | false ↦ λ e. ap (λ l. if slot_of y == t then y ∷ l else l) (clear_other s t ys d)
      ] refl

  -- ---- the first element of the slot changes, and stays in it

  module _ (f : A → A) (stays : (x : A) → slot_of (f x) ≡ slot_of x) where
    pub update_here : (s : ℕ) (xs : List A)
        → slot_all slot_of s (slot_update slot_of f s xs) ≡ with_first f (slot_all slot_of s xs)
    update_here s [] = refl
    update_here s (y ∷ ys) =
        elim (slot_of y == s) as (λ b. (slot_of y == s) ≡ b
        → slot_all slot_of s (if b then f y ∷ ys else y ∷ slot_update slot_of f s ys)
        ≡ with_first f (if b then y ∷ slot_all slot_of s ys else slot_all slot_of s ys)) [
          | true ↦ λ e. ap (λ b. if b then f y ∷ slot_all slot_of s ys else slot_all slot_of s ys)
              (ap (λ n. n == s) (stays y) ∙ e)
          | false ↦ λ e.
              ap (λ b. if b then y ∷ slot_all slot_of s (slot_update slot_of f s ys) else slot_all slot_of s
              (slot_update slot_of f s ys)) e
              ∙ update_here s ys
        ] refl

    pub update_other : (s t : ℕ) (xs : List A) → (s == t) ≡ false
        → slot_all slot_of t (slot_update slot_of f s xs) ≡ slot_all slot_of t xs
    update_other s t [] d = refl
    update_other s t (y ∷ ys) d =
        elim (slot_of y == s) as (λ b. (slot_of y == s) ≡ b
        → slot_all slot_of t (if b then f y ∷ ys else y ∷ slot_update slot_of f s ys) ≡ slot_all slot_of t (y ∷ ys)) [
          | true ↦ λ e.
              let no = not_other (slot_of y) s t d e in
              ap (λ b. if b then f y ∷ slot_all slot_of t ys else slot_all slot_of t ys)
              (ap (λ n. n == t) (stays y) ∙ no)
              ∙ sym (ap (λ b. if b then y ∷ slot_all slot_of t ys else slot_all slot_of t ys) no)
          | false ↦ λ e. ap (λ l. if slot_of y == t then y ∷ l else l) (update_other s t ys d)
        ] refl
