-- Lemmas on one chain of records, and on writing one record.
use Rattle.std.proofs.Common.{◌≡◌, ◌≢◌, ◌<◌, ◌≤◌, ℕ, zero, suc, List, [], ◌∷◌, length, set, get_or}
use Rattle.std.proofs.Common.{refl, sym, ap, subst, ◌∙◌, arith, inl, inr, get_or-set_other, length-set}
use Rattle.std.specs.Prelude.{◌⊎◌, ◌==◌, if◌then◌else◌}
use Rattle.std.proofs.lemmas.Bool.Decides.{eqb_tells}
use Rattle.pp_bundles.specs.declared.record.Record.{Record}
use Rattle.pp_bundles.specs.Chains.{record_at, walk, IsChain, blank}

-- one number at one place, and what it was elsewhere
abbrev pub but : (i v : ℕ) → (ℕ → ℕ) → ℕ → ℕ
but i v f x = if x == i then v else f x

pub but_here : (i v : ℕ) (f : ℕ → ℕ) → but i v f i ≡ v
but_here i v f = elim (eqb_tells i i) [
  | inl t ↦ ap (λ b. if b then v else f i) t.0
  | inr t ↦ absurd (t.1 refl)
]

pub but_other : (i v : ℕ) (f : ℕ → ℕ) (x : ℕ) → x ≢ i → but i v f x ≡ f x
but_other i v f x d = elim (eqb_tells x i) [
  | inl t ↦ absurd (d t.1)
  | inr t ↦ ap (λ b. if b then v else f x) t.0
]

-- what is read in range doesn't depend on the default
pub read : {X : Type 0} (xs : List X) (i : ℕ) (x d : X) → i < length xs → x ≡ get_or xs i x → x ≡ get_or xs i d
read [] i x d l e = absurd (omega (arith, l))
read (y ∷ ys) zero x d l e = e
read (y ∷ ys) (suc i) x d l e = read ys i x d (omega (arith, l)) e

-- a walk passes as many records as it is to
pub length-walk : (rs : List Record) (head n : ℕ) → length (walk rs head n) ≡ n
length-walk rs head zero = refl
length-walk rs head (suc n) = ap suc (length-walk rs (record_at rs head).next n)

-- a chain that doesn't go through a record stays as it is when that one is written: it is of another stack, or lower
pub IsChain-written : (rs : List Record) (stack below : ℕ → ℕ) (i : ℕ) (r : Record) (to m k head n : ℕ)
    → (k ≢ stack i) ⊎ (n ≤ below i) → IsChain rs stack below k head n
    → IsChain (set rs i r) (but i to stack) (but i m below) k head n × (walk (set rs i r) head n ≡ walk rs head n)
IsChain-written rs stack below i r to m k head zero away h = (tt, refl)
IsChain-written rs stack below i r to m k head (suc n) away h =
    let apart : head ≢ i = λ e. elim away [
      | inl d ↦ d (sym h.1 ∙ ap stack e)
      | inr l ↦ let x : below i ≡ n = sym (ap below e) ∙ h.2 in omega (arith, x, l)
    ] in
    let same : record_at (set rs i r) head ≡ record_at rs head = get_or-set_other rs i head r blank apart in
    let further : (k ≢ stack i) ⊎ (n ≤ below i) = elim away [ inl d ↦ inl d | inr l ↦ inr (omega (arith, l)) ] in
    let next = IsChain-written rs stack below i r to m k (record_at rs head).next n further h.3 in (
      (
        omega (arith, h.0, length-set rs i r),
        but_other i to stack head apart ∙ h.1,
        but_other i m below head apart ∙ h.2,
        subst (λ x. IsChain (set rs i r) (but i to stack) (but i m below) k x n) (ap (λ q. q.next) (sym same)) next.0,
      ),
      (λ j. (same j).page ∷ walk (set rs i r) (same j).next n) ∙ ap (λ l. (record_at rs head).page ∷ l) next.1,
    )
