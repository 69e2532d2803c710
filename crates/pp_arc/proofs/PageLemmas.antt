-- Lemmas on one list of pages: what stands in it after a page left it.
use Rattle.std.proofs.Common.{◌≡◌, ◌≢◌, ℕ, ◌+◌, ◌-◌, ◌<◌, ◌≤◌, zero, suc, true, false, cond, not, eqb, List, [], ◌∷◌}
use Rattle.std.proofs.Common.{length, take, refl, arith, ap, inl, inr}
use Rattle.std.proofs.lemmas.Grind.{common_steps}
use Rattle.std.proofs.lemmas.Bool.{cases_Bool}
use Rattle.std.proofs.lemmas.Bool.Decides.{eqb_tells}
use Rattle.pp_arc.specs.Pages.{contains, times_in, without, without_last}

-- two pages that differ
pub eqb_not : (x q : ℕ) → x ≢ q → eqb x q ≡ false
eqb_not x q ne = elim (eqb_tells x q) [ inl t ↦ absurd (ne t.1) | inr t ↦ t.0 ]

-- a page that stood nowhere is put in front
pub once_with_front : (x q n : ℕ) → (x ≡ q → n ≡ 0) → n ≤ 1 → cond (eqb x q) 1 0 + n ≤ 1
once_with_front x q n absent once =
    elim (eqb_tells x q) [
      | inl t ↦ let z : n ≡ 0 = absent t.1 in rw t.0 (omega arith)
      | inr t ↦ rw t.0 (omega arith)
    ]

pub below_with_front : (x q n bound : ℕ) → x < bound → (0 < n → q < bound) → 0 < cond (eqb x q) 1 0 + n → q < bound
below_with_front x q n bound low below stands =
    elim (eqb_tells x q) [
      | inl t ↦ omega arith
      | inr t ↦ let stands' : 0 < 0 + n = rw t.0 at stands in below (omega arith)
    ]

-- a page that leaves a list makes it shorter by as often as it stood there
pub length-without : (xs : List ℕ) (x : ℕ) → length (without xs x) + times_in xs x ≡ length xs
length-without [] x = refl
length-without (y ∷ ys) x =
    elim (eqb y x) as (λ b. length (cond (not b) (y ∷ without ys x) (without ys x)) + (cond b 1 0 + times_in ys x)
    ≡ length (y ∷ ys)) [
      | true ↦ omega (arith, length-without ys x)
      | false ↦ omega (arith, length-without ys x)
    ]

-- it doesn't stand there any more
pub times_in-without_same : (xs : List ℕ) (x : ℕ) → times_in (without xs x) x ≡ 0
times_in-without_same [] x = refl
times_in-without_same (y ∷ ys) x =
    elim (eqb_tells y x) [
      | inl t ↦ rw t.0 (times_in-without_same ys x)
      | inr t ↦ rw (t.0, t.0) (omega (arith, times_in-without_same ys x))
    ]

-- no page stands there more often
pub times_in-without : (xs : List ℕ) (x q : ℕ) → times_in (without xs x) q ≤ times_in xs q
times_in-without [] x q = omega arith
times_in-without (y ∷ ys) x q =
    elim (eqb y x) as (λ b. times_in (cond (not b) (y ∷ without ys x) (without ys x)) q ≤ cond (eqb y q) 1 0 + times_in
    ys q) [
      | true ↦ omega (arith, times_in-without ys x q)
      | false ↦ omega (arith, times_in-without ys x q)
    ]

-- another page stands there as often as before
pub times_in-without_other : (xs : List ℕ) (x q : ℕ) → x ≢ q → times_in (without xs x) q ≡ times_in xs q
times_in-without_other [] x q ne = refl
times_in-without_other (y ∷ ys) x q ne =
    elim (eqb_tells y x) [
      | inl t ↦ let e : eqb y q ≡ false = rw t.1 (eqb_not x q ne) in rw (t.0, e)
          (omega (arith, times_in-without_other ys x q ne))
      | inr t ↦ rw t.0 (ap (λ n. cond (eqb y q) 1 0 + n) (times_in-without_other ys x q ne))
    ]

-- a part of a list from its front has no page more often
pub times_in-take : (xs : List ℕ) (n q : ℕ) → times_in (take n xs) q ≤ times_in xs q
times_in-take xs zero q = omega arith
times_in-take [] (suc n) q = omega arith
times_in-take (y ∷ ys) (suc n) q = omega (arith, times_in-take ys n q)

pub length-without_last : (xs : List ℕ) → length (without_last xs) ≡ length xs - 1
length-without_last xs = grind (arith, common_steps)

-- a page that stands in a list stands there at least once
pub times_in-contains : (xs : List ℕ) (x : ℕ) → contains xs x ≡ true → 1 ≤ times_in xs x
times_in-contains [] x h = cc
times_in-contains (y ∷ ys) x h =
    elim (eqb_tells y x) [
      | inl t ↦ rw t.0 (omega arith)
      | inr t ↦ let h' : contains ys x ≡ true = rw t.0 at h in omega (arith, times_in-contains ys x h')
    ]

pub times_in-contains_not : (xs : List ℕ) (x : ℕ) → contains xs x ≡ false → times_in xs x ≡ 0
times_in-contains_not [] x h = refl
times_in-contains_not (y ∷ ys) x h =
    elim (eqb_tells y x) [
      | inl t ↦ let h' : true ≡ false = rw t.0 at h in cc
      | inr t ↦ let h' : contains ys x ≡ false = rw t.0 at h in rw t.0 (omega (arith, times_in-contains_not ys x h'))
    ]

-- a page that stands once in a list, and moves elsewhere
pub times_in-moved : (xs : List ℕ) (x q : ℕ) → times_in xs x ≡ 1
    → cond (eqb x q) 1 0 + times_in (without xs x) q ≡ times_in xs q
times_in-moved xs x q one =
    elim (eqb_tells x q) [
      | inl t ↦ let e : times_in xs q ≡ 1 = rw (← t.1) one in
          let z : times_in (without xs x) q ≡ 0 = rw (← t.1) (times_in-without_same xs x) in
          rw t.0 (omega arith)
      | inr t ↦ rw t.0 (omega (arith, times_in-without_other xs x q t.1))
    ]

-- a page that stands nowhere in a list isn't contained
pub contains-times_in : (xs : List ℕ) (x : ℕ) → times_in xs x ≡ 0 → contains xs x ≡ false
contains-times_in xs x none =
    elim (cases_Bool (contains xs x)) [ inl e ↦ absurd (omega (arith, times_in-contains xs x e)) | inr e ↦ e ]
