-- Lemmas on the names of the four lists, and on the lists of those names after a step.
use Rattle.std.proofs.Common.{◌≡◌, ◌≢◌, ◌⊎◌, ℕ, ◌<◌, zero, suc, ◌∷◌, refl, arith, ap, sym, ◌∙◌, inl, inr}
use Rattle.std.proofs.lemmas.Bool.Decides.{eqb_tells}
use Rattle.pp_arc.specs.declared.list.List.{List as ListName}
use Rattle.pp_arc.specs.declared.list.List.TheVariants.{T1, T2, B1, B2}
use Rattle.pp_arc.specs.Pages.{without}
use Rattle.pp_arc.specs.FourLists.{FourLists, list_of}
use Rattle.pp_arc.specs.Figure.{forget}
use Rattle.pp_arc.specs.Links.{code, with_front}

-- a list is known by its number
abbrev list_with : ℕ → ListName
list_with zero = T1
list_with (suc zero) = T2
list_with (suc (suc zero)) = B1
list_with _ = B2

list_with-code : (l : ListName) → list_with (code l) ≡ l
list_with-code T1 = refl
list_with-code T2 = refl
list_with-code B1 = refl
list_with-code B2 = refl

pub code_apart : (k l : ListName) → k ≢ l → code k ≢ code l
code_apart k l ne = λ e. ne (sym (list_with-code k) ∙ ap list_with e ∙ list_with-code l)

pub code_below : (l : ListName) → code l < 4
code_below T1 = omega arith
code_below T2 = omega arith
code_below B1 = omega arith
code_below B2 = omega arith

-- two names are the same or not
pub lists_tell : (k l : ListName) → (k ≡ l) ⊎ (k ≢ l)
lists_tell k l = elim (eqb_tells (code k) (code l)) [
  | inl t ↦ inl (sym (list_with-code k) ∙ ap list_with t.1 ∙ list_with-code l)
  | inr t ↦ inr (λ e. t.1 (ap code e))
]

-- the lists after a step
pub list_of-forget : (s : FourLists) (k : ListName) (x : ℕ) → list_of (forget s x) k ≡ without (list_of s k) x
list_of-forget s T1 x = refl
list_of-forget s T2 x = refl
list_of-forget s B1 x = refl
list_of-forget s B2 x = refl

pub list_of-with_front : (s : FourLists) (l : ListName) (x : ℕ) → list_of (with_front s l x) l ≡ x ∷ list_of s l
list_of-with_front s T1 x = refl
list_of-with_front s T2 x = refl
list_of-with_front s B1 x = refl
list_of-with_front s B2 x = refl

pub list_of-with_front_other : (s : FourLists) (k l : ListName) (x : ℕ) → k ≢ l
    → list_of (with_front s l x) k ≡ list_of s k
list_of-with_front_other s T1 T1 x ne = absurd (ne refl)
list_of-with_front_other s T2 T2 x ne = absurd (ne refl)
list_of-with_front_other s B1 B1 x ne = absurd (ne refl)
list_of-with_front_other s B2 B2 x ne = absurd (ne refl)
list_of-with_front_other s k l x ne = refl

-- the sizes stay
pub sizes-with_front : (s : FourLists) (pages : ℕ) (l : ListName) (x : ℕ)
    → s ≡ record s { c = pages; pages = pages; target = 0 }
    → with_front s l x ≡ record (with_front s l x) { c = pages; pages = pages; target = 0 }
sizes-with_front s pages T1 x e = ap (λ (w : FourLists). record w { t1 = x ∷ w.t1 }) e
sizes-with_front s pages T2 x e = ap (λ (w : FourLists). record w { t2 = x ∷ w.t2 }) e
sizes-with_front s pages B1 x e = ap (λ (w : FourLists). record w { b1 = x ∷ w.b1 }) e
sizes-with_front s pages B2 x e = ap (λ (w : FourLists). record w { b2 = x ∷ w.b2 }) e
