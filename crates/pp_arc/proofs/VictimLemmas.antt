-- Lemmas on the page that may leave: it stands in the list, and it isn't busy.
use Rattle.std.proofs.Common.{◌≡◌, ◌⊎◌, ℕ, Bool, true, false, cond, not, eqb, List, [], ◌∷◌, reverse, refl, sym, ap}
use Rattle.std.proofs.Common.{◌∙◌, inl, inr, eq-eqb}
use Rattle.std.specs.Prelude.{Option, None, Some, find, ◌||◌}
use Rattle.std.specs.Option.{option_or}
use Rattle.std.proofs.lemmas.List.{reverse-append}
use Rattle.std.proofs.lemmas.List.Folds.{find-append}
use Rattle.std.proofs.lemmas.Bool.Decides.{eqb_tells}
use Rattle.pp_arc.specs.Pages.{contains, last_not_busy}
use Rattle.pp_arc.specs.FourLists.{FourLists, is_cached}
use Rattle.pp_arc.specs.Figure.{victim, chooses_t1}

-- one more page in front of the list comes last in the search
pub last_not_busy-cons : (x : ℕ) (xs : List ℕ) (busy : ℕ → Bool)
    → last_not_busy (x ∷ xs) busy ≡ option_or (last_not_busy xs busy) (cond (not (busy x)) (Some x) None)
last_not_busy-cons x xs busy =
    ap (find (λ y. not (busy y))) (reverse-append (x ∷ []) xs) ∙ find-append (λ y. not (busy y)) (reverse xs) (x ∷ [])

-- which of two options has the value
pub option_or-cases : (a b : Option ℕ) (v : ℕ) → option_or a b ≡ Some v → (a ≡ Some v) ⊎ (b ≡ Some v)
option_or-cases None b v e = inr e
option_or-cases (Some w) b v e = inl e

pub option_or-none : (a b : Option ℕ) → option_or a b ≡ None → (a ≡ None) × (b ≡ None)
option_or-none None b e = (refl, e)
option_or-none (Some w) b e = absurd (cc)

-- the page of one step of the search
pub page_of_step : (busy : ℕ → Bool) (x v : ℕ) → cond (not (busy x)) (Some x) None ≡ Some v → (x ≡ v) × (busy v ≡ false)
page_of_step busy x v e = go (busy x) refl e
  where
    go : (b : Bool) → busy x ≡ b → cond (not b) (Some x) None ≡ Some v → (x ≡ v) × (busy v ≡ false)
    go true t f = absurd (cc)
    go false t f = let same : x ≡ v = cc in (same, rw (← same) t)

-- a step that finds none
pub no_page_of_step : (busy : ℕ → Bool) (x : ℕ) → cond (not (busy x)) (Some x) None ≡ None → busy x ≡ true
no_page_of_step busy x e = go (busy x) refl e
  where
    go : (b : Bool) → busy x ≡ b → cond (not b) (Some x) None ≡ None → busy x ≡ true
    go true t f = t
    go false t f = absurd (cc)

-- a test that holds on the right
pub or_right : (a b : Bool) → b ≡ true → (a || b) ≡ true
or_right true b h = refl
or_right false b h = h

-- the victim stands in the list
pub contains-last_not_busy : (xs : List ℕ) (busy : ℕ → Bool) (v : ℕ) → last_not_busy xs busy ≡ Some v
    → contains xs v ≡ true
contains-last_not_busy [] busy v e = absurd (cc)
contains-last_not_busy (x ∷ xs) busy v e =
    elim (option_or-cases (last_not_busy xs busy) (cond (not (busy x)) (Some x) None) v
    (sym (last_not_busy-cons x xs busy) ∙ e)) [
      | inl h ↦ or_right (eqb x v) (contains xs v) (contains-last_not_busy xs busy v h)
      | inr h ↦ rw (eq-eqb x v (page_of_step busy x v h).0) refl
    ]

-- the victim isn't busy
pub busy-last_not_busy : (xs : List ℕ) (busy : ℕ → Bool) (v : ℕ) → last_not_busy xs busy ≡ Some v → busy v ≡ false
busy-last_not_busy [] busy v e = absurd (cc)
busy-last_not_busy (x ∷ xs) busy v e =
    elim (option_or-cases (last_not_busy xs busy) (cond (not (busy x)) (Some x) None) v
    (sym (last_not_busy-cons x xs busy) ∙ e)) [
      | inl h ↦ busy-last_not_busy xs busy v h
      | inr h ↦ (page_of_step busy x v h).1
    ]

-- without a victim each page of the list is busy
pub all_busy-last_not_busy : (xs : List ℕ) (busy : ℕ → Bool) (q : ℕ) → last_not_busy xs busy ≡ None
    → contains xs q ≡ true → busy q ≡ true
all_busy-last_not_busy [] busy q e here = absurd (cc)
all_busy-last_not_busy (x ∷ xs) busy q e here =
    let both : (last_not_busy xs busy ≡ None) × (cond (not (busy x)) (Some x) None ≡ None) =
    option_or-none (last_not_busy xs busy) (cond (not (busy x)) (Some x) None)
    (sym (last_not_busy-cons x xs busy) ∙ e) in
    elim (eqb_tells x q) [
      | inl t ↦ rw t.1 at (no_page_of_step busy x both.1)
      | inr t ↦ let there : contains xs q ≡ true = rw t.0 at here in all_busy-last_not_busy xs busy q both.0 there
    ]

-- REPLACE's victim is cached
pub is_cached-t1 : (s : FourLists) (v : ℕ) → contains s.t1 v ≡ true → is_cached s v ≡ true
is_cached-t1 s v h = rw h refl

pub is_cached-t2 : (s : FourLists) (v : ℕ) → contains s.t2 v ≡ true → is_cached s v ≡ true
is_cached-t2 s v h = or_right (contains s.t1 v) (contains s.t2 v) h

pub is_cached-either : (s : FourLists) (busy : ℕ → Bool) (v : ℕ)
    → (last_not_busy s.t1 busy ≡ Some v) ⊎ (last_not_busy s.t2 busy ≡ Some v) → is_cached s v ≡ true
is_cached-either s busy v (inl h) = is_cached-t1 s v (contains-last_not_busy s.t1 busy v h)
is_cached-either s busy v (inr h) = is_cached-t2 s v (contains-last_not_busy s.t2 busy v h)

pub victim-either : (s : FourLists) (in_b2 : Bool) (busy : ℕ → Bool) (v : ℕ) → victim s in_b2 busy ≡ Some v
    → (last_not_busy s.t1 busy ≡ Some v) ⊎ (last_not_busy s.t2 busy ≡ Some v)
victim-either s in_b2 busy v e = go (chooses_t1 s in_b2) e
  where
    go : (b : Bool) → cond b (option_or (last_not_busy s.t1 busy) (last_not_busy s.t2 busy))
        (option_or (last_not_busy s.t2 busy) (last_not_busy s.t1 busy)) ≡ Some v → (last_not_busy s.t1 busy ≡ Some v) ⊎
        (last_not_busy s.t2 busy ≡ Some v)
    go true f = option_or-cases (last_not_busy s.t1 busy) (last_not_busy s.t2 busy) v f
    go false f = elim (option_or-cases (last_not_busy s.t2 busy) (last_not_busy s.t1 busy) v f) [
      | inl h ↦ inr h
      | inr h
          ↦ inl h
    ]

pub victim-none : (s : FourLists) (in_b2 : Bool) (busy : ℕ → Bool) → victim s in_b2 busy ≡ None
    → (last_not_busy s.t1 busy ≡ None) × (last_not_busy s.t2 busy ≡ None)
victim-none s in_b2 busy e = go (chooses_t1 s in_b2) e
  where
    go : (b : Bool) → cond b (option_or (last_not_busy s.t1 busy) (last_not_busy s.t2 busy))
        (option_or (last_not_busy s.t2 busy) (last_not_busy s.t1 busy)) ≡ None → (last_not_busy s.t1 busy ≡ None) ×
        (last_not_busy s.t2 busy ≡ None)
    go true f = option_or-none (last_not_busy s.t1 busy) (last_not_busy s.t2 busy) f
    go false f = let both : (last_not_busy s.t2 busy ≡ None) × (last_not_busy s.t1 busy ≡ None) = option_or-none
        (last_not_busy s.t2 busy) (last_not_busy s.t1 busy) f in (both.1, both.0)

pub is_cached-victim : (s : FourLists) (in_b2 : Bool) (busy : ℕ → Bool) (v : ℕ) → victim s in_b2 busy ≡ Some v
    → is_cached s v ≡ true
is_cached-victim s in_b2 busy v e = is_cached-either s busy v (victim-either s in_b2 busy v e)
