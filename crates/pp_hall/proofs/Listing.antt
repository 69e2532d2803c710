-- What stands in a list of pages and marks, as it is written.
use Rattle.std.proofs.Common.{◌≡◌, ◌≢◌, ◌∙◌, ℕ, zero, suc, ◌+◌, ◌<◌, true, false, List, [], ◌∷◌, length, Option, Some, None}
use Rattle.std.proofs.Common.{refl, sym, ap, subst, inl, inr, arith}
use Rattle.std.specs.Prelude.{◌↔◌, slice_get, slice_set, slice_index_or}
use Rattle.std.proofs.lemmas.Bool.{cases_eq}
use Rattle.pp_frames.specs.Marks.{PageMarks, PageMap, untouched_marks, marks_of, page_count}
use Rattle.pp_model.specs.Pool.{State, known_mark}
use Rattle.pp_model.specs.Marks.{marks}
use Rattle.pp_vault.specs.Parts as vault
use Rattle.pp_vault.specs.StandsFor.{StandsFor}
use Rattle.pp_hall.specs.Closing.{IsDirtyPage, IsListed}

-- What holds of the first n entries, and of one that is written behind them, holds of one more.
pub listed_more : (P : ℕ → ℕ → Type 0) (xs : List (ℕ × ℕ)) (n page mark : ℕ)
    → ((k p m : ℕ) → k < n → slice_get xs k ≡ Some (p, m) → P p m) → P page mark
    → (k p m : ℕ) → k < n + 1 → slice_get (slice_set xs n (page, mark)) k ≡ Some (p, m) → P p m
listed_more P [] n page mark all here k p m less e = cc
listed_more P (x ∷ xs) zero page mark all here zero p m less e =
    let same : (page, mark) ≡ (p, m) = cc in
    let q : page ≡ p = ap (λ (x : ℕ × ℕ). x.0) same in
    let r : mark ≡ m = ap (λ (x : ℕ × ℕ). x.1) same in
    subst (λ (n : ℕ). P p n) r (subst (λ (n : ℕ). P n mark) q here)
listed_more P (x ∷ xs) zero page mark all here (suc k) p m less e = absurd (omega (arith, less))
listed_more P (x ∷ xs) (suc n) page mark all here zero p m less e = all zero p m (omega arith) e
listed_more P (x ∷ xs) (suc n) page mark all here (suc k) p m less e =
    listed_more P xs n page mark (λ j q r l f. all (suc j) q r (omega (arith, l)) f) here k p m (omega (arith, less)) e

-- ---- every page that is newer is listed

-- A page past the last one isn't newer.
in_list : (xs : List PageMarks) (n : ℕ) → (slice_index_or xs n untouched_marks).dirty ≡ true → n < length xs
in_list [] n e = cc
in_list (x ∷ xs) zero e = omega arith
in_list (x ∷ xs) (suc n) e = let less : n < length xs = in_list xs n e in omega arith

pub dirty_within : (v : vault.Parts) (s : State) → StandsFor v s → (m : PageMap) → m ≡ marks s → (n : ℕ)
    → n ≡ page_count m → (page mark : ℕ) → IsDirtyPage v page mark → page < n
dirty_within v s stands m same n is page mark d =
    let less : page < page_count (marks s) = in_list (marks s).pages page (d.dirty s stands) in
    omega (arith, is, ap page_count same)

-- What the marks tell of a page that is newer, and of one that isn't.
pub dirty_is : (v : vault.Parts) (s : State) → StandsFor v s → (m : PageMap)
    → ((t : State) → StandsFor v t → m ≡ marks t) → (page : ℕ) → true ≡ (marks_of m page).dirty → (found : Option ℕ)
    → ((t : State) → StandsFor v t → found ≡ known_mark t page) → (mark : ℕ)
    → (found ≡ Some mark) ↔ IsDirtyPage v page mark
dirty_is v s stands m same page is found told mark = (
  λ e. record {
    dirty = λ t holds. sym (ap (λ (x : PageMap). (marks_of x page).dirty) (same t holds)) ∙ sym is;
    known = λ t holds. sym (told t holds) ∙ e;
  },
  λ d. told s stands ∙ d.known s stands,
)

pub clean_isnt : (v : vault.Parts) (s : State) → StandsFor v s → (m : PageMap) → m ≡ marks s → (page : ℕ)
    → false ≡ (marks_of m page).dirty → (mark : ℕ) → (◌≡◌ {A = Option ℕ} None (Some mark)) ↔ IsDirtyPage v page mark
clean_isnt v s stands m same page isnt mark = (
  λ e. cc,
  λ d.
      let newer : true ≡ (marks_of m page).dirty = sym (ap (λ (x : PageMap). (marks_of x page).dirty) same ∙ d.dirty s stands) in
      cc,
)

set_here : {A : Type 0} (xs : List A) (n : ℕ) (x : A) → n < length xs → slice_get (slice_set xs n x) n ≡ Some x
set_here [] n x less = absurd (omega (arith, less))
set_here (y ∷ ys) zero x less = refl
set_here (y ∷ ys) (suc n) x less = set_here ys n x (omega (arith, less))

set_before : {A : Type 0} (xs : List A) (n k : ℕ) (x : A) → k < n → slice_get (slice_set xs n x) k ≡ slice_get xs k
set_before [] n k x less = refl
set_before (y ∷ ys) zero k x less = absurd (omega (arith, less))
set_before (y ∷ ys) (suc n) zero x less = refl
set_before (y ∷ ys) (suc n) (suc k) x less = set_before ys n k x (omega (arith, less))

-- What was found is this mark, and so any that it is.
pub one_mark : (found : Option ℕ) (mark : ℕ) → found ≡ Some mark → (m : ℕ) → found ≡ Some m → m ≡ mark
one_mark found mark is m here = let same : Some m ≡ Some mark = sym here ∙ is in cc

-- One page more was looked at: it is written down behind the others, or it isn't newer.
pub all_with : (P : ℕ → ℕ → Type 0) (xs : List (ℕ × ℕ)) (count page mark : ℕ) → count < length xs
    → ((m : ℕ) → P page m → m ≡ mark) → ((q m : ℕ) → q < page → P q m → IsListed count xs q m)
    → (q m : ℕ) → q < page + 1 → P q m → IsListed (count + 1) (slice_set xs count (page, mark)) q m
all_with P xs count page mark room only before q m less d = elim (cases_eq q page) [
  | inl here ↦
      let same : m ≡ mark = only m (subst (λ (k : ℕ). P k m) here d) in
      record {
        at = count;
        first = omega arith;
        there = set_here xs count (page, mark) room ∙ λ i. Some (sym here i, sym same i);
      }
  | inr other ↦
      let h : IsListed count xs q m = before q m (omega arith) d in
      record {
        at = h.at;
        first = omega (arith, h.first);
        there = set_before xs count h.at (page, mark) h.first ∙ h.there;
      }
]

pub all_without : (P : ℕ → ℕ → Type 0) (xs : List (ℕ × ℕ)) (count page : ℕ) → ((m : ℕ) → P page m → ⊥)
    → ((q m : ℕ) → q < page → P q m → IsListed count xs q m)
    → (q m : ℕ) → q < page + 1 → P q m → IsListed count xs q m
all_without P xs count page none before q m less d = elim (cases_eq q page) [
  | inl here ↦ absurd (none m (subst (λ (k : ℕ). P k m) here d))
  | inr other ↦ before q m (omega arith) d
]
