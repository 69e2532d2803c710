-- What the search for a victim knows, as pins come and go and a flush begins and ends.
use Rattle.std.proofs.Common.{◌≡◌, ◌≢◌, ℕ, ◌<◌, ◌≤◌, Bool, true, false, eqb, List, length, refl, sym, ap, subst}
use Rattle.std.proofs.Common.{inl, inr, arith, get_or, get_or-set_same, get_or-set_other}
use Rattle.std.specs.Prelude.{Option, Some, None, nat_lt}
use Rattle.std.proofs.lemmas.Bool.{cases_Bool, cases_lt, lt-ltb, ltb-true}
use Rattle.std.proofs.lemmas.Bool.Decides.{eqb_tells}
use Rattle.std.proofs.lemmas.List.{set_past}
use Rattle.pp_arc.specs.FourLists.{FourLists}
use Rattle.pp_arc.specs.Search.{SearchMarks, KnowsBusy}
use Rattle.pp_arc.proofs.VictimLemmas.{or_right}
use Rattle.pp_arc.proofs.SearchLemmas.{KnowsBusy-more, Keeps}
use Rattle.pp_frames.specs.Marks.{PageMap, PageMarks, pins_of, marks_of, with_marks, untouched_marks, Latches, with_latches}
use Rattle.pp_core.specs.Busy.{is_that, is_busy_in}

-- ---- pins

-- another page keeps its pins
pub pins_other : (m : PageMap) (p : ℕ) (x : PageMarks) (q : ℕ) → q ≢ p → pins_of (with_marks m p x) q ≡ pins_of m q
pins_other m p x q ne = ap (λ (z : PageMarks). z.pins) (get_or-set_other m.pages p q x untouched_marks ne)

-- no page has fewer pins where the marks of one page have no fewer
pub pins_kept : (m : PageMap) (p : ℕ) (x : PageMarks) (q : ℕ) → pins_of m p ≤ x.pins
    → pins_of m q ≤ pins_of (with_marks m p x) q
pins_kept m p x q le = elim (eqb_tells q p) [
  | inl t ↦ subst (λ (i : ℕ). pins_of m i ≤ pins_of (with_marks m p x) i) (sym t.1) (elim (cases_lt p (length m.pages)) [
    | inl lt ↦ let e : pins_of (with_marks m p x) p ≡ x.pins = ap (λ (z : PageMarks). z.pins)
        (get_or-set_same m.pages p x untouched_marks lt) in
        omega arith
    | inr past ↦ let e : pins_of (with_marks m p x) p ≡ pins_of m p = ap
        (λ (ps : List PageMarks). (get_or ps p untouched_marks).pins) (set_past m.pages p x past) in
        omega arith
  ])
  | inr t ↦ let e : pins_of (with_marks m p x) q ≡ pins_of m q = pins_other m p x q t.1 in omega arith
]

-- ---- who is busy

-- a page with as many pins at least stays busy
pub busy_by_pins : (m n : PageMap) (f : Option ℕ) (q : ℕ) → pins_of m q ≤ pins_of n q → is_busy_in m f q ≡ true
    → is_busy_in n f q ≡ true
busy_by_pins m n f q le h = elim (cases_Bool (nat_lt 0 (pins_of m q))) [
  | inl t ↦ let lt : 0 < pins_of n q = omega (arith, ltb-true 0 (pins_of m q) t) in rw (lt-ltb 0 (pins_of n q) lt) refl
  | inr t ↦ let h' : is_that f q ≡ true = rw t at h in or_right (nat_lt 0 (pins_of n q)) (is_that f q) h'
]

-- a flush begins where none was
pub busy_flushed : (m : PageMap) (f : Option ℕ) (q : ℕ) → is_busy_in m None q ≡ true → is_busy_in m f q ≡ true
busy_flushed m f q h = elim (cases_Bool (nat_lt 0 (pins_of m q))) [
  | inl t ↦ rw t refl
  | inr t ↦ let h' : false ≡ true = rw t at h in absurd (cc)
]

-- a flush ends: but for its page, what was busy is
pub busy_unflushed : (m : PageMap) (p q : ℕ) → q ≢ p → is_busy_in m (Some p) q ≡ true → is_busy_in m None q ≡ true
busy_unflushed m p q ne h = elim (cases_Bool (nat_lt 0 (pins_of m q))) [
  | inl t ↦ rw t refl
  | inr t ↦ let h' : eqb p q ≡ true = rw t at h in elim (eqb_tells p q) [
    | inl u ↦ absurd (ne (sym u.1))
    | inr u ↦ absurd (cc)
  ]
]

-- ---- what a search knows

-- the marks of a page become these, with no fewer pins
pub Knows-marks : (s : FourLists) (k : SearchMarks) (m : PageMap) (f : Option ℕ) (p : ℕ) (x : PageMarks)
    → pins_of m p ≤ x.pins → KnowsBusy s k (is_busy_in m f) → KnowsBusy s k (is_busy_in (with_marks m p x) f)
Knows-marks s k m f p x le h = KnowsBusy-more s k (is_busy_in m f) (is_busy_in (with_marks m p x) f)
    (λ y b. busy_by_pins m (with_marks m p x) f y (pins_kept m p x y le) b) h

-- a pin goes off a page, which is told
pub Knows-unpin : (s : FourLists) (k l : SearchMarks) (m n : PageMap) (f : Option ℕ) (p : ℕ) (x : PageMarks)
    → n ≡ with_marks m p x → Keeps s s k l p → KnowsBusy s k (is_busy_in m f) → KnowsBusy s l (is_busy_in n f)
Knows-unpin s k l m n f p x e keeps h = subst (λ (w : PageMap). KnowsBusy s l (is_busy_in w f)) (sym e)
    (keeps (is_busy_in m f) (is_busy_in (with_marks m p x) f) h (λ y ne b. busy_by_pins m (with_marks m p x) f y
    (let same : pins_of (with_marks m p x) y ≡ pins_of m y = pins_other m p x y ne in omega arith) b))

-- a flush is over, and its page was told
pub Knows-flush_over : (s : FourLists) (k l : SearchMarks) (m : PageMap) (f : Option ℕ) (p : ℕ) → f ≡ Some p
    → Keeps s s k l p → KnowsBusy s k (is_busy_in m f) → KnowsBusy s l (is_busy_in m None)
Knows-flush_over s k l m f p e keeps h = keeps (is_busy_in m f) (is_busy_in m None) h
    (λ y ne b. busy_unflushed m p y ne (subst (λ (o : Option ℕ). is_busy_in m o y ≡ true) e b))

-- a latch is granted or not
pub Knows-granted : (s : FourLists) (k : SearchMarks) (m n : PageMap) (f : Option ℕ) (p : ℕ) (l : Latches) (b : Bool)
    → (b ≡ true → n ≡ with_latches m p l) → (b ≡ false → n ≡ m) → KnowsBusy s k (is_busy_in m f)
    → KnowsBusy s k (is_busy_in n f)
Knows-granted s k m n f p l true granted refused h =
    subst (λ (w : PageMap). KnowsBusy s k (is_busy_in w f)) (sym (granted refl))
    (Knows-marks s k m f p (record (marks_of m p) { latches = l }) (omega arith) h)
Knows-granted s k m n f p l false granted refused h =
    subst (λ (w : PageMap). KnowsBusy s k (is_busy_in w f)) (sym (refused refl)) h
