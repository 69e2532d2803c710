-- Lemmas on the pages behind another, and on the search for one that isn't busy.
use Rattle.std.proofs.Common.{◌≡◌, ◌≢◌, ◌⊎◌, ℕ, ◌≤◌, Bool, true, false, eqb, List, [], ◌∷◌, ◌++◌}
use Rattle.std.proofs.Common.{length, reverse, refl, arith, ap, sym, ◌∙◌, inl, inr, eq-eqb}
use Rattle.std.specs.Prelude.{Option, None, Some, slice_get}
use Rattle.std.specs.Option.{option_or}
use Rattle.std.proofs.lemmas.Bool.Decides.{eqb_tells}
use Rattle.std.proofs.lemmas.Grind.{reverse_onto}
use Rattle.pp_arc.specs.Pages.{contains, times_in, without, behind, next_after, last_not_busy, last_page}
use Rattle.pp_arc.specs.Table.{Linked}
use Rattle.pp_arc.proofs.PageLemmas.{eqb_not, times_in-contains}
use Rattle.pp_arc.proofs.RingLemmas.{times_in-front}
use Rattle.pp_arc.proofs.VictimLemmas.{or_right, last_not_busy-cons}
use Rattle.pp_arc.proofs.LookLemmas.{shift}
use Rattle.pp_arc.proofs.SizeLemmas.{contains-last, last-none}

pub contains-front : (x : ℕ) (xs : List ℕ) → contains (x ∷ xs) x ≡ true
contains-front x xs = rw (eq-eqb x x refl) refl

pub contains-more : (z y : ℕ) (zs : List ℕ) → contains zs y ≡ true → contains (z ∷ zs) y ≡ true
contains-more z y zs h = or_right (eqb z y) (contains zs y) h

-- a page of a list without another is a page of the list
pub contains-without_in : (xs : List ℕ) (z y : ℕ) → contains (without xs z) y ≡ true → contains xs y ≡ true
contains-without_in [] z y h = h
contains-without_in (w ∷ ws) z y h = elim (eqb_tells w z) [
  | inl t ↦ let h' : contains (without ws z) y ≡ true = rw t.0 at h in
      contains-more w y ws (contains-without_in ws z y h')
  | inr t ↦ let h' : contains (w ∷ without ws z) y ≡ true = rw t.0 at h in
      elim (eqb_tells w y) [
        | inl u ↦ rw u.0 refl
        | inr u ↦ let h'' : contains (without ws z) y ≡ true = rw u.0 at h' in
            contains-more w y ws (contains-without_in ws z y h'')
      ]
]

-- a list without a page hasn't it
pub contains-without_same : (xs : List ℕ) (z : ℕ) → contains (without xs z) z ≡ false
contains-without_same [] z = refl
contains-without_same (w ∷ ws) z = elim (eqb_tells w z) [
  | inl t ↦ rw t.0 (contains-without_same ws z)
  | inr t ↦ rw (t.0, t.0) (contains-without_same ws z)
]

-- and has each other page that the list has
pub contains-without_other : (xs : List ℕ) (z y : ℕ) → z ≢ y → contains (without xs z) y ≡ contains xs y
contains-without_other [] z y ne = refl
contains-without_other (w ∷ ws) z y ne = elim (eqb_tells w z) [
  | inl t ↦ let e : eqb w y ≡ false = eqb_not w y (λ s. ne (sym t.1 ∙ s)) in
      rw (t.0, e) (contains-without_other ws z y ne)
  | inr t ↦ rw t.0 (elim (eqb_tells w y) [
    | inl u ↦ rw u.0 refl
    | inr u ↦ rw u.0 (contains-without_other ws z y ne)
  ])
]

-- what stands behind a page stands in the list
pub behind-in : (xs : List ℕ) (x y : ℕ) → contains (behind xs x) y ≡ true → contains xs y ≡ true
behind-in [] x y h = h
behind-in (z ∷ zs) x y h = elim (eqb_tells z x) [
  | inl t ↦ let h' : contains zs y ≡ true = rw t.0 at h in contains-more z y zs h'
  | inr t ↦ let h' : contains (behind zs x) y ≡ true = rw t.0 at h in contains-more z y zs (behind-in zs x y h')
]

-- and the page itself does
pub behind-of : (xs : List ℕ) (x y : ℕ) → contains (behind xs x) y ≡ true → contains xs x ≡ true
behind-of [] x y h = absurd (cc)
behind-of (z ∷ zs) x y h = elim (eqb_tells z x) [
  | inl t ↦ rw t.0 refl
  | inr t ↦ let h' : contains (behind zs x) y ≡ true = rw t.0 at h in contains-more z x zs (behind-of zs x y h')
]

-- where a page leaves the list, nothing comes behind another
pub behind-without : (xs : List ℕ) (z x y : ℕ) → contains (behind (without xs z) x) y ≡ true
    → contains (behind xs x) y ≡ true
behind-without [] z x y h = h
behind-without (w ∷ ws) z x y h = elim (eqb_tells w z) [
  | inl t ↦ let h' : contains (behind (without ws z) x) y ≡ true = rw t.0 at h in
      elim (eqb_tells w x) [
        | inl u ↦ rw u.0 (contains-without_in ws z y (behind-in (without ws z) x y h'))
        | inr u ↦ rw u.0 (behind-without ws z x y h')
      ]
  | inr t ↦ let h' : contains (behind (w ∷ without ws z) x) y ≡ true = rw t.0 at h in
      elim (eqb_tells w x) [
        | inl u ↦ let h'' : contains (without ws z) y ≡ true = rw u.0 at h' in
            rw u.0 (contains-without_in ws z y h'')
        | inr u ↦ let h'' : contains (behind (without ws z) x) y ≡ true = rw u.0 at h' in
            rw u.0 (behind-without ws z x y h'')
      ]
]

-- of two pages one stands behind the other
pub behind-either : (xs : List ℕ) (x y : ℕ) → contains xs x ≡ true → contains xs y ≡ true → x ≢ y
    → (contains (behind xs x) y ≡ true) ⊎ (contains (behind xs y) x ≡ true)
behind-either [] x y hx hy ne = absurd (cc)
behind-either (z ∷ zs) x y hx hy ne = elim (eqb_tells z x) [
  | inl t ↦ let e : eqb z y ≡ false = eqb_not z y (λ s. ne (sym t.1 ∙ s)) in
      let hy' : contains zs y ≡ true = rw e at hy in
      rw t.0 (inl hy')
  | inr t ↦ let hx' : contains zs x ≡ true = rw t.0 at hx in
      elim (eqb_tells z y) [
        | inl u ↦ rw u.0 (inr hx')
        | inr u ↦ let hy' : contains zs y ≡ true = rw u.0 at hy in
            rw (t.0, u.0) (behind-either zs x y hx' hy' ne)
      ]
]

-- a page that stands once in front isn't one that stands further behind
pub front-apart : (z y : ℕ) (zs : List ℕ) → times_in (z ∷ zs) z ≤ 1 → contains zs y ≡ true → z ≢ y
front-apart z y zs once h e =
    let h' : contains zs z ≡ true = rw (sym e) at h in
    absurd (omega (arith, times_in-front z zs, times_in-contains zs z h'))

-- the page to which a row leads back from a page
pub ahead-Linked : (n p : ℕ → ℕ) (xs : List ℕ) (a b x : ℕ) → ((i : ℕ) → times_in xs i ≤ 1) → Linked n p a xs b
    → contains xs x ≡ true
    → ((p x ≡ a) × (xs ≡ x ∷ behind xs x)) ⊎ ((contains xs (p x) ≡ true) × (behind xs (p x) ≡ x ∷ behind xs x))
ahead-Linked n p [] a b x once h s = absurd (cc)
ahead-Linked n p (y ∷ ys) a b x once h s = elim (eqb_tells y x) [
  | inl t ↦ let e : p x ≡ a = ap p (sym t.1) ∙ h.1 in
      inl (e, rw t.0 (ap (λ w. w ∷ ys) t.1))
  | inr t ↦ let s' : contains ys x ≡ true = rw t.0 at s in
      elim (ahead-Linked n p ys y b x (λ i. omega (arith, once i)) h.2 s') [
        | inl u ↦ inr (ap (contains (y ∷ ys)) u.0 ∙ contains-front y ys, rw (u.0, eq-eqb y y refl, t.0) u.1)
        | inr u ↦ let ne : y ≢ p x = front-apart y (p x) ys (once y) u.0 in
            inr (contains-more y (p x) ys u.0, rw (eqb_not y (p x) ne, t.0) u.1)
      ]
]

-- the next page is the first one behind
pub next_after-behind : (xs : List ℕ) (x : ℕ) → next_after xs x ≡ slice_get (behind xs x) 0
next_after-behind [] x = refl
next_after-behind (y ∷ ys) x = elim (eqb_tells y x) [
  | inl t ↦ rw t.0 refl
  | inr t ↦ rw t.0 (shift y ys _ ∙ next_after-behind ys x)
]

-- the first page behind another, and what stands behind that one
pub behind-next : (xs : List ℕ) (x m : ℕ) (ys : List ℕ) → ((i : ℕ) → times_in xs i ≤ 1) → behind xs x ≡ m ∷ ys
    → (contains xs m ≡ true) × (behind xs m ≡ ys)
behind-next [] x m ys once e = absurd (cc)
behind-next (z ∷ zs) x m ys once e = elim (eqb_tells z x) [
  | inl t ↦ let e' : zs ≡ m ∷ ys = rw t.0 at e in
      let here : contains zs m ≡ true = rw e' (contains-front m ys) in
      let ne : z ≢ m = front-apart z m zs (once z) here in
      (contains-more z m zs here, rw (eqb_not z m ne, e', eq-eqb m m refl) refl)
  | inr t ↦ let e' : behind zs x ≡ m ∷ ys = rw t.0 at e in
      let r : (contains zs m ≡ true) × (behind zs m ≡ ys) = behind-next zs x m ys (λ i. omega (arith, once i)) e' in
      let ne : z ≢ m = front-apart z m zs (once z) r.0 in
      (contains-more z m zs r.0, rw (eqb_not z m ne) r.1)
]

-- nothing stands behind the last page
first-append : (zs : List ℕ) (x : ℕ) → slice_get (zs ++ x ∷ []) 0 ≡ option_or (slice_get zs 0) (Some x)
first-append [] x = refl
first-append (z ∷ zs) x = refl

last_page-cons : (x : ℕ) (xs : List ℕ) → last_page (x ∷ xs) ≡ option_or (last_page xs) (Some x)
last_page-cons x xs = rw (reverse_onto xs x []) (first-append (reverse xs) x)

pub behind-last : (xs : List ℕ) (l : ℕ) → ((i : ℕ) → times_in xs i ≤ 1) → last_page xs ≡ Some l → behind xs l ≡ []
behind-last [] l once e = refl
behind-last (x ∷ xs) l once e =
    go (last_page xs) refl (sym (last_page-cons x xs) ∙ e) (behind-last xs l (λ i. omega (arith, once i)))
  where
    go : (o : Option ℕ) → last_page xs ≡ o → option_or o (Some x) ≡ Some l → (last_page xs ≡ Some l → behind xs l ≡ [])
        → behind (x ∷ xs) l ≡ []
    go None none f rest = let same : x ≡ l = cc in rw (eq-eqb x l same) (last-none xs none)
    go (Some w) some f rest =
        let same : w ≡ l = cc in
        let some' : last_page xs ≡ Some l = some ∙ ap Some same in
        let ne : x ≢ l = front-apart x l xs (once x) (contains-last xs l some') in
        rw (eqb_not x l ne) (rest some')

-- where each page is busy the search finds none
pub none-busy : (xs : List ℕ) (busy : ℕ → Bool) → ((y : ℕ) → contains xs y ≡ true → busy y ≡ true)
    → last_not_busy xs busy ≡ None
none-busy [] busy full = refl
none-busy (x ∷ xs) busy full = last_not_busy-cons x xs busy ∙
    (rw (none-busy xs busy (λ y c. full y (contains-more x y xs c)), full x (contains-front x xs)) refl)

-- a page that isn't busy is found where each one behind it is
pub last-behind : (xs : List ℕ) (busy : ℕ → Bool) (v : ℕ) → contains xs v ≡ true → busy v ≡ false
    → ((y : ℕ) → contains (behind xs v) y ≡ true → busy y ≡ true) → last_not_busy xs busy ≡ Some v
last-behind [] busy v here idle full = absurd (cc)
last-behind (x ∷ xs) busy v here idle full = last_not_busy-cons x xs busy ∙ (elim (eqb_tells x v) [
  | inl t ↦ let free : busy x ≡ false = ap busy t.1 ∙ idle in
      let none : last_not_busy xs busy ≡ None = none-busy xs busy (λ y c. full y (rw t.0 c)) in
      rw (none, free) (ap Some t.1)
  | inr t ↦ let here' : contains xs v ≡ true = rw t.0 at here in
      let found : last_not_busy xs busy ≡ Some v = last-behind xs busy v here' idle (λ y c. full y (rw t.0 c)) in
      rw found refl
])

-- no more stands behind a page than in the list
pub length-behind : (xs : List ℕ) (x : ℕ) → length (behind xs x) ≤ length xs
length-behind [] x = omega arith
length-behind (z ∷ zs) x = elim (eqb_tells z x) [
  | inl t ↦ rw t.0 (omega arith)
  | inr t ↦ rw t.0 (omega (arith, length-behind zs x))
]
