-- The pages of names, each at the place of its name's key.
use Rattle.std.proofs.Common.{◌≡◌, ◌≢◌, ℕ, zero, suc, ◌+◌, ◌<◌, Bool, true, false, List, [], ◌∷◌, length}
use Rattle.std.proofs.Common.{replicate, get_or, set, refl, ap, sym, subst, ◌∙◌, arith, inl, inr, length-set}
use Rattle.std.proofs.Common.{get_or-set_other, get_or-set_same}
use Rattle.std.specs.Prelude.{Option, None, Some, is_some, count_by}
use Rattle.std.proofs.lemmas.Bool.{cases_lt, cases_eq}
use Rattle.std.proofs.lemmas.List.{get_or_past, get_or-replicate, length-replicate, ext_get_or}
use Rattle.std.proofs.lemmas.List.Sums.{sum_by-cons}
use Rattle.pp_cache.specs.declared.resident.Resident.{Resident}
use Rattle.pp_cache.proofs.FrameLemmas.{one_for, count-set}
use Rattle.pp_names.specs.Names.{key_of, IsUnnamed, IsOneToOne}
use Rattle.pp_keyed.specs.Keyed.{placed}

-- No key has two names, and each is below this number.
pub record IsApart (m : ℕ) (names : List (Option ℕ)) : Type 0 where
  pub one : IsOneToOne names
  pub low : (name key : ℕ) → key_of names name ≡ Some key → key < m

apart_tail : (m : ℕ) (o : Option ℕ) (names : List (Option ℕ)) → IsApart m (o ∷ names) → IsApart m names
apart_tail m o names a = record {
  one = λ p q key e f. let s : suc p ≡ suc q = a.one (suc p) (suc q) key e f in omega arith;
  low = λ n key e. a.low (suc n) key e;
}

abbrev no_page : Option Resident
no_page = None

pub blank : (m i : ℕ) → get_or (replicate m no_page) i None ≡ None
blank m i = elim (cases_lt i m) [
  | inl lt ↦ get_or-replicate m i None None lt
  | inr le ↦ get_or_past (replicate m no_page) i None
      (omega (arith, le, length-replicate m no_page))
]

pub length-placed : (m : ℕ) (names : List (Option ℕ)) (pages : List (Option Resident)) → length (placed m names pages) ≡ m
length-placed m [] pages = length-replicate m None
length-placed m (None ∷ names) [] = length-replicate m None
length-placed m (Some key ∷ names) [] = length-replicate m None
length-placed m (None ∷ names) (page ∷ pages) = length-placed m names pages
length-placed m (Some key ∷ names) (page ∷ pages) =
    length-set (placed m names pages) key page ∙ length-placed m names pages

-- ---- what stands at the place of a key

-- a page at the place of a key is that of a name that has the key
pub record FromName (names : List (Option ℕ)) (pages : List (Option Resident)) (key : ℕ) (r : Resident) : Type 0 where
  pub name : ℕ
  pub named : key_of names name ≡ Some key
  pub here : get_or pages name None ≡ Some r

from_tail : (o : Option ℕ) (p : Option Resident) (names : List (Option ℕ)) (pages : List (Option Resident)) (key : ℕ) (r : Resident)
    → FromName names pages key r → FromName (o ∷ names) (p ∷ pages) key r
from_tail o p names pages key r h = record { name = suc h.name; named = h.named; here = h.here }

from_blank : (m : ℕ) (names : List (Option ℕ)) (pages : List (Option Resident)) (key : ℕ) (r : Resident)
    → get_or (replicate m None) key None ≡ Some r → FromName names pages key r
from_blank m names pages key r e = let n : None ≡ Some r = sym (blank m key) ∙ e in absurd (cc)

pub placed-from : (m : ℕ) (names : List (Option ℕ)) (pages : List (Option Resident)) (key : ℕ) (r : Resident)
    → get_or (placed m names pages) key None ≡ Some r → FromName names pages key r
placed-from m [] pages key r e = from_blank m [] pages key r e
placed-from m (None ∷ names) [] key r e = from_blank m (None ∷ names) [] key r e
placed-from m (Some j ∷ names) [] key r e = from_blank m (Some j ∷ names) [] key r e
placed-from m (None ∷ names) (page ∷ pages) key r e =
    from_tail None page names pages key r (placed-from m names pages key r e)
placed-from m (Some j ∷ names) (page ∷ pages) key r e = elim (cases_eq key j) [
  | inl same ↦ elim (cases_lt j (length (placed m names pages))) [
    | inl lt ↦ record {
      name = zero;
      named = ap Some (sym same);
      here = sym (get_or-set_same (placed m names pages) j page None lt)
          ∙ subst (λ (i : ℕ). get_or (set (placed m names pages) j page) i None ≡ Some r) same e;
    }
    | inr le ↦ let n : None ≡ Some r = sym (get_or_past (set (placed m names pages) j page) key None
        (omega (arith, le, same, length-set (placed m names pages) j page))) ∙ e in absurd (cc)
  ]
  | inr ne ↦ from_tail (Some j) page names pages key r (placed-from m names pages key r
      (sym (get_or-set_other (placed m names pages) j key page None ne) ∙ e))
]

-- the page of a name stands at the place of its key
pub placed-to : (m : ℕ) (names : List (Option ℕ)) (pages : List (Option Resident)) (name key : ℕ) (r : Resident)
    → IsApart m names → key_of names name ≡ Some key → get_or pages name None ≡ Some r
    → get_or (placed m names pages) key None ≡ Some r
placed-to m [] pages name key r a e f = let n : None ≡ Some key = sym (get_or_past [] name None (omega arith)) ∙ e in absurd (cc)
placed-to m (o ∷ names) [] name key r a e f =
    let n : None ≡ Some r = sym (get_or_past [] name None (omega arith)) ∙ f in absurd (cc)
placed-to m (None ∷ names) (page ∷ pages) zero key r a e f = absurd (cc)
placed-to m (None ∷ names) (page ∷ pages) (suc name) key r a e f =
    placed-to m names pages name key r (apart_tail m None names a) e f
placed-to m (Some j ∷ names) (page ∷ pages) zero key r a e f =
    let same : j ≡ key = cc in
    let lt : j < length (placed m names pages) = omega (arith, a.low zero j refl, length-placed m names pages) in
    subst (λ (i : ℕ). get_or (set (placed m names pages) j page) i None ≡ Some r) same
    (get_or-set_same (placed m names pages) j page None lt ∙ f)
placed-to m (Some j ∷ names) (page ∷ pages) (suc name) key r a e f =
    get_or-set_other (placed m names pages) j key page None
    (λ same. let n : suc name ≡ zero = a.one (suc name) zero key e (ap Some (sym same)) in absurd (omega arith))
    ∙ placed-to m names pages name key r (apart_tail m (Some j) names a) e f

option_same : (a b : Option Resident) → ((r : Resident) → a ≡ Some r → b ≡ Some r) → ((r : Resident) → b ≡ Some r → a ≡ Some r)
    → a ≡ b
option_same None None h k = refl
option_same None (Some r) h k = k r refl
option_same (Some r) b h k = sym (h r refl)

pub placed-named : (m : ℕ) (names : List (Option ℕ)) (pages : List (Option Resident)) (name key : ℕ) → IsApart m names
    → key_of names name ≡ Some key → get_or (placed m names pages) key None ≡ get_or pages name None
placed-named m names pages name key a e = option_same _ _
    (λ r h. let w : FromName names pages key r = placed-from m names pages key r h in
    subst (λ (n : ℕ). get_or pages n None ≡ Some r) (a.one w.name name key w.named e) w.here)
    (λ r h. placed-to m names pages name key r a e h)

pub placed-unnamed : (m : ℕ) (names : List (Option ℕ)) (pages : List (Option Resident)) (key : ℕ) → IsUnnamed names key
    → get_or (placed m names pages) key None ≡ None
placed-unnamed m names pages key u = option_same _ _
    (λ r h. let w : FromName names pages key r = placed-from m names pages key r h in absurd (u w.name w.named))
    (λ r h. absurd (cc))

-- at a key that the same names have, the same page stands
pub placed-key : (m : ℕ) (names names' : List (Option ℕ)) (pages : List (Option Resident)) (key : ℕ)
    → IsApart m names → IsApart m names'
    → ((name : ℕ) → key_of names name ≡ Some key → key_of names' name ≡ Some key)
    → ((name : ℕ) → key_of names' name ≡ Some key → key_of names name ≡ Some key)
    → get_or (placed m names pages) key None ≡ get_or (placed m names' pages) key None
placed-key m names names' pages key a a' forth back = option_same _ _
    (λ r h. let w : FromName names pages key r = placed-from m names pages key r h in
    placed-to m names' pages w.name key r a' (forth w.name w.named) w.here)
    (λ r h. let w : FromName names' pages key r = placed-from m names' pages key r h in
    placed-to m names pages w.name key r a (back w.name w.named) w.here)

-- ---- the same pages

-- where the pages that stand somewhere have the same keys, and are the same, the places are the same
pub placed-same : (m : ℕ) (names names' : List (Option ℕ)) (pages pages' : List (Option Resident))
    → IsApart m names → IsApart m names'
    → ((name : ℕ) → get_or pages name None ≡ get_or pages' name None)
    → ((name : ℕ) → is_some (get_or pages name None) ≡ true → key_of names name ≡ key_of names' name)
    → placed m names pages ≡ placed m names' pages'
placed-same m names names' pages pages' a a' same agree =
    ext_get_or None (placed m names pages) (placed m names' pages')
    (length-placed m names pages ∙ sym (length-placed m names' pages'))
    (λ key low. option_same _ _
    (λ r h. let w : FromName names pages key r = placed-from m names pages key r h in
    placed-to m names' pages' w.name key r a' (sym (agree w.name (ap is_some w.here)) ∙ w.named) (sym (same w.name) ∙ w.here))
    (λ r h. let w : FromName names' pages' key r = placed-from m names' pages' key r h in
    placed-to m names pages w.name key r a (agree w.name (ap is_some (same w.name ∙ w.here)) ∙ w.named) (same w.name ∙ w.here)))

-- ---- one page is another

-- the page of a name that has a key
pub placed-set : (m : ℕ) (names : List (Option ℕ)) (pages : List (Option Resident)) (name key : ℕ) (o : Option Resident)
    → IsApart m names → key_of names name ≡ Some key → name < length pages
    → placed m names (set pages name o) ≡ set (placed m names pages) key o
placed-set m names pages name key o a e lt =
    ext_get_or None (placed m names (set pages name o)) (set (placed m names pages) key o)
    (length-placed m names (set pages name o) ∙ sym (length-set (placed m names pages) key o ∙ length-placed m names pages))
    (λ i low. elim (cases_eq i key) [
      | inl same ↦ rw same (placed-named m names (set pages name o) name key a e ∙ get_or-set_same pages name o None lt
          ∙ sym (get_or-set_same (placed m names pages) key o None
          (omega (arith, a.low name key e, length-placed m names pages))))
      | inr ne ↦ option_same _ _
          (λ r h. let w : FromName names (set pages name o) i r = placed-from m names (set pages name o) i r h in
          get_or-set_other (placed m names pages) key i o None ne
          ∙ placed-to m names pages w.name i r a w.named (sym (get_or-set_other pages name w.name o None
          (away w.name i ne w.named)) ∙ w.here))
          (λ r h. let w : FromName names pages i r = placed-from m names pages i r
          (sym (get_or-set_other (placed m names pages) key i o None ne) ∙ h) in
          placed-to m names (set pages name o) w.name i r a w.named (get_or-set_other pages name w.name o None
          (away w.name i ne w.named) ∙ w.here))
    ])
  where
    away : (n i : ℕ) → i ≢ key → key_of names n ≡ Some i → n ≢ name
    away n i ne h same = let s : Some i ≡ Some key = sym h ∙ ap (key_of names) same ∙ e in ne (cc)

-- that of a name without a key is nowhere
pub placed-skip : (m : ℕ) (names : List (Option ℕ)) (pages : List (Option Resident)) (name : ℕ) (o : Option Resident)
    → IsApart m names → key_of names name ≡ None → placed m names (set pages name o) ≡ placed m names pages
placed-skip m names pages name o a e =
    ext_get_or None (placed m names (set pages name o)) (placed m names pages)
    (length-placed m names (set pages name o) ∙ sym (length-placed m names pages))
    (λ i low. option_same _ _
    (λ r h. let w : FromName names (set pages name o) i r = placed-from m names (set pages name o) i r h in
    placed-to m names pages w.name i r a w.named (sym (get_or-set_other pages name w.name o None (away w.name i w.named)) ∙ w.here))
    (λ r h. let w : FromName names pages i r = placed-from m names pages i r h in
    placed-to m names (set pages name o) w.name i r a w.named
    (get_or-set_other pages name w.name o None (away w.name i w.named) ∙ w.here)))
  where
    away : (n i : ℕ) → key_of names n ≡ Some i → n ≢ name
    away n i h same = let s : Some i ≡ None = sym h ∙ ap (key_of names) same ∙ e in cc

-- ---- counts

count-cons : (q : Option Resident → Bool) (page : Option Resident) (pages : List (Option Resident))
    → count_by q (page ∷ pages) ≡ one_for (q page) + count_by q pages
count-cons q page pages = sum_by-cons (λ x. one_for (q x)) page pages

count-nothing : (q : Option Resident → Bool) (pages : List (Option Resident)) → q None ≡ false
    → ((i : ℕ) → get_or pages i None ≡ None) → count_by q pages ≡ 0
count-nothing q [] fails none = refl
count-nothing q (page ∷ pages) fails none =
    let first : one_for (q page) ≡ 0 = ap (λ o. one_for (q o)) (none zero) ∙ ap one_for fails in
    omega (arith, count-cons q page pages, first, count-nothing q pages fails (λ i. none (suc i)))

pub count-placed : (m : ℕ) (q : Option Resident → Bool) (names : List (Option ℕ)) (pages : List (Option Resident))
    → q None ≡ false → IsApart m names
    → ((name : ℕ) → is_some (get_or pages name None) ≡ true → is_some (key_of names name) ≡ true)
    → count_by q (placed m names pages) ≡ count_by q pages
count-placed m q [] pages fails a named =
    count-nothing q (replicate m None) fails (blank m) ∙ sym (count-nothing q pages fails (λ i. unnamed (get_or pages i None) (λ h.
    sym (ap is_some (get_or_past (let none : List (Option ℕ) = [] in none) i None (omega arith))) ∙ named i h)))
  where
    unnamed : (o : Option Resident) → (is_some o ≡ true → false ≡ true) → o ≡ None
    unnamed None h = refl
    unnamed (Some r) h = let n : false ≡ true = h refl in absurd (cc)
count-placed m q (None ∷ names) [] fails a named = count-nothing q (replicate m None) fails (blank m)
count-placed m q (Some j ∷ names) [] fails a named = count-nothing q (replicate m None) fails (blank m)
count-placed m q (None ∷ names) (page ∷ pages) fails a named =
    let first : one_for (q page) ≡ 0 = blank_page page (named zero) in
    let e : count_by q (placed m names pages) ≡ count_by q pages =
    count-placed m q names pages fails (apart_tail m None names a) (λ n. named (suc n)) in
    omega (arith, count-cons q page pages, first, e)
  where
    blank_page : (o : Option Resident) → (is_some o ≡ true → false ≡ true) → one_for (q o) ≡ 0
    blank_page None h = ap one_for fails
    blank_page (Some r) h = let n : false ≡ true = h refl in absurd (cc)
count-placed m q (Some j ∷ names) (page ∷ pages) fails a named =
    let e : count_by q (placed m names pages) ≡ count_by q pages =
    count-placed m q names pages fails (apart_tail m (Some j) names a) (λ n. named (suc n)) in
    let empty : one_for (q (get_or (placed m names pages) j None)) ≡ 0 =
    ap (λ o. one_for (q o)) (placed-unnamed m names pages j
    (λ n h. let z : suc n ≡ zero = a.one (suc n) zero j h refl in omega arith)) ∙ ap one_for fails in
    omega (
      arith,
      e,
      empty,
      count-cons q page pages,
      count-set q (placed m names pages) j page (omega (arith, a.low zero j refl, length-placed m names pages)),
    )
