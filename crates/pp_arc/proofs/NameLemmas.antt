-- Lemmas on names: each word on a list of nodes is that word on the list of their pages.
use Rattle.std.proofs.Common.{◌≡◌, ◌≢◌, ◌∙◌, ℕ, zero, suc, ◌+◌, ◌-◌, ◌<◌, ◌≤◌, Bool, true, false, not, cond, eqb, ◌||◌}
use Rattle.std.proofs.Common.{List, [], ◌∷◌, ◌++◌, length, map, take, drop, get_or, set, refl, sym, ap, subst, arith}
use Rattle.std.proofs.Common.{inl, inr, get_or-set_other, get_or-set_same, length-set, eq-eqb}
use Rattle.std.specs.Prelude.{Option, Some, None, option_map, option_and_then, slice_get, reverse, find}
use Rattle.std.specs.List.{list_any, after_first, prefix_len}
use Rattle.std.proofs.lemmas.Bool.Decides.{eqb_tells}
use Rattle.std.proofs.lemmas.List.{reverse-append, map-append, length-map}
use Rattle.pp_arc.specs.declared.list.List.{List as ListName}
use Rattle.pp_arc.specs.declared.list.List.TheVariants.{T1, T2, B1, B2}
use Rattle.pp_arc.specs.Pages.{contains, times_in, without, without_last, last_page, last_not_busy, next_after, behind}
use Rattle.pp_arc.specs.FourLists.{FourLists, list_of, place, after, times_named, total_count}
use Rattle.pp_arc.specs.Figure.{forget}
use Rattle.pp_arc.specs.Links.{with_front, without_last_of}
use Rattle.pp_arc.specs.Names.{pages_at, lists_at}
use Rattle.pp_arc.proofs.RingLemmas.{times_in-front, without-absent}
use Rattle.pp_arc.proofs.PageLemmas.{eqb_not}
use Rattle.pp_arc.proofs.SizeLemmas.{last-some, times_in-append, times_in-last, times_in-one}

-- The name of each node's page leads to the node.
abbrev pub AreUndone : List ℕ → List ℕ → List ℕ → Type 0
AreUndone names pages xs = (n : ℕ) → 1 ≤ times_in xs n → get_or names (get_or pages n 0) 0 ≡ n + 1

front : (y : ℕ) (ys : List ℕ) → 1 ≤ times_in (y ∷ ys) y
front y ys = omega (arith, times_in-front y ys)

rest : (names pages : List ℕ) (y : ℕ) (ys : List ℕ) → AreUndone names pages (y ∷ ys) → AreUndone names pages ys
rest names pages y ys h = λ n s. h n (omega arith)

-- Two nodes have the same page only where they are the same.
pub same : (names pages : List ℕ) (y n : ℕ) → get_or names (get_or pages y 0) 0 ≡ y + 1
    → get_or names (get_or pages n 0) 0 ≡ n + 1
    → eqb (get_or pages y 0) (get_or pages n 0) ≡ eqb y n
same names pages y n hy hn = elim (eqb_tells y n) [
  | inl t ↦ eq-eqb (get_or pages y 0) (get_or pages n 0) (ap (λ (m : ℕ). get_or pages m 0) t.1) ∙ sym t.0
  | inr t ↦ eqb_not (get_or pages y 0) (get_or pages n 0) (λ e. t.1 (alike e)) ∙ sym t.0
]
  where
    alike : get_or pages y 0 ≡ get_or pages n 0 → y ≡ n
    alike e = let f : y + 1 ≡ n + 1 = sym hy ∙ ap (λ (x : ℕ). get_or names x 0) e ∙ hn in omega arith

pub stands : (names pages xs : List ℕ) (n : ℕ) → AreUndone names pages xs
    → get_or names (get_or pages n 0) 0 ≡ n + 1
    → contains (pages_at pages xs) (get_or pages n 0) ≡ contains xs n
stands names pages [] n h k = refl
stands names pages (y ∷ ys) n h k =
    λ i. same names pages y n (h y (front y ys)) k i || stands names pages ys n (rest names pages y ys h) k i

pub times : (names pages xs : List ℕ) (n : ℕ) → AreUndone names pages xs
    → get_or names (get_or pages n 0) 0 ≡ n + 1
    → times_in (pages_at pages xs) (get_or pages n 0) ≡ times_in xs n
times names pages [] n h k = refl
times names pages (y ∷ ys) n h k =
    λ i. cond (same names pages y n (h y (front y ys)) k i) 1 0
    + times names pages ys n (rest names pages y ys h) k i

-- A page without a name stands nowhere.
pub nowhere : (names pages xs : List ℕ) (x : ℕ) → AreUndone names pages xs → get_or names x 0 ≡ 0
    → times_in (pages_at pages xs) x ≡ 0
nowhere names pages [] x h z = refl
nowhere names pages (y ∷ ys) x h z = elim (eqb_tells (get_or pages y 0) x) [
  | inl t ↦ let e : 0 ≡ y + 1 = sym z ∙ ap (λ (m : ℕ). get_or names m 0) (sym t.1) ∙ h y (front y ys) in
      absurd (omega arith)
  | inr t ↦ rw t.0 (omega (arith, nowhere names pages ys x (rest names pages y ys h) z))
]

pick : (pages : List ℕ) (b : Bool) (y : ℕ) (fs gs : List ℕ) → fs ≡ pages_at pages gs
    → cond b (get_or pages y 0 ∷ fs) fs ≡ pages_at pages (cond b (y ∷ gs) gs)
pick pages true y fs gs e = ap (λ zs. get_or pages y 0 ∷ zs) e
pick pages false y fs gs e = e

pub leaves : (names pages xs : List ℕ) (n : ℕ) → AreUndone names pages xs
    → get_or names (get_or pages n 0) 0 ≡ n + 1
    → without (pages_at pages xs) (get_or pages n 0) ≡ pages_at pages (without xs n)
leaves names pages [] n h k = refl
leaves names pages (y ∷ ys) n h k =
    ap (λ b. cond (not b) (get_or pages y 0 ∷ without (pages_at pages ys) (get_or pages n 0))
    (without (pages_at pages ys) (get_or pages n 0))) (same names pages y n (h y (front y ys)) k)
    ∙ pick pages (not (eqb y n)) y (without (pages_at pages ys) (get_or pages n 0)) (without ys n)
    (leaves names pages ys n (rest names pages y ys h) k)

-- Another page of a node that stands nowhere in the list changes nothing.
pub written : (pages xs : List ℕ) (node x : ℕ) → times_in xs node ≡ 0
    → pages_at (set pages node x) xs ≡ pages_at pages xs
written pages [] node x z = refl
written pages (y ∷ ys) node x z = elim (eqb_tells y node) [
  | inl t ↦ let z' : 1 + times_in ys node ≡ 0 = rw t.0 at z in absurd (omega arith)
  | inr t ↦ let z' : 0 + times_in ys node ≡ 0 = rw t.0 at z in
      let e : get_or (set pages node x) y 0 ≡ get_or pages y 0 = get_or-set_other pages node y x 0 t.1 in
      rw (e, written pages ys node x (omega arith)) refl
]

pub take_pages : (pages : List ℕ) (n : ℕ) (xs : List ℕ) → take n (pages_at pages xs) ≡ pages_at pages (take n xs)
take_pages pages zero xs = refl
take_pages pages (suc n) [] = refl
take_pages pages (suc n) (x ∷ xs) = ap (λ zs. get_or pages x 0 ∷ zs) (take_pages pages n xs)

pub long : (pages xs : List ℕ) → length (pages_at pages xs) ≡ length xs
long pages [] = refl
long pages (x ∷ xs) = ap suc (long pages xs)

reverse_pages : (pages xs : List ℕ) → reverse (pages_at pages xs) ≡ pages_at pages (reverse xs)
reverse_pages pages [] = refl
reverse_pages pages (x ∷ xs) =
    reverse-append (get_or pages x 0 ∷ []) (pages_at pages xs)
    ∙ ap (λ zs. zs ++ get_or pages x 0 ∷ []) (reverse_pages pages xs)
    ∙ sym (map-append (λ (n : ℕ). get_or pages n 0) (reverse xs) (x ∷ []))
    ∙ ap (pages_at pages) (sym (reverse-append (x ∷ []) xs))

-- the page of a node, if there is one
abbrev pub page_in : List ℕ → Option ℕ → Option ℕ
page_in pages o = option_map (λ n. get_or pages n 0) o

pub get_pages : (pages xs : List ℕ) (k : ℕ) → slice_get (pages_at pages xs) k ≡ page_in pages (slice_get xs k)
get_pages pages [] k = refl
get_pages pages (x ∷ xs) zero = refl
get_pages pages (x ∷ xs) (suc k) = get_pages pages xs k

pub last : (pages xs : List ℕ) → last_page (pages_at pages xs) ≡ page_in pages (last_page xs)
last pages xs = ap (λ zs. slice_get zs 0) (reverse_pages pages xs) ∙ get_pages pages (reverse xs) 0

first : (pages : List ℕ) (b : Bool) (x : ℕ) (o p : Option ℕ) → o ≡ page_in pages p
    → cond b (Some (get_or pages x 0)) o ≡ page_in pages (cond b (Some x) p)
first pages true x o p e = refl
first pages false x o p e = e

find_pages : (pages : List ℕ) (test : ℕ → Bool) (xs : List ℕ)
    → find test (pages_at pages xs) ≡ page_in pages (find (λ n. test (get_or pages n 0)) xs)
find_pages pages test [] = refl
find_pages pages test (x ∷ xs) =
    first pages (test (get_or pages x 0)) x (find test (pages_at pages xs)) (find (λ n. test (get_or pages n 0)) xs)
    (find_pages pages test xs)

pub victim : (pages xs : List ℕ) (busy : ℕ → Bool)
    → last_not_busy (pages_at pages xs) busy ≡ page_in pages (last_not_busy xs (λ n. busy (get_or pages n 0)))
victim pages xs busy =
    ap (find (λ y. not (busy y))) (reverse_pages pages xs) ∙ find_pages pages (λ y. not (busy y)) (reverse xs)

before_pages : (names pages xs : List ℕ) (n : ℕ) → AreUndone names pages xs
    → get_or names (get_or pages n 0) 0 ≡ n + 1
    → prefix_len (λ y. not (eqb y (get_or pages n 0))) (pages_at pages xs) ≡ prefix_len (λ y. not (eqb y n)) xs
before_pages names pages [] n h k = refl
before_pages names pages (y ∷ ys) n h k =
    λ i. cond (not (same names pages y n (h y (front y ys)) k i))
    (1 + before_pages names pages ys n (rest names pages y ys h) k i) 0

drop_pages : (pages : List ℕ) (n : ℕ) (xs : List ℕ) → drop n (pages_at pages xs) ≡ pages_at pages (drop n xs)
drop_pages pages zero xs = refl
drop_pages pages (suc n) [] = refl
drop_pages pages (suc n) (x ∷ xs) = drop_pages pages n xs

pub next : (names pages xs : List ℕ) (n : ℕ) → AreUndone names pages xs
    → get_or names (get_or pages n 0) 0 ≡ n + 1
    → next_after (pages_at pages xs) (get_or pages n 0) ≡ page_in pages (next_after xs n)
next names pages xs n h k =
    ap (λ m. slice_get (drop (m + 1) (pages_at pages xs)) 0) (before_pages names pages xs n h k)
    ∙ ap (λ zs. slice_get zs 0) (drop_pages pages (prefix_len (λ y. not (eqb y n)) xs + 1) xs)
    ∙ get_pages pages (after_first (λ y. eqb y n) xs) 0

choose : (pages : List ℕ) (b : Bool) (ys fs gs : List ℕ) → fs ≡ pages_at pages gs
    → cond b (pages_at pages ys) fs ≡ pages_at pages (cond b ys gs)
choose pages true ys fs gs e = refl
choose pages false ys fs gs e = e

pub behind_page : (names pages xs : List ℕ) (n : ℕ) → AreUndone names pages xs
    → get_or names (get_or pages n 0) 0 ≡ n + 1
    → behind (pages_at pages xs) (get_or pages n 0) ≡ pages_at pages (behind xs n)
behind_page names pages [] n h k = refl
behind_page names pages (y ∷ ys) n h k =
    ap (λ b. cond b (pages_at pages ys) (behind (pages_at pages ys) (get_or pages n 0)))
    (same names pages y n (h y (front y ys)) k)
    ∙ choose pages (eqb y n) ys (behind (pages_at pages ys) (get_or pages n 0)) (behind ys n)
    (behind_page names pages ys n (rest names pages y ys h) k)

-- ---- a list without its last page

without-append : (xs ys : List ℕ) (p : ℕ) → times_in xs p ≡ 0 → without (xs ++ ys) p ≡ xs ++ without ys p
without-append [] ys p z = refl
without-append (x ∷ xs) ys p z = elim (eqb_tells x p) [
  | inl t ↦ let z' : 1 + times_in xs p ≡ 0 = rw t.0 at z in absurd (omega arith)
  | inr t ↦ let z' : 0 + times_in xs p ≡ 0 = rw t.0 at z in
      rw t.0 (ap (λ l. x ∷ l) (without-append xs ys p (omega arith)))
]

without-one : (p : ℕ) → without (p ∷ []) p ≡ []
without-one p = rw (eq-eqb p p refl) refl

pub append-none : (xs : List ℕ) → xs ++ [] ≡ xs
append-none [] = refl
append-none (x ∷ xs) = ap (λ l. x ∷ l) (append-none xs)

pub without-last : (xs : List ℕ) (p : ℕ) → last_page xs ≡ Some p → times_in xs p ≤ 1 → without xs p ≡ without_last xs
without-last xs p e once =
    let z : times_in (without_last xs) p ≡ 0 = omega (arith, times_in-last xs p p e, times_in-one p) in
    ap (λ l. without l p) (sym (last-some xs p e).whole)
    ∙ without-append (without_last xs) (p ∷ []) p z
    ∙ ap (λ l. without_last xs ++ l) (without-one p)
    ∙ append-none (without_last xs)

pub times_in-last_page : (xs : List ℕ) (p : ℕ) → last_page xs ≡ Some p → 1 ≤ times_in xs p
times_in-last_page xs p e = omega (arith, times_in-last xs p p e, times_in-one p)

pub forget-last_of : (s : FourLists) (l : ListName) (p : ℕ) → last_page (list_of s l) ≡ Some p → times_named s p ≤ 1
    → forget s p ≡ without_last_of s l
forget-last_of s T1 p e once =
    let one : 1 ≤ times_in s.t1 p = times_in-last_page s.t1 p e in
    let t1 : without s.t1 p ≡ without_last s.t1 = without-last s.t1 p e (omega arith) in
    let t2 : without s.t2 p ≡ s.t2 = without-absent s.t2 p (omega arith) in
    let b1 : without s.b1 p ≡ s.b1 = without-absent s.b1 p (omega arith) in
    let b2 : without s.b2 p ≡ s.b2 = without-absent s.b2 p (omega arith) in
    rw (t1, t2, b1, b2) refl
forget-last_of s T2 p e once =
    let one : 1 ≤ times_in s.t2 p = times_in-last_page s.t2 p e in
    let t1 : without s.t1 p ≡ s.t1 = without-absent s.t1 p (omega arith) in
    let t2 : without s.t2 p ≡ without_last s.t2 = without-last s.t2 p e (omega arith) in
    let b1 : without s.b1 p ≡ s.b1 = without-absent s.b1 p (omega arith) in
    let b2 : without s.b2 p ≡ s.b2 = without-absent s.b2 p (omega arith) in
    rw (t1, t2, b1, b2) refl
forget-last_of s B1 p e once =
    let one : 1 ≤ times_in s.b1 p = times_in-last_page s.b1 p e in
    let t1 : without s.t1 p ≡ s.t1 = without-absent s.t1 p (omega arith) in
    let t2 : without s.t2 p ≡ s.t2 = without-absent s.t2 p (omega arith) in
    let b1 : without s.b1 p ≡ without_last s.b1 = without-last s.b1 p e (omega arith) in
    let b2 : without s.b2 p ≡ s.b2 = without-absent s.b2 p (omega arith) in
    rw (t1, t2, b1, b2) refl
forget-last_of s B2 p e once =
    let one : 1 ≤ times_in s.b2 p = times_in-last_page s.b2 p e in
    let t1 : without s.t1 p ≡ s.t1 = without-absent s.t1 p (omega arith) in
    let t2 : without s.t2 p ≡ s.t2 = without-absent s.t2 p (omega arith) in
    let b1 : without s.b1 p ≡ s.b1 = without-absent s.b1 p (omega arith) in
    let b2 : without s.b2 p ≡ without_last s.b2 = without-last s.b2 p e (omega arith) in
    rw (t1, t2, b1, b2) refl

-- ---- the four lists together

pub last_stands : (s : FourLists) (l : ListName) (p : ℕ) → last_page (list_of s l) ≡ Some p → 1 ≤ times_named s p
last_stands s T1 p e = omega (arith, times_in-last_page s.t1 p e)
last_stands s T2 p e = omega (arith, times_in-last_page s.t2 p e)
last_stands s B1 p e = omega (arith, times_in-last_page s.b1 p e)
last_stands s B2 p e = omega (arith, times_in-last_page s.b2 p e)

pub list_of-lists_at : (count : ℕ) (pages : List ℕ) (s : FourLists) (l : ListName)
    → list_of (lists_at count pages s) l ≡ pages_at pages (list_of s l)
list_of-lists_at count pages s T1 = refl
list_of-lists_at count pages s T2 = refl
list_of-lists_at count pages s B1 = refl
list_of-lists_at count pages s B2 = refl

pub total-lists_at : (count : ℕ) (pages : List ℕ) (s : FourLists)
    → total_count (lists_at count pages s) ≡ total_count s
total-lists_at count pages s = omega (arith, long pages s.t1, long pages s.t2, long pages s.b1, long pages s.b2)

pub length-list_of : (s : FourLists) (l : ListName) → length (list_of s l) ≤ total_count s
length-list_of s T1 = omega arith
length-list_of s T2 = omega arith
length-list_of s B1 = omega arith
length-list_of s B2 = omega arith

pub length-list_at : (count : ℕ) (pages : List ℕ) (s : FourLists) (l : ListName)
    → length (list_of (lists_at count pages s) l) ≡ length (list_of s l)
length-list_at count pages s l = rw (list_of-lists_at count pages s l) (long pages (list_of s l))

-- The name of each page in the lists leads to its node.
abbrev pub AllUndone : List ℕ → List ℕ → FourLists → Type 0
AllUndone names pages s = (n : ℕ) → 1 ≤ times_named s n → get_or names (get_or pages n 0) 0 ≡ n + 1

module _ (count : ℕ) (names pages : List ℕ) (s : FourLists) (h : AllUndone names pages s) where
  abbrev lists : FourLists
  lists = lists_at count pages s

  pub in_t1 : AreUndone names pages s.t1
  in_t1 = λ n k. h n (omega arith)

  pub in_t2 : AreUndone names pages s.t2
  in_t2 = λ n k. h n (omega arith)

  pub in_b1 : AreUndone names pages s.b1
  in_b1 = λ n k. h n (omega arith)

  pub in_b2 : AreUndone names pages s.b2
  in_b2 = λ n k. h n (omega arith)

  pub in_list : (l : ListName) → AreUndone names pages (list_of s l)
  in_list T1 = in_t1
  in_list T2 = in_t2
  in_list B1 = in_b1
  in_list B2 = in_b2

  pub times_page : (n : ℕ) → get_or names (get_or pages n 0) 0 ≡ n + 1
      → times_named (lists_at count pages s) (get_or pages n 0) ≡ times_named s n
  times_page n k = omega (
    arith,
    times names pages s.t1 n in_t1 k,
    times names pages s.t2 n in_t2 k,
    times names pages s.b1 n in_b1 k,
    times names pages s.b2 n in_b2 k,
  )

  pub times_none : (x : ℕ) → get_or names x 0 ≡ 0 → times_named (lists_at count pages s) x ≡ 0
  times_none x z = omega (
    arith,
    nowhere names pages s.t1 x in_t1 z,
    nowhere names pages s.t2 x in_t2 z,
    nowhere names pages s.b1 x in_b1 z,
    nowhere names pages s.b2 x in_b2 z,
  )

  pub place_page : (n : ℕ) → get_or names (get_or pages n 0) 0 ≡ n + 1
      → place (lists_at count pages s) (get_or pages n 0) ≡ place s n
  place_page n k =
      λ i. cond (stands names pages s.t1 n in_t1 k i) (Some T1)
      (cond (stands names pages s.t2 n in_t2 k i) (Some T2)
      (cond (stands names pages s.b1 n in_b1 k i) (Some B1)
      (cond (stands names pages s.b2 n in_b2 k i) (Some B2) None)))

  pub forget_page : (n : ℕ) → get_or names (get_or pages n 0) 0 ≡ n + 1
      → lists_at count pages (forget s n) ≡ forget (lists_at count pages s) (get_or pages n 0)
  forget_page n k =
      λ i. record {
        c = length pages;
        pages = count;
        target = 0;
        t1 = sym (leaves names pages s.t1 n in_t1 k) i;
        t2 = sym (leaves names pages s.t2 n in_t2 k) i;
        b1 = sym (leaves names pages s.b1 n in_b1 k) i;
        b2 = sym (leaves names pages s.b2 n in_b2 k) i;
      }

  after_in : (n : ℕ) → get_or names (get_or pages n 0) 0 ≡ n + 1 → (o : Option ListName)
      → option_and_then (λ list. next_after (list_of (lists_at count pages s) list) (get_or pages n 0)) o
      ≡ page_in pages (option_and_then (λ list. next_after (list_of s list) n) o)
  after_in n k None = refl
  after_in n k (Some T1) = next names pages s.t1 n in_t1 k
  after_in n k (Some T2) = next names pages s.t2 n in_t2 k
  after_in n k (Some B1) = next names pages s.b1 n in_b1 k
  after_in n k (Some B2) = next names pages s.b2 n in_b2 k

  pub after_page : (n : ℕ) → get_or names (get_or pages n 0) 0 ≡ n + 1
      → after (lists_at count pages s) (get_or pages n 0) ≡ page_in pages (after s n)
  after_page n k =
      ap (option_and_then (λ list. next_after (list_of (lists_at count pages s) list) (get_or pages n 0)))
      (place_page n k) ∙ after_in n k (place s n)

pub forget_none : (s : FourLists) (x : ℕ) → times_named s x ≡ 0 → s ≡ forget s x
forget_none s x z =
    let t1 : without s.t1 x ≡ s.t1 = without-absent s.t1 x (omega arith) in
    let t2 : without s.t2 x ≡ s.t2 = without-absent s.t2 x (omega arith) in
    let b1 : without s.b1 x ≡ s.b1 = without-absent s.b1 x (omega arith) in
    let b2 : without s.b2 x ≡ s.b2 = without-absent s.b2 x (omega arith) in
    rw (t1, t2, b1, b2) refl

-- A free node gets a page and goes to the front.
pub put_page : (count : ℕ) (pages : List ℕ) (s : FourLists) (l : ListName) (n x : ℕ) → times_named s n ≡ 0
    → n < length pages
    → lists_at count (set pages n x) (with_front s l n) ≡ with_front (lists_at count pages s) l x
put_page count pages s l n x z low = go l
  where
    long_set : length (set pages n x) ≡ length pages
    long_set = length-set pages n x

    here : get_or (set pages n x) n 0 ≡ x
    here = get_or-set_same pages n x 0 low

    t1 : pages_at (set pages n x) s.t1 ≡ pages_at pages s.t1
    t1 = written pages s.t1 n x (omega arith)

    t2 : pages_at (set pages n x) s.t2 ≡ pages_at pages s.t2
    t2 = written pages s.t2 n x (omega arith)

    b1 : pages_at (set pages n x) s.b1 ≡ pages_at pages s.b1
    b1 = written pages s.b1 n x (omega arith)

    b2 : pages_at (set pages n x) s.b2 ≡ pages_at pages s.b2
    b2 = written pages s.b2 n x (omega arith)

    go : (l : ListName) → lists_at count (set pages n x) (with_front s l n) ≡ with_front (lists_at count pages s) l x
    go T1 = λ i. record {
      c = long_set i;
      pages = count;
      target = 0;
      t1 = here i ∷ t1 i;
      t2 = t2 i;
      b1 = b1 i;
      b2 = b2 i;
    }
    go T2 = λ i. record {
      c = long_set i;
      pages = count;
      target = 0;
      t1 = t1 i;
      t2 = here i ∷ t2 i;
      b1 = b1 i;
      b2 = b2 i;
    }
    go B1 = λ i. record {
      c = long_set i;
      pages = count;
      target = 0;
      t1 = t1 i;
      t2 = t2 i;
      b1 = here i ∷ b1 i;
      b2 = b2 i;
    }
    go B2 = λ i. record {
      c = long_set i;
      pages = count;
      target = 0;
      t1 = t1 i;
      t2 = t2 i;
      b1 = b1 i;
      b2 = here i ∷ b2 i;
    }

-- A node goes to the front with the page that it has.
pub with_front_page : (count : ℕ) (pages : List ℕ) (s : FourLists) (l : ListName) (n : ℕ)
    → lists_at count pages (with_front s l n) ≡ with_front (lists_at count pages s) l (get_or pages n 0)
with_front_page count pages s T1 n = refl
with_front_page count pages s T2 n = refl
with_front_page count pages s B1 n = refl
with_front_page count pages s B2 n = refl
