-- Lemmas on a walk over ARC's lists that drops pages as it goes on.
use Rattle.std.proofs.Common.{◌≡◌, ℕ, zero, suc, ◌+◌, ◌<◌, ◌≤◌, Bool, true, false, not, cond, eqb, List, [], ◌∷◌, ◌++◌}
use Rattle.std.proofs.Common.{length, take, drop, get_or, set, refl, ap, sym, ◌∙◌, arith, inl, inr, eq-eqb, get_or-set_other, length-append}
use Rattle.std.specs.Prelude.{Option, None, Some, is_some, IsSome, IsTrue, count_by, slice_get, ◌&&◌, ◌||◌}
use Rattle.std.specs.List.{filter}
use Rattle.std.specs.Option.{option_and_then}
use Rattle.std.proofs.Math.Bool.{or-true, and-true}
use Rattle.std.proofs.lemmas.Bool.{cases_lt, cases_Bool, cases_eq}
use Rattle.std.proofs.lemmas.Bool.Decides.{eqb_tells}
use Rattle.std.proofs.lemmas.List.{get_or_past, take_all}
use Rattle.std.proofs.lemmas.List.Elements.{filter-append}
use Rattle.pp_arc.specs.declared.list.List.{List as ListName}
use Rattle.pp_arc.specs.declared.list.List.TheVariants.{T1, T2, B1, B2}
use Rattle.pp_arc.specs.Pages.{contains, times_in, next_after}
use Rattle.pp_arc.specs.FourLists.{FourLists, list_of, cached_count, is_cached, place, after}
use Rattle.pp_arc.specs.Bounds.{IsWithinBounds}
use Rattle.pp_arc.proofs.PageLemmas.{times_in-contains, contains-times_in}
use Rattle.pp_arc.proofs.SizeLemmas.{times_in-append}
use Rattle.pp_cache.specs.declared.resident.Resident.{Resident}
use Rattle.pp_cache.specs.declared.leaving.Leaving.{Leaving}
use Rattle.pp_cache.specs.declared.leaving.Leaving.TheVariants.{From, Idle}
use Rattle.pp_cache.specs.Frames.{FrameMap, page_of, is_held, resident_count}
use Rattle.pp_cache.specs.Cache.{PageCache, dropped, lists_where, KeepsOnly, is_idle, stays, IsSound}
use Rattle.pp_cache.proofs.FrameLemmas.{one_for, count-set}
use Rattle.pp_cache.proofs.CacheLemmas.{contains-first, times_in-list, filter_pass, filter_twice, keeps_all, keeps_fewer, keeps_on, keeps_alike}
use Rattle.pp_cache.proofs.LawLemmas.{contains-append, idle_cached}

-- ---- one list, of which the test lets through all that is still to come

not-contains-filter : (p : ℕ → Bool) (xs : List ℕ) (k : ℕ) → contains xs k ≡ false → contains (filter p xs) k ≡ false
not-contains-filter p [] k h = refl
not-contains-filter p (x ∷ xs) k h = elim (eqb_tells x k) [
  | inl t ↦ let n : true ≡ false = rw t.0 at h in absurd (cc)
  | inr t ↦ let h' : contains xs k ≡ false = rw t.0 at h in go (p x) t.0 (not-contains-filter p xs k h')
]
  where
    go : (b : Bool) → eqb x k ≡ false → contains (filter p xs) k ≡ false
        → contains (cond b (x ∷ filter p xs) (filter p xs)) k ≡ false
    go true other rest = rw other rest
    go false other rest = rest

contains-filter : (p : ℕ → Bool) (xs : List ℕ) (k : ℕ) → contains xs k ≡ true → p k ≡ true
    → contains (filter p xs) k ≡ true
contains-filter p [] k h pass = absurd (cc)
contains-filter p (x ∷ xs) k h pass = elim (eqb_tells x k) [
  | inl t ↦ let here : p x ≡ true = ap p t.1 ∙ pass in rw (here, t.0) refl
  | inr t ↦ let h' : contains xs k ≡ true = rw t.0 at h in go (p x) (contains-filter p xs k h' pass)
]
  where
    go : (b : Bool) → contains (filter p xs) k ≡ true → contains (cond b (x ∷ filter p xs) (filter p xs)) k ≡ true
    go true rest = ap (λ b. eqb x k || b) rest ∙ or-true (eqb x k)
    go false rest = rest

shift : (y : ℕ) (ys : List ℕ) (k : ℕ) → slice_get (drop (1 + k + 1) (y ∷ ys)) 0 ≡ slice_get (drop (k + 1) ys) 0
shift y ys k = let e : 1 + k + 1 ≡ suc (k + 1) = omega arith in rw e refl

-- the page after one that stands there once
next-passed : (xs ys : List ℕ) (k : ℕ) → contains xs k ≡ false → next_after (xs ++ k ∷ ys) k ≡ slice_get ys 0
next-passed [] ys k h = rw (eq-eqb k k refl) refl
next-passed (x ∷ xs) ys k h = elim (eqb_tells x k) [
  | inl t ↦ let n : true ≡ false = rw t.0 at h in absurd (cc)
  | inr t ↦ let h' : contains xs k ≡ false = rw t.0 at h in rw t.0 (shift x (xs ++ k ∷ ys) _ ∙ next-passed xs ys k h')
]

-- a list in which none stands twice, in two parts
passed-not : (xs ys : List ℕ) (y : ℕ) → times_in (xs ++ ys) y ≤ 1 → contains ys y ≡ true → contains xs y ≡ false
passed-not xs ys y once here =
    contains-times_in xs y (omega (arith, once, times_in-append xs ys y, times_in-contains ys y here))

filter_parts : (p : ℕ → Bool) (xs ys : List ℕ) → ((y : ℕ) → times_in (xs ++ ys) y ≤ 1)
    → ((y : ℕ) → contains xs y ≡ false → p y ≡ true) → filter p (xs ++ ys) ≡ filter p xs ++ ys
filter_parts p xs ys once pass = filter-append p xs ys
    ∙ ap (λ l. filter p xs ++ l) (filter_pass p ys (λ y here. pass y (passed-not xs ys y (once y) here)))

-- what stands next in the filtered list
next-filtered : (p : ℕ → Bool) (xs ys : List ℕ) (k : ℕ) → ((y : ℕ) → times_in (xs ++ k ∷ ys) y ≤ 1)
    → ((y : ℕ) → contains xs y ≡ false → p y ≡ true) → next_after (filter p (xs ++ k ∷ ys)) k ≡ slice_get ys 0
next-filtered p xs ys k once pass =
    ap (λ l. next_after l k) (filter_parts p xs (k ∷ ys) once pass)
    ∙ next-passed (filter p xs) ys k
    (not-contains-filter p xs k (passed-not xs (k ∷ ys) k (once k) (contains-first k ys)))

-- a list by its place: what was passed, the page here, and what is still to come
split_at : (l : List ℕ) (i k : ℕ) → slice_get l i ≡ Some k → l ≡ take i l ++ k ∷ drop (i + 1) l
split_at [] i k e = absurd (cc)
split_at (x ∷ xs) zero k e = let same : x ≡ k = cc in ap (λ y. y ∷ xs) same
split_at (x ∷ xs) (suc i) k e =
    let on : suc i + 1 ≡ suc (i + 1) = omega arith in rw on (ap (λ l. x ∷ l) (split_at xs i k e))

get_next : (l : List ℕ) (i : ℕ) → slice_get (drop i l) 0 ≡ slice_get l i
get_next [] zero = refl
get_next [] (suc i) = refl
get_next (x ∷ xs) zero = refl
get_next (x ∷ xs) (suc i) = get_next xs i

take_next : (l : List ℕ) (i k : ℕ) → slice_get l i ≡ Some k → take (i + 1) l ≡ take i l ++ k ∷ []
take_next [] i k e = absurd (cc)
take_next (x ∷ xs) zero k e = let same : x ≡ k = cc in ap (λ y. y ∷ []) same
take_next (x ∷ xs) (suc i) k e =
    let on : suc i + 1 ≡ suc (i + 1) = omega arith in rw on (ap (λ l. x ∷ l) (take_next xs i k e))

pub none_past : (l : List ℕ) (i : ℕ) → slice_get l i ≡ None → length l ≤ i
none_past [] i e = omega arith
none_past (x ∷ xs) zero e = absurd (cc)
none_past (x ∷ xs) (suc i) e = omega (arith, none_past xs i e)

-- ---- one of the four lists

list_of-where : (p : ℕ → Bool) (s : FourLists) (list : ListName) → list_of (lists_where p s) list ≡ filter p (list_of s list)
list_of-where p s T1 = refl
list_of-where p s T2 = refl
list_of-where p s B1 = refl
list_of-where p s B2 = refl

once_in : (s : FourLists) (list : ListName) → IsWithinBounds s → (y : ℕ) → times_in (list_of s list) y ≤ 1
once_in s list h y = omega (arith, times_in-list s list y, h.once y)

-- a page stands in one list alone
place-in : (s : FourLists) (list : ListName) (k : ℕ) → IsWithinBounds s → contains (list_of s list) k ≡ true
    → place s k ≡ Some list
place-in s T1 k h here = rw here refl
place-in s T2 k h here =
    let a : contains s.t1 k ≡ false = contains-times_in s.t1 k (omega (arith, h.once k, times_in-contains s.t2 k here)) in
    rw (a, here) refl
place-in s B1 k h here =
    let n : 1 ≤ times_in s.b1 k = times_in-contains s.b1 k here in
    let a : contains s.t1 k ≡ false = contains-times_in s.t1 k (omega (arith, h.once k, n)) in
    let b : contains s.t2 k ≡ false = contains-times_in s.t2 k (omega (arith, h.once k, n)) in
    rw (a, b, here) refl
place-in s B2 k h here =
    let n : 1 ≤ times_in s.b2 k = times_in-contains s.b2 k here in
    let a : contains s.t1 k ≡ false = contains-times_in s.t1 k (omega (arith, h.once k, n)) in
    let b : contains s.t2 k ≡ false = contains-times_in s.t2 k (omega (arith, h.once k, n)) in
    let d : contains s.b1 k ≡ false = contains-times_in s.b1 k (omega (arith, h.once k, n)) in
    rw (a, b, d, here) refl

-- ---- a walk

-- what passes once so many of the list were looked at
abbrev pub passes : (ℕ → Bool) → List ℕ → ℕ → ℕ → Bool
passes base l i k = base k || not (contains (take i l) k)

passes-other : (base : ℕ → Bool) (l : List ℕ) (i y : ℕ) → contains (take i l) y ≡ false → passes base l i y ≡ true
passes-other base l i y none = ap (λ b. base y || not b) none ∙ or-true (base y)

-- the next page wasn't looked at
not_passed : (l : List ℕ) (i k : ℕ) → times_in l k ≤ 1 → slice_get l i ≡ Some k → contains (take i l) k ≡ false
not_passed l i k once e =
    passed-not (take i l) (k ∷ drop (i + 1) l) k (rw (← split_at l i k e) once) (contains-first k (drop (i + 1) l))

pub walk-start : (base : ℕ → Bool) (l : List ℕ) (s : PageCache) → KeepsOnly (passes base l 0) s s
walk-start base l s = keeps_all (passes base l 0) s (λ y. or-true (base y))

pub walk-next : (base : ℕ → Bool) (s t : PageCache) (list : ListName) (i k : ℕ)
    → KeepsOnly (passes base (list_of s.lists list) i) s t → IsSound s → IsSound t
    → slice_get (list_of s.lists list) i ≡ Some k → after t.lists k ≡ slice_get (list_of s.lists list) (i + 1)
walk-next base s t list i k h sound sound' e =
    ap (λ p. option_and_then (λ name. next_after (list_of t.lists name) k) p) placed
    ∙ ap (λ l. next_after l k) (filtered ∙ ap (filter p) (split_at l i k e))
    ∙ next-filtered p (take i l) (drop (i + 1) l) k once' (passes-other base l i) ∙ get_next l (i + 1)
  where
    l : List ℕ
    l = list_of s.lists list

    p : ℕ → Bool
    p = passes base l i

    filtered : list_of t.lists list ≡ filter p l
    filtered = ap (λ w. list_of w list) h.lists ∙ list_of-where p s.lists list

    once' : (y : ℕ) → times_in (take i l ++ k ∷ drop (i + 1) l) y ≤ 1
    once' y = rw (← split_at l i k e) (once_in s.lists list sound.bounds y)

    there : contains l k ≡ true
    there = ap (λ w. contains w k) (split_at l i k e) ∙ contains-append (take i l) (k ∷ drop (i + 1) l) k
        ∙ ap (λ b. contains (take i l) k || b) (contains-first k (drop (i + 1) l)) ∙ or-true (contains (take i l) k)

    placed : place t.lists k ≡ Some list
    placed = place-in t.lists list k sound'.bounds
        (ap (λ w. contains w k) filtered
        ∙ contains-filter p l k there (passes-other base l i k (not_passed l i k (once_in s.lists list sound.bounds k) e)))

passes-next : (base : ℕ → Bool) (l : List ℕ) (i k y : ℕ) → slice_get l i ≡ Some k
    → passes base l (i + 1) y ≡ (base y || not (contains (take i l) y || (eqb k y || false)))
passes-next base l i k y e = ap (λ w. base y || not (contains w y)) (take_next l i k e)
    ∙ ap (λ b. base y || not b) (contains-append (take i l) (k ∷ []) y)

-- a page is dropped where it doesn't pass the test
walk-step : (base : ℕ → Bool) (s t u : PageCache) (l : List ℕ) (i k : ℕ) → KeepsOnly (passes base l i) s t
    → slice_get l i ≡ Some k → u ≡ cond (base k) t (dropped t k) → KeepsOnly (passes base l (i + 1)) s u
walk-step base s t u l i k h e same = go (base k) refl
  where
    out : (a b d : Bool) → (a || not (b || (d || false))) ≡ ((a || not b) && (a || not d))
    out true b d = refl
    out false true d = refl
    out false false true = refl
    out false false false = refl

    flip : (y : ℕ) → base k ≡ false → (base y || not (eqb k y)) ≡ not (eqb y k)
    flip y f = elim (eqb_tells y k) [
      | inl t ↦ rw (t.0, eq-eqb k y (sym t.1)) (ap (λ b. b || false) (ap base t.1 ∙ f))
      | inr t ↦ rw t.0 (elim (eqb_tells k y) [
        | inl w ↦ absurd (t.1 (sym w.1))
        | inr w ↦ rw w.0 (or-true (base y))
      ])
    ]

    stays : (y : ℕ) → base k ≡ true → (base y || not (eqb k y)) ≡ true
    stays y f = elim (eqb_tells k y) [
      | inl w ↦ rw w.0 (ap (λ b. b || false) (sym (ap base w.1) ∙ f))
      | inr w ↦ rw w.0 (or-true (base y))
    ]

    next : (y : ℕ) → passes base l (i + 1) y ≡ (passes base l i y && (base y || not (eqb k y)))
    next y = passes-next base l i k y e ∙ out (base y) (contains (take i l) y) (eqb k y)

    go : (b : Bool) → base k ≡ b → KeepsOnly (passes base l (i + 1)) s u
    go false f = keeps_fewer (passes base l i) (passes base l (i + 1)) s t u k h
        (same ∙ ap (λ b. cond b t (dropped t k)) f)
        (λ y. next y ∙ ap (λ b. passes base l i y && b) (flip y f))
    go true f =
        let stay : u ≡ t = same ∙ ap (λ b. cond b t (dropped t k)) f in
        rw stay (keeps_alike (passes base l i) (passes base l (i + 1)) s t h
        (λ y. sym (next y ∙ ap (λ b. passes base l i y && b) (stays y f) ∙ and-true (passes base l i y))))

stays-same : (leaving : Leaving) (m n : FrameMap) (k : ℕ) → page_of m k ≡ page_of n k
    → stays leaving m k ≡ stays leaving n k
stays-same (From limit) m n k e = refl
stays-same Idle m n k e = ap (λ o. not (is_some o && not (is_held o))) e

-- the same, where a page of the cache as it is now is tested: the walk hasn't changed it
pub walk-leaving : (leaving : Leaving) (s t u : PageCache) (list : ListName) (i k : ℕ)
    → KeepsOnly (passes (stays leaving s.table) (list_of s.lists list) i) s t → IsSound s
    → slice_get (list_of s.lists list) i ≡ Some k → u ≡ cond (stays leaving t.table k) t (dropped t k)
    → KeepsOnly (passes (stays leaving s.table) (list_of s.lists list) (i + 1)) s u
walk-leaving leaving s t u list i k h sound e same =
    walk-step base s t u l i k h e
    (same ∙ ap (λ b. cond b t (dropped t k)) (stays-same leaving t.table s.table k page))
  where
    base : ℕ → Bool
    base = stays leaving s.table

    l : List ℕ
    l = list_of s.lists list

    page : page_of t.table k ≡ page_of s.table k
    page = h.pages k ∙ ap (λ b. cond b (page_of s.table k) None)
        (passes-other base l i k (not_passed l i k (once_in s.lists list sound.bounds k) e))

pub walk-end : (base : ℕ → Bool) (s t : PageCache) (l : List ℕ) (i : ℕ) → KeepsOnly (passes base l i) s t
    → length l ≤ i → KeepsOnly (λ k. base k || not (contains l k)) s t
walk-end base s t l i h past = keeps_alike (passes base l i) (λ k. base k || not (contains l k)) s t h
    (λ y. ap (λ w. base y || not (contains w y)) (take_all i l past))

-- ---- four walks

keeps_then : (p q : ℕ → Bool) (s t u : PageCache) → KeepsOnly p s t → KeepsOnly q t u
    → KeepsOnly (λ k. p k && q k) s u
keeps_then p q s t u h g = record {
  lists = g.lists ∙ ap (lists_where q) h.lists ∙ four;
  pages = λ k. g.pages k ∙ ap (λ o. cond (q k) o None) (h.pages k) ∙ both (p k) (q k) (page_of s.table k);
  frames = g.frames ∙ h.frames;
}
  where
    four : lists_where q (lists_where p s.lists) ≡ lists_where (λ k. p k && q k) s.lists
    four = rw (
      filter_twice p q (λ k. p k && q k) (λ y. refl) s.lists.t1,
      filter_twice p q (λ k. p k && q k) (λ y. refl) s.lists.t2,
      filter_twice p q (λ k. p k && q k) (λ y. refl) s.lists.b1,
      filter_twice p q (λ k. p k && q k) (λ y. refl) s.lists.b2,
    ) refl

    both : (a b : Bool) (o : Option Resident) → cond b (cond a o None) None ≡ cond (a && b) o None
    both true true o = refl
    both true false o = refl
    both false true o = refl
    both false false o = refl

-- what passes a walk over this list of the cache
abbrev pub walked : (ℕ → Bool) → PageCache → ListName → ℕ → Bool
walked base s list k = base k || not (contains (list_of s.lists list) k)

-- a page of the list that doesn't pass is gone behind the walk
gone : (base p : ℕ → Bool) (s t : PageCache) (list : ListName) (k : ℕ) → KeepsOnly p s t → base k ≡ false
    → contains (list_of s.lists list) k ≡ true → (p k && walked base t list k) ≡ false
gone base p s t list k h out there = go (p k) refl
  where
    go : (b : Bool) → p k ≡ b → (b && walked base t list k) ≡ false
    go false e = refl
    go true e =
        let here : contains (list_of t.lists list) k ≡ true =
        ap (λ w. contains (list_of w list) k) h.lists ∙ ap (λ w. contains w k) (list_of-where p s.lists list)
        ∙ contains-filter p (list_of s.lists list) k there e in
        ap (λ b. b || not (contains (list_of t.lists list) k)) out ∙ ap not here

-- each page that stands in a frame is one of T1 or T2
abbrev pub AllCached : PageCache → Type 0
AllCached s = (k : ℕ) → IsSome (page_of s.table k) → IsTrue (is_cached s.lists k)

pub four_walks : (base : ℕ → Bool) (s a b d e : PageCache) → AllCached s → KeepsOnly (walked base s T1) s a
    → KeepsOnly (walked base a T2) a b → KeepsOnly (walked base b B1) b d → KeepsOnly (walked base d B2) d e
    → KeepsOnly base s e
four_walks base s a b d e cached ha hb hd he = keeps_on p4 base s e h4 named paged
  where
    p2 : ℕ → Bool
    p2 = λ k. walked base s T1 k && walked base a T2 k

    p3 : ℕ → Bool
    p3 = λ k. p2 k && walked base b B1 k

    p4 : ℕ → Bool
    p4 = λ k. p3 k && walked base d B2 k

    h2 : KeepsOnly p2 s b
    h2 = keeps_then (walked base s T1) (walked base a T2) s a b ha hb

    h3 : KeepsOnly p3 s d
    h3 = keeps_then p2 (walked base b B1) s b d h2 hd

    h4 : KeepsOnly p4 s e
    h4 = keeps_then p3 (walked base d B2) s d e h3 he

    kept : (k : ℕ) → base k ≡ true → p4 k ≡ true
    kept k t = ap (λ v. (((v || not (contains s.lists.t1 k)) && (v || not (contains a.lists.t2 k)))
        && (v || not (contains b.lists.b1 k))) && (v || not (contains d.lists.b2 k))) t

    from1 : (k : ℕ) → walked base s T1 k ≡ false → p4 k ≡ false
    from1 k f = ap (λ v. ((v && walked base a T2 k) && walked base b B1 k) && walked base d B2 k) f

    from2 : (k : ℕ) → p2 k ≡ false → p4 k ≡ false
    from2 k f = ap (λ v. (v && walked base b B1 k) && walked base d B2 k) f

    from3 : (k : ℕ) → p3 k ≡ false → p4 k ≡ false
    from3 k f = ap (λ v. v && walked base d B2 k) f

    lost : (list : ListName) (k : ℕ) → base k ≡ false → contains (list_of s.lists list) k ≡ true → p4 k ≡ false
    lost T1 k f h = from1 k (ap (λ v. v || not (contains s.lists.t1 k)) f ∙ ap not h)
    lost T2 k f h = from2 k (gone base (walked base s T1) s a T2 k ha f h)
    lost B1 k f h = from3 k (gone base p2 s b B1 k h2 f h)
    lost B2 k f h = gone base p3 s d B2 k h3 f h

    named : (list : ListName) (y : ℕ) → contains (list_of s.lists list) y ≡ true → p4 y ≡ base y
    named list y h = elim (cases_Bool (base y)) [
      | inl t ↦ kept y t ∙ sym t
      | inr f ↦ lost list y f h ∙ sym f
    ]

    paged : (y : ℕ) → IsSome (page_of s.table y) → p4 y ≡ base y
    paged y some = elim (cases_Bool (contains s.lists.t1 y)) [
      | inl t ↦ named T1 y t
      | inr f ↦ named T2 y (sym (ap (λ v. v || contains s.lists.t2 y) f) ∙ cached y some)
    ]

-- an idle page is one of T1 or T2, so two walks find each
pub two_walks : (s a b : PageCache) → IsSound s → KeepsOnly (walked (stays Idle s.table) s T1) s a
    → KeepsOnly (walked (stays Idle a.table) a T2) a b → KeepsOnly (stays Idle s.table) s b
two_walks s a b sound ha hb =
    keeps_alike (λ k. p k && q k) (stays Idle s.table) s b (keeps_then p q s a b ha hb) test
  where
    p : ℕ → Bool
    p = walked (stays Idle s.table) s T1

    q : ℕ → Bool
    q = walked (stays Idle a.table) a T2

    same : (k : ℕ) → p k ≡ true → is_idle a.table k ≡ is_idle s.table k
    same k pass = ap (λ o. is_some o && not (is_held o))
        (ha.pages k ∙ ap (λ v. cond v (page_of s.table k) None) pass)

    test : (k : ℕ) → (p k && q k) ≡ stays Idle s.table k
    test k = elim (cases_Bool (is_idle s.table k)) [
      | inl t ↦ elim (cases_Bool (contains s.lists.t1 k)) [
        | inl here ↦ rw (t, here) refl
        | inr other ↦
            let pass : p k ≡ true = rw (t, other) refl in
            let cached : contains s.lists.t2 k ≡ true =
            sym (ap (λ v. v || contains s.lists.t2 k) other) ∙ idle_cached s sound k t in
            let here : contains a.lists.t2 k ≡ true =
            ap (λ w. contains (list_of w T2) k) ha.lists ∙ contains-filter p s.lists.t2 k cached pass in
            ap (λ v. v && q k) pass ∙ ap (λ v. not v || not (contains a.lists.t2 k)) (same k pass ∙ t)
            ∙ ap not here ∙ sym (ap not t)
      ]
      | inr f ↦
          let pass : p k ≡ true = ap (λ v. not v || not (contains s.lists.t1 k)) f in
          ap (λ v. v && q k) pass ∙ ap (λ v. not v || not (contains a.lists.t2 k)) (same k pass ∙ f) ∙ sym (ap not f)
    ]

-- ---- as many pages are cached as stand in frames

many : (xs : List ℕ) (pages : List (Option Resident)) → ((y : ℕ) → times_in xs y ≤ 1)
    → ((y : ℕ) → contains xs y ≡ true → is_some (get_or pages y None) ≡ true) → length xs ≤ count_by is_some pages
many [] pages once here = omega arith
many (x ∷ xs) pages once here = omega (
  arith,
  count-set is_some pages x None (below x (here x (contains-first x xs))),
  ap one_for (here x (contains-first x xs)),
  many xs (set pages x None) (λ y. omega (arith, once y)) still,
)
  where
    below : (x : ℕ) → is_some (get_or pages x None) ≡ true → x < length pages
    below x some = elim (cases_lt x (length pages)) [
      | inl lt ↦ lt
      | inr le ↦ let n : false ≡ true = sym (ap is_some (get_or_past pages x None le)) ∙ some in absurd (cc)
    ]

    still : (y : ℕ) → contains xs y ≡ true → is_some (get_or (set pages x None) y None) ≡ true
    still y h = elim (eqb_tells x y) [
      | inl t ↦ absurd (omega (arith, once y, times_in-contains xs y h, ap one_for t.0))
      | inr t ↦ ap is_some (get_or-set_other pages x y None None (λ w. t.1 (sym w)))
          ∙ here y (ap (λ b. b || contains xs y) t.0 ∙ h)
    ]

all_of : (xs : List ℕ) (pages : List (Option Resident)) (k : ℕ) → ((y : ℕ) → times_in xs y ≤ 1)
    → ((y : ℕ) → contains xs y ≡ true → is_some (get_or pages y None) ≡ true) → length xs ≡ count_by is_some pages
    → is_some (get_or pages k None) ≡ true → contains xs k ≡ true
all_of xs pages k once here counts some = elim (cases_Bool (contains xs k)) [
  | inl e ↦ e
  | inr e ↦ absurd (omega (
    arith,
    counts,
    count-set is_some pages k None low,
    ap one_for some,
    many xs (set pages k None) once (still e),
  ))
]
  where
    low : k < length pages
    low = elim (cases_lt k (length pages)) [
      | inl lt ↦ lt
      | inr le ↦ let n : false ≡ true = sym (ap is_some (get_or_past pages k None le)) ∙ some in absurd (cc)
    ]

    still : contains xs k ≡ false → (y : ℕ) → contains xs y ≡ true
        → is_some (get_or (set pages k None) y None) ≡ true
    still out y h = elim (cases_eq y k) [
      | inl e ↦ let n : contains xs k ≡ true = rw e at h in absurd (cc)
      | inr ne ↦ ap is_some (get_or-set_other pages k y None None ne) ∙ here y h
    ]

pub all_cached : (s : PageCache) → IsSound s → resident_count s.table ≡ cached_count s.lists → AllCached s
all_cached s h counts k some = sym (contains-append s.lists.t1 s.lists.t2 k) ∙ all_of (s.lists.t1 ++ s.lists.t2)
    s.table.pages k (λ y. omega (arith, h.bounds.once y, times_in-append s.lists.t1 s.lists.t2 y))
    (λ y t. h.together.cached_has_frame y (sym (contains-append s.lists.t1 s.lists.t2 y) ∙ t))
    (omega (arith, counts, length-append s.lists.t1 s.lists.t2)) some
