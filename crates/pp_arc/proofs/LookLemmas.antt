-- Lemmas on what is read off the links: a page's list and neighbours, the last page, and the search for a victim.
use Rattle.std.proofs.Common.{◌≡◌, ◌≢◌, ℕ, ◌+◌, ◌-◌, ◌≤◌, ◌<◌, zero, suc, Bool, true, false, not, List, [], ◌∷◌, ◌++◌}
use Rattle.std.proofs.Common.{length, drop, reverse, get_or, refl, arith, ap, sym, ◌∙◌, inl, inr, eq-eqb}
use Rattle.std.specs.Prelude.{Some, None, slice_get, nat_lt}
use Rattle.std.specs.List.{find}
use Rattle.std.proofs.lemmas.Bool.{cases_lt, cases_Bool, lt-ltb, ltb-true}
use Rattle.std.proofs.lemmas.Bool.Decides.{eqb_tells}
use Rattle.std.proofs.lemmas.List.{length-reverse}
use Rattle.std.proofs.lemmas.Grind.{reverse_onto}
use Rattle.pp_arc.specs.declared.list.List.{List as ListName}
use Rattle.pp_arc.specs.declared.list.List.TheVariants.{T1, T2, B1, B2}
use Rattle.pp_arc.specs.declared.links.Record.{Record}
use Rattle.pp_arc.specs.Pages.{times_in, without, without_last, next_after, last_not_busy, last_page}
use Rattle.pp_arc.specs.FourLists.{FourLists, list_of, place, after}
use Rattle.pp_arc.specs.Figure.{forget}
use Rattle.pp_arc.specs.Links.{code, page_at, without_last_of}
use Rattle.pp_arc.specs.Table.{Content, Table, Linked, IsSound, head_at, table_of, blank, lists_in, follow}
use Rattle.pp_arc.proofs.RingLemmas.{times_in-front, follow-Linked, Linked-after, without-absent}
use Rattle.pp_arc.proofs.ListLemmas.{code_below}
use Rattle.pp_arc.proofs.TableLemmas.{absent, once, tag_of, neighbours}
use Rattle.pp_arc.proofs.WriteLemmas.{read}
use Rattle.pp_arc.proofs.LinkLemmas.{place-Shows, tagged-in_range, count_is}

-- the list of a page
pub place_at : (d : Content) (s : FourLists) (x : ℕ) (o : Record) → IsSound d → lists_in d ≡ s → x < s.pages
    → o ≡ get_or d.records x o → o.list ≡ place s x
place_at d s x o h view low eo =
    let low' : x < d.pages = rw (← view) at low in
    let lx : x < length d.records = omega (arith, h.size) in
    ap (λ (w : Record). w.list) (read d.records x o lx eo) ∙
    (rw (← view) (sym (place-Shows (table_of d.pages d.records) (lists_in d) x h.shows low')))

-- at a page and past the pages
pub page_below : (pages i : ℕ) → i < pages → page_at pages i ≡ Some i
page_below pages i lt = rw (lt-ltb i pages lt) refl

pub page_past : (pages i : ℕ) → pages ≤ i → page_at pages i ≡ None
page_past pages i ge = elim (cases_Bool (nat_lt i pages)) [
  | inl e ↦ absurd (omega (arith, ltb-true i pages e))
  | inr e
      ↦ rw e refl
]

-- the first page of a row
pub front-Linked : (pages : ℕ) (n p : ℕ → ℕ) (xs : List ℕ) (a b : ℕ) → ((i : ℕ) → 1 ≤ times_in xs i → i < pages)
    → pages ≤ b
    → Linked n p a xs b → page_at pages (n a) ≡ slice_get xs 0
front-Linked pages n p [] a b all past h = rw h.0 (page_past pages b past)
front-Linked pages n p (x ∷ xs) a b all past h = rw h.0
    (page_below pages x (all x (omega (arith, times_in-front x xs))))

pub shift : (y : ℕ) (ys : List ℕ) (k : ℕ) → slice_get (drop (1 + k + 1) (y ∷ ys)) 0 ≡ slice_get (drop (k + 1) ys) 0
shift y ys k = let e : 1 + k + 1 ≡ suc (k + 1) = omega arith in rw e refl

-- the page after one of a row
pub next_after-Linked : (pages : ℕ) (n p : ℕ → ℕ) (xs : List ℕ) (a b x : ℕ) → ((i : ℕ) → 1 ≤ times_in xs i → i < pages)
    → pages ≤ b
    → Linked n p a xs b → 1 ≤ times_in xs x → page_at pages (n x) ≡ next_after xs x
next_after-Linked pages n p [] a b x all past h s = absurd (omega arith)
next_after-Linked pages n p (y ∷ ys) a b x all past h s =
    elim (eqb_tells y x) [
      | inl t ↦ rw (t.0, ← t.1) (front-Linked pages n p ys y b (λ i k. all i (omega arith)) past h.2)
      | inr t ↦ let s' : 1 ≤ 0 + times_in ys x = rw t.0 at s in
          rw t.0 (next_after-Linked pages n p ys y b x (λ i k. all i (omega arith)) past h.2 (omega arith) ∙ sym
          (shift y ys _))
    ]

-- a row backwards
pub Linked-more : (n p : ℕ → ℕ) (xs : List ℕ) (a x b : ℕ) → Linked n p a xs x → n x ≡ b → p b ≡ x
    → Linked n p a (xs ++ x ∷ []) b
Linked-more n p [] a x b h e f = (h.0, h.1, (e, f))
Linked-more n p (y ∷ ys) a x b h e f = (h.0, h.1, Linked-more n p ys y x b h.2 e f)

pub Linked-reverse : (n p : ℕ → ℕ) (xs : List ℕ) (a b : ℕ) → Linked n p a xs b → Linked p n b (reverse xs) a
Linked-reverse n p [] a b h = (h.1, h.0)
Linked-reverse n p (x ∷ xs) a b h = rw (reverse_onto xs x [])
    (Linked-more p n (reverse xs) b x a (Linked-reverse n p xs x b h.2) h.1 h.0)

times_in-append : (xs ys : List ℕ) (i : ℕ) → times_in (xs ++ ys) i ≡ times_in xs i + times_in ys i
times_in-append [] ys i = omega arith
times_in-append (x ∷ xs) ys i = omega (arith, times_in-append xs ys i)

pub times_in-reverse : (xs : List ℕ) (i : ℕ) → times_in (reverse xs) i ≡ times_in xs i
times_in-reverse [] i = refl
times_in-reverse (x ∷ xs) i = rw (reverse_onto xs x [], times_in-append (reverse xs) (x ∷ []) i)
    (omega (arith, times_in-reverse xs i))

-- what stands in a list is a page
pub below : (d : Content) (l : ListName) (i : ℕ) → IsSound d → 1 ≤ times_in (list_of (lists_in d) l) i → i < d.pages
below d l i h one = elim (h.shows.stands l i) [ inl z ↦ absurd (omega arith) | inr w ↦ w.2 ]

-- the ring of a list, backwards
back_ring : (d : Content) (l : ListName) → IsSound d
    → Linked (table_of d.pages d.records).before (table_of d.pages d.records).after (head_at d.pages l)
    (reverse (list_of (lists_in d) l)) (head_at d.pages l)
back_ring d l h = Linked-reverse (table_of d.pages d.records).after (table_of d.pages d.records).before
    (list_of (lists_in d) l) (head_at d.pages l) (head_at d.pages l) (h.shows.rings l)

back_below : (d : Content) (l : ListName) (i : ℕ) → IsSound d → 1 ≤ times_in (reverse (list_of (lists_in d) l)) i
    → i < d.pages
back_below d l i h one = below d l i h (rw (times_in-reverse (list_of (lists_in d) l) i) at one)

-- what a head leads to
pub front_at : (d : Content) (s : FourLists) (l : ListName) (k : ℕ) (o : Record) → IsSound d → lists_in d ≡ s
    → k ≡ code l → o ≡ get_or d.records (d.pages + k) o
    → page_at s.pages o.after ≡ slice_get (list_of s l) 0
front_at d s l k o h view ck eo =
    let t : Table = table_of d.pages d.records in
    let e : o ≡ get_or d.records (head_at d.pages l) blank = read d.records (head_at d.pages l) o
    (omega (arith, h.size, code_below l)) (rw ck at eo) in
    rw (← view, ap (λ (w : Record). w.after) e) (front-Linked d.pages t.after t.before (list_of (lists_in d) l)
    (head_at d.pages l) (head_at d.pages l) (λ i k. below d l i h k) (omega arith) (h.shows.rings l))

-- what a page leads to
standing : (d : Content) (l : ListName) (x : ℕ) → IsSound d → x < d.pages → place (lists_in d) x ≡ Some l
    → 1 ≤ times_in (list_of (lists_in d) l) x
standing d l x h low e =
    let m : (table_of d.pages d.records).tag x ≡ Some l = sym
    (place-Shows (table_of d.pages d.records) (lists_in d) x h.shows low) ∙ e in
    omega (arith, h.shows.tagged l x low m)

pub after_at : (d : Content) (s : FourLists) (l : ListName) (x : ℕ) (o : Record) → IsSound d → lists_in d ≡ s
    → x < s.pages → place s x ≡ Some l → o ≡ get_or d.records x o
    → page_at s.pages o.after ≡ after s x
after_at d s l x o h view low' m eo =
    let t : Table = table_of d.pages d.records in
    let low : x < d.pages = rw (← view) at low' in
    let e : o ≡ get_or d.records x blank = read d.records x o (omega (arith, low, h.size)) eo in
    rw (m, ← view, ap (λ (w : Record). w.after) e)
    (next_after-Linked d.pages t.after t.before (list_of (lists_in d) l) (head_at d.pages l) (head_at d.pages l) x
    (λ i k. below d l i h k) (omega arith) (h.shows.rings l)
    (standing d l x h low (rw (← view) at m)))

-- the search goes on: one more node
pub back_tagged : (d : Content) (l : ListName) (i : ℕ) → IsSound d → (get_or d.records i blank).list ≡ Some l
    → (get_or d.records (get_or d.records i blank).before blank).list ≡ Some l
back_tagged d l i h m = elim (cases_lt i d.pages) [
  | inl low ↦ (neighbours (table_of d.pages d.records) (lists_in d) l i h.shows low m).before
  | inr past ↦ rw (pick (i - d.pages) (omega arith) (omega (arith, tagged-in_range d.records i l m, h.size)))
      (Linked-after (λ j. (get_or d.records j blank).list ≡ Some l) (table_of d.pages d.records).before
      (table_of d.pages d.records).after (reverse (list_of (lists_in d) l)) (head_at d.pages l) (head_at d.pages l)
      (h.shows.heads l) (λ j one. tag_of (table_of d.pages d.records) (lists_in d) l j h.shows
      (rw (times_in-reverse (list_of (lists_in d) l) j) at one)) (back_ring d l h)).0
]
  where
    -- a node that is tagged and no page's is that of the list's head
    pick : (j : ℕ) → i ≡ d.pages + j → j < 4 → i ≡ head_at d.pages l
    pick zero e lt = let q : T1 ≡ l = cc (h.shows.heads T1) in rw (← q) e
    pick (suc zero) e lt = let q : T2 ≡ l = cc (h.shows.heads T2) in rw (← q) e
    pick (suc (suc zero)) e lt = let q : B1 ≡ l = cc (h.shows.heads B1) in rw (← q) e
    pick (suc (suc (suc zero))) e lt = let q : B2 ≡ l = cc (h.shows.heads B2) in rw (← q) e
    pick (suc (suc (suc (suc j)))) e lt = absurd (omega arith)

pub head_tagged : (d : Content) (l : ListName) (k : ℕ) → IsSound d → k ≡ code l
    → (get_or d.records (d.pages + k) blank).list ≡ Some l
head_tagged d l k h ck = rw ck (h.shows.heads l)

-- before the search begins
pub back_walk : (d : Content) (s : FourLists) (l : ListName) (k : ℕ) → IsSound d → lists_in d ≡ s → k ≡ code l
    → follow (table_of d.pages d.records).before (get_or d.counts k 0) (d.pages + k) ≡ reverse (list_of s l)
back_walk d s l k h view ck =
    let xs : List ℕ = list_of (lists_in d) l in
    rw (← view, ck, count_is d l, ← length-reverse xs)
    (follow-Linked (table_of d.pages d.records).before (table_of d.pages d.records).after (reverse xs)
    (head_at d.pages l) (head_at d.pages l) (back_ring d l h))

-- a step of the search: the next page is busy, or it is the answer
pub find_none : (next : ℕ → ℕ) (m a : ℕ) (busy : ℕ → Bool) → m ≡ 0 → find (λ y. not (busy y)) (follow next m a) ≡ None
find_none next m a busy e = rw e refl

pub find_busy : (next : ℕ → ℕ) (m n a b : ℕ) (busy : ℕ → Bool) → m ≡ suc n → b ≡ next a → busy b ≡ true
    → find (λ y. not (busy y)) (follow next m a) ≡ find (λ y. not (busy y)) (follow next n b)
find_busy next m n a b busy e eb full = rw (e, ← eb, full) refl

pub find_free : (next : ℕ → ℕ) (m a b : ℕ) (busy : ℕ → Bool) → 0 < m → b ≡ next a → busy b ≡ false
    → find (λ y. not (busy y)) (follow next m a) ≡ Some b
find_free next zero a b busy lt eb idle = absurd (omega arith)
find_free next (suc m) a b busy lt eb idle = rw (← eb, idle) refl

pub find_begins : (d : Content) (s : FourLists) (l : ListName) (k m : ℕ) (busy : ℕ → Bool) → IsSound d → lists_in d ≡ s
    → k ≡ code l → m ≡ get_or d.counts k 0
    → find (λ y. not (busy y)) (follow (table_of d.pages d.records).before m (d.pages + k)) ≡ last_not_busy
    (list_of s l) busy
find_begins d s l k m busy h view ck em = ap (find (λ y. not (busy y))) (rw em (back_walk d s l k h view ck))

-- the last node of a row stands in it, and a row without it is the row without its last page
times_in-last : (n p : ℕ → ℕ) (x : ℕ) (xs : List ℕ) (a b : ℕ) → Linked n p a (x ∷ xs) b → 1 ≤ times_in (x ∷ xs) (p b)
times_in-last n p x [] a b h = rw h.2.1 (omega (arith, times_in-front x []))
times_in-last n p x (y ∷ ys) a b h = omega (arith, times_in-last n p y ys x b h.2)

without_last-more : (x y : ℕ) (ys : List ℕ) → without_last (x ∷ y ∷ ys) ≡ x ∷ without_last (y ∷ ys)
without_last-more x y ys =
    let e : length (x ∷ y ∷ ys) - 1 ≡ suc (length ys) = omega arith in
    let f : length (y ∷ ys) - 1 ≡ length ys = omega arith in
    rw (e, f) refl

without-last : (n p : ℕ → ℕ) (xs : List ℕ) (a b : ℕ) → ((i : ℕ) → times_in xs i ≤ 1) → Linked n p a xs b
    → without xs (p b) ≡ without_last xs
without-last n p [] a b once h = refl
without-last n p (x ∷ []) a b once h = rw (h.2.1, eq-eqb x x refl) refl
without-last n p (x ∷ y ∷ ys) a b once h =
    let here : 1 ≤ times_in (y ∷ ys) (p b) = times_in-last n p y ys x b h.2 in
    elim (eqb_tells x (p b)) [
      | inl t ↦ let here' : 1 ≤ times_in (y ∷ ys) x = rw (← t.1) at here in
          absurd (omega (arith, times_in-front x (y ∷ ys), once x))
      | inr t ↦ rw t.0 (ap (λ l. x ∷ l) (without-last n p (y ∷ ys) x b (λ i. omega (arith, once i)) h.2)
          ∙ sym (without_last-more x y ys))
    ]

-- a list without what its head leads back to is the list without its last page
pub forget-last : (d : Content) (s : FourLists) (l : ListName) (k : ℕ) (o : Record) → IsSound d → lists_in d ≡ s
    → k ≡ code l → o ≡ get_or d.records (d.pages + k) o → forget s o.before ≡ without_last_of s l
forget-last d s l k o h view ck eo = rw (← view, e) (go l refl)
  where
    e : o.before ≡ (get_or d.records (d.pages + code l) blank).before
    e = ap (λ (w : Record). w.before) (read d.records (head_at d.pages l) o (omega (arith, h.size, code_below l))
        (rw ck at eo))

    b : ℕ
    b = (get_or d.records (d.pages + code l) blank).before

    tag : (get_or d.records (get_or d.records (d.pages + code l) blank).before blank).list ≡ Some l
    tag = back_tagged d l (head_at d.pages l) h (h.shows.heads l)

    own : (k : ListName) → k ≡ l → without (list_of (lists_in d) k) b ≡ without_last (list_of (lists_in d) k)
    own k same = rw same (without-last (table_of d.pages d.records).after (table_of d.pages d.records).before
        (list_of (lists_in d) l) (head_at d.pages l) (head_at d.pages l)
        (λ i. once (table_of d.pages d.records) (lists_in d) l i h.shows) (h.shows.rings l))

    other : (k : ListName) → k ≢ l → without (list_of (lists_in d) k) b ≡ list_of (lists_in d) k
    other k ne = without-absent (list_of (lists_in d) k) b
        (absent (table_of d.pages d.records) (lists_in d) k b h.shows (λ w. ne (cc tag)))

    go : (m : ListName) → m ≡ l → forget (lists_in d) b ≡ without_last_of (lists_in d) m
    go T1 same = rw (own T1 same, other T2 (λ w. cc), other B1 (λ w. cc), other B2 (λ w. cc)) refl
    go T2 same = rw (own T2 same, other T1 (λ w. cc), other B1 (λ w. cc), other B2 (λ w. cc)) refl
    go B1 same = rw (own B1 same, other T1 (λ w. cc), other T2 (λ w. cc), other B2 (λ w. cc)) refl
    go B2 same = rw (own B2 same, other T1 (λ w. cc), other T2 (λ w. cc), other B1 (λ w. cc)) refl

-- what a head leads back to
pub last_at : (d : Content) (s : FourLists) (l : ListName) (k : ℕ) (o : Record) → IsSound d → lists_in d ≡ s
    → k ≡ code l → o ≡ get_or d.records (d.pages + k) o
    → page_at s.pages o.before ≡ last_page (list_of s l)
last_at d s l k o h view ck eo =
    let t : Table = table_of d.pages d.records in
    let e : o ≡ get_or d.records (head_at d.pages l) blank = read d.records (head_at d.pages l) o
    (omega (arith, h.size, code_below l)) (rw ck at eo) in
    rw (← view, ap (λ (w : Record). w.before) e) (front-Linked d.pages t.before t.after
    (reverse (list_of (lists_in d) l)) (head_at d.pages l) (head_at d.pages l) (λ i k. back_below d l i h k)
    (omega arith) (back_ring d l h))
