-- Lemmas on the steps of the links, in the words of their invariant.
use Rattle.std.proofs.Common.{◌≡◌, ◌≢◌, ℕ, ◌+◌, ◌-◌, ◌^◌, ◌≤◌, ◌<◌, zero, suc, true, false, List, length, get_or, set}
use Rattle.std.proofs.Common.{get_or-set_same, get_or-set_other, refl, arith, ap, sym, ◌∙◌, inl, inr}
use Rattle.std.specs.Prelude.{Option, Some, None}
use Rattle.std.proofs.lemmas.Bool.{cases_lt, cases_Bool}
use Rattle.std.proofs.lemmas.List.{get_or_past}
use Rattle.pp_arc.specs.declared.list.List.{List as ListName}
use Rattle.pp_arc.specs.declared.list.List.TheVariants.{T1, T2, B1, B2}
use Rattle.pp_arc.specs.declared.links.Record.{Record}
use Rattle.pp_arc.specs.Pages.{contains, without}
use Rattle.pp_arc.specs.FourLists.{FourLists, list_of, place}
use Rattle.pp_arc.specs.Links.{with_front, code}
use Rattle.pp_arc.specs.Figure.{forget}
use Rattle.pp_arc.specs.Table.{Content, Table, Shows, IsSound, head_at, table_of, blank, count_in, lists_in, follow}
use Rattle.pp_arc.specs.Table.{pages_in}
use Rattle.pp_arc.proofs.PageLemmas.{length-without, times_in-without_same, contains-times_in, times_in-contains_not}
use Rattle.pp_arc.proofs.RingLemmas.{Linked-after, without-absent}
use Rattle.pp_arc.proofs.ListLemmas.{lists_tell, code_apart, code_below, list_of-forget, list_of-with_front}
use Rattle.pp_arc.proofs.ListLemmas.{list_of-with_front_other}
use Rattle.pp_arc.proofs.TableLemmas.{PutsFirst, TakesOut, absent, absent_past, tag_of, neighbours, Shows-with_front}
use Rattle.pp_arc.proofs.TableLemmas.{Shows-forget, lists_in-Shows}
use Rattle.pp_arc.proofs.WriteLemmas.{read, records_put, records_put-is, records_taken, records_taken-is}
use Rattle.pp_arc.proofs.WriteLemmas.{length-records_put, length-records_taken, PutsFirst-written, TakesOut-written}

-- what is tagged is in range
pub tagged-in_range : (rs : List Record) (i : ℕ) (l : ListName) → (get_or rs i blank).list ≡ Some l → i < length rs
tagged-in_range rs i l m = elim (cases_lt i (length rs)) [
  | inl lt ↦ lt
  | inr ge ↦ absurd
      (cc (get_or_past rs i blank ge))
]

differ : (rs : List Record) (f x : ℕ) (l : ListName) → (get_or rs f blank).list ≡ Some l
    → (get_or rs x blank).list ≡ None → f ≢ x
differ rs f x l ef ex = λ w. let m : (get_or rs x blank).list ≡ Some l = rw w at ef in absurd (cc)

-- where a page stands
pub place-Shows : (t : Table) (s : FourLists) (x : ℕ) → Shows t s → x < t.pages → place s x ≡ t.tag x
place-Shows t s x h low = go (t.tag x) refl
  where
    there : (l : ListName) → t.tag x ≡ Some l → contains (list_of s l) x ≡ true
    there l m = elim (cases_Bool (contains (list_of s l) x)) [
      | inl e ↦ e
      | inr e ↦ absurd
          (omega (arith, times_in-contains_not (list_of s l) x e, h.tagged l x low m))
    ]

    away : (l : ListName) → t.tag x ≢ Some l → contains (list_of s l) x ≡ false
    away l ne = contains-times_in (list_of s l) x (absent t s l x h ne)

    go : (m : Option ListName) → t.tag x ≡ m → place s x ≡ t.tag x
    go None e = rw (e, away T1 (λ w. cc), away T2 (λ w. cc), away B1 (λ w. cc), away B2 (λ w. cc)) refl
    go (Some T1) e = rw (e, there T1 e) refl
    go (Some T2) e = rw (e, away T1 (λ w. cc), there T2 e) refl
    go (Some B1) e = rw (e, away T1 (λ w. cc), away T2 (λ w. cc), there B1 e) refl
    go (Some B2) e = rw (e, away T1 (λ w. cc), away T2 (λ w. cc), away B1 (λ w. cc), there B2 e) refl

-- a count is its list's length
length-follow : (after : ℕ → ℕ) (n a : ℕ) → length (follow after n a) ≡ n
length-follow after zero a = refl
length-follow after (suc n) a = ap suc (length-follow after n (after a))

pub list_of-lists_in : (d : Content) (l : ListName) → list_of (lists_in d) l ≡ pages_in d l
list_of-lists_in d T1 = refl
list_of-lists_in d T2 = refl
list_of-lists_in d B1 = refl
list_of-lists_in d B2 = refl

pub count_is : (d : Content) (l : ListName) → count_in d l ≡ length (list_of (lists_in d) l)
count_is d l = rw (list_of-lists_in d l) (sym (length-follow (table_of d.pages d.records).after (count_in d l)
    (head_at d.pages l)))

pub count_at : (d : Content) (s : FourLists) (l : ListName) (k : ℕ) → lists_in d ≡ s → k ≡ code l
    → get_or d.counts k 0 ≡ length (list_of s l)
count_at d s l k view ck = rw (← view, ck) (count_is d l)

-- the fields are sound, and hold these lists
pub record Holds (e : Content) (s : FourLists) : Type 0 where
  pub sound : IsSound e
  pub is : lists_in e ≡ s

holds : (e : Content) (s : FourLists) → length e.records ≡ e.pages + 4 → e.pages + 4 ≤ 2 ^ 32
    → Shows (table_of e.pages e.records) s
    → ((k : ListName) → count_in e k ≡ length (list_of s k)) → Holds e s
holds e s size fits h counts =
    let q : lists_in e ≡ s = lists_in-Shows e s h counts in
    record { sound = record { size = size; fits = fits; shows = rw q h }; is = q }

-- one count is written
pub record Counts (d e : Content) (l : ListName) (v : ℕ) : Type 0 where
  pub here : count_in e l ≡ v
  pub others : (k : ListName) → k ≢ l → count_in e k ≡ count_in d k

count-set : (d e : Content) (l : ListName) (v : ℕ) → e.counts ≡ set d.counts (code l) v → length d.counts ≡ 4
    → Counts d e l v
count-set d e l v counts four = record {
  here = let lt : code l < length d.counts = omega (arith, code_below l) in rw
      (counts, get_or-set_same d.counts (code l) v 0 lt) refl;
  others = λ k ne. rw (counts, get_or-set_other d.counts (code l) (code k) v 0 (code_apart k l ne)) refl;
}

-- what stands at the front
pub record First (d : Content) (l : ListName) (f : ℕ) : Type 0 where
  pub tagged : (get_or d.records f blank).list ≡ Some l
  pub below : f < length d.records

pub first_of : (d : Content) (l : ListName) → IsSound d → First d l (get_or d.records (head_at d.pages l) blank).after
first_of d l h =
    let t : Table = table_of d.pages d.records in
    let m = (Linked-after (λ i. t.tag i ≡ Some l) t.after t.before (list_of (lists_in d) l) (head_at d.pages l)
    (head_at d.pages l) (h.shows.heads l) (λ i k. tag_of t (lists_in d) l i h.shows k) (h.shows.rings l)).0 in
    record { tagged = m; below = tagged-in_range d.records (get_or d.records (head_at d.pages l) blank).after l m }

holds-put : (d e : Content) (l : ListName) (x f : ℕ) → IsSound d → x < d.pages → place (lists_in d) x ≡ None
    → f ≡ (get_or d.records (head_at d.pages l) blank).after
    → e.pages ≡ d.pages
    → e.records ≡ records_put d.pages d.records l x f
    → e.counts ≡ set d.counts (code l) (count_in d l + 1) → length d.counts ≡ 4
    → Holds e (with_front (lists_in d) l x)
holds-put d e l x f h low none ef pages records counts four =
    holds e (with_front s l x) (rw (records, pages) size) (rw pages h.fits)
    (rw (pages, records) (Shows-with_front t u s l x h.shows p low free)) count
  where
    s : FourLists
    s = lists_in d

    t : Table
    t = table_of d.pages d.records

    u : Table
    u = table_of d.pages (records_put d.pages d.records l x f)

    free : t.tag x ≡ None
    free = cc (place-Shows t s x h.shows low)

    front : First d l f
    front = rw ef (first_of d l h)

    p : PutsFirst t u l x
    p = PutsFirst-written d.pages d.records l x f h.size (code_below l) low ef front.below
        (differ d.records f x l front.tagged free)

    size : length (records_put d.pages d.records l x f) ≡ d.pages + 4
    size = length-records_put d.pages d.records l x f ∙ h.size

    set_counts : Counts d e l (count_in d l + 1)
    set_counts = count-set d e l (count_in d l + 1) counts four

    count : (k : ListName) → count_in e k ≡ length (list_of (with_front s l x) k)
    count k = elim (lists_tell k l) [
      | inl w ↦ rw (w, list_of-with_front s l x) (omega (arith, set_counts.here, count_is d l))
      | inr ne ↦ rw (list_of-with_front_other s k l x ne) (omega (arith, set_counts.others k ne, count_is d k))
    ]

-- the same, as the code writes it
abbrev pub written_put : Content → ListName → ℕ → ℕ → Record → Record → Record → Content
written_put d l x k o q r = record {
  pages = d.pages;
  records = set (set (set d.records x (record { list = Some l; before = d.pages + k; after = o.after })) (d.pages + k)
      (record { list = q.list; before = q.before; after = x })) o.after
      (record { list = r.list; before = x; after = r.after });
  counts = set d.counts k (get_or d.counts k 0 + 1);
}

pub Holds-put : (d : Content) (s : FourLists) (l : ListName) (x k : ℕ) (o q r : Record) → IsSound d → lists_in d ≡ s
    → k ≡ code l → x < s.pages → place s x ≡ None
    → o ≡ get_or d.records (d.pages + k) o
    → q ≡ get_or (set d.records x (record { list = Some l; before = d.pages + k; after = o.after })) (d.pages + k) q
    → r ≡ get_or (set (set d.records x (record { list = Some l; before = d.pages + k; after = o.after })) (d.pages + k)
    (record { list = q.list; before = q.before; after = x })) o.after r
    → length d.counts ≡ 4 → Holds (written_put d l x k o q r) (with_front s l x)
Holds-put d s l x k o q r h view ck low none eo eq er four =
    rw (← view) (holds-put d (written_put d l x k o q r) l x o.after h (rw (← view) at low) (rw (← view) at none) ef
    refl (records ∙ records_put-is d.pages d.records l x o.after q r lh lf (rw ck at eq) (rw ck at er)) (rw ck refl)
    four)
  where
    lh : head_at d.pages l < length d.records
    lh = omega (arith, h.size, code_below l)

    ef : o.after ≡ (get_or d.records (head_at d.pages l) blank).after
    ef = ap (λ (w : Record). w.after) (read d.records (head_at d.pages l) o lh (rw ck at eo))

    lf : o.after < length d.records
    lf = rw ef (first_of d l h).below

    records : (written_put d l x k o q r).records ≡ (written_put d l x (code l) o q r).records
    records = rw ck refl

pub first_below : (d : Content) (l : ListName) (k : ℕ) (o : Record) → IsSound d → k ≡ code l
    → o ≡ get_or d.records (d.pages + k) o → o.after < length d.records
first_below d l k o h ck eo =
    let lh : head_at d.pages l < length d.records = omega (arith, h.size, code_below l) in
    let ef : o.after ≡ (get_or d.records (head_at d.pages l) blank).after = ap (λ (w : Record). w.after)
    (read d.records (head_at d.pages l) o lh (rw ck at eo)) in
    rw ef (first_of d l h).below

-- the two neighbours of a page
pub record Reaches (d : Content) (x : ℕ) : Type 0 where
  pub before : (get_or d.records x blank).before < length d.records
  pub after : (get_or d.records x blank).after < length d.records

pub reaches : (d : Content) (l : ListName) (x : ℕ) → IsSound d → x < d.pages → (get_or d.records x blank).list ≡ Some l
    → Reaches d x
reaches d l x h low m =
    let n = neighbours (table_of d.pages d.records) (lists_in d) l x h.shows low m in
    record { before = tagged-in_range d.records _ l n.before; after = tagged-in_range d.records _ l n.after }

pub counted : (d : Content) (l : ListName) (x : ℕ) → IsSound d → x < d.pages → (get_or d.records x blank).list ≡ Some l
    → 1 ≤ count_in d l
counted d l x h low m = omega (arith, count_is d l, h.shows.tagged l x low m, length-without (list_of (lists_in d) l) x)

holds-take : (d e : Content) (l : ListName) (x b n : ℕ) → IsSound d → x < d.pages
    → (get_or d.records x blank).list ≡ Some l
    → b ≡ (get_or d.records x blank).before → n ≡ (get_or d.records x blank).after
    → e.pages ≡ d.pages
    → e.records ≡ records_taken d.records x b n
    → e.counts ≡ set d.counts (code l) (count_in d l - 1) → length d.counts ≡ 4
    → Holds e (forget (lists_in d) x)
holds-take d e l x b n h low m eb en pages records counts four =
    holds e (forget s x) (rw (records, pages) size) (rw pages h.fits)
    (rw (pages, records) (Shows-forget t u s l x h.shows p low m)) count
  where
    s : FourLists
    s = lists_in d

    t : Table
    t = table_of d.pages d.records

    u : Table
    u = table_of d.pages (records_taken d.records x b n)

    a : Reaches d x
    a = reaches d l x h low m

    p : TakesOut t u x
    p = TakesOut-written d.pages d.records x b n (omega (arith, h.size)) eb (rw eb a.before) en (rw en a.after)

    size : length (records_taken d.records x b n) ≡ d.pages + 4
    size = length-records_taken d.records x b n ∙ h.size

    set_counts : Counts d e l (count_in d l - 1)
    set_counts = count-set d e l (count_in d l - 1) counts four

    count : (k : ListName) → count_in e k ≡ length (list_of (forget s x) k)
    count k = elim (lists_tell k l) [
      | inl w ↦ rw (w, list_of-forget s l x) (omega (
        arith,
        set_counts.here,
        count_is d l,
        length-without (list_of s l)
            x,
        h.shows.tagged l x low m,
      ))
      | inr ne ↦ rw (list_of-forget s k x) (omega (
        arith,
        set_counts.others k ne,
        count_is d k,
        length-without
            (list_of s k) x,
        absent t s k x h.shows (λ w. ne cc),
      ))
    ]

abbrev pub written_take : Content → ℕ → ℕ → Record → Record → Record → Record → Content
written_take d x k o q r v = record {
  pages = d.pages;
  records = set (set (set d.records o.before (record { list = q.list; before = q.before; after = o.after })) o.after
      (record { list = r.list; before = o.before; after = r.after })) x
      (record { list = None; before = v.before; after = v.after });
  counts = set d.counts k (get_or d.counts k 0 - 1);
}

pub Holds-take : (d : Content) (s : FourLists) (l : ListName) (x k : ℕ) (o q r v : Record) → IsSound d → lists_in d ≡ s
    → k ≡ code l → x < s.pages → o.list ≡ Some l
    → o ≡ get_or d.records x o
    → q ≡ get_or d.records o.before q
    → r ≡ get_or (set d.records o.before (record { list = q.list; before = q.before; after = o.after })) o.after r
    → v ≡ get_or (set (set d.records o.before (record { list = q.list; before = q.before; after = o.after })) o.after
    (record { list = r.list; before = o.before; after = r.after })) x v
    → length d.counts ≡ 4 → Holds (written_take d x k o q r v) (forget s x)
Holds-take d s l x k o q r v h view ck low m eo eq er ev four =
    rw (← view) (holds-take d (written_take d x k o q r v) l x o.before o.after h low' m'
    (ap (λ (w : Record). w.before) oe) (ap (λ (w : Record). w.after) oe) refl
    (records_taken-is d.records x o.before o.after q r v (rw oe a.before) (rw oe a.after) lx eq er ev) (rw ck refl)
    four)
  where
    low' : x < d.pages
    low' = rw (← view) at low

    lx : x < length d.records
    lx = omega (arith, low', h.size)

    oe : o ≡ get_or d.records x blank
    oe = read d.records x o lx eo

    m' : (get_or d.records x blank).list ≡ Some l
    m' = rw (← oe) m

    a : Reaches d x
    a = reaches d l x h low' m'

-- what a removal needs of the record that it reads
pub record ReadsOut (d : Content) (l : ListName) (o : Record) : Type 0 where
  pub before : o.before < length d.records
  pub after : o.after < length d.records
  pub counted : (k : ℕ) → k ≡ code l → 1 ≤ get_or d.counts k 0

pub reads_out : (d : Content) (s : FourLists) (l : ListName) (x : ℕ) (o : Record) → IsSound d → lists_in d ≡ s
    → x < s.pages → o.list ≡ Some l → o ≡ get_or d.records x o → ReadsOut d l o
reads_out d s l x o h view low' m eo =
    let low : x < d.pages = rw (← view) at low' in
    let oe : o ≡ get_or d.records x blank = read d.records x o (omega (arith, h.size)) eo in
    let m' : (get_or d.records x blank).list ≡ Some l = rw (← oe) m in
    record {
      before = rw oe (reaches d l x h low m').before;
      after = rw oe (reaches d l x h low m').after;
      counted = λ k ck. rw ck (counted d l x h low m');
    }

-- a page that is tagged by no list
pub forget-none : (d : Content) (s : FourLists) (x : ℕ) (o : Record) → IsSound d → lists_in d ≡ s → x < s.pages
    → o ≡ get_or d.records x o → o.list ≡ None → s ≡ forget s x
forget-none d s x o h view low' eo m' = rw (← view) simp (one T1, one T2, one B1, one B2)
  where
    low : x < d.pages
    low = rw (← view) at low'

    m : (get_or d.records x blank).list ≡ None
    m = rw (← read d.records x o (omega (arith, low, h.size)) eo) m'

    one : (k : ListName) → without (list_of (lists_in d) k) x ≡ list_of (lists_in d) k
    one k = without-absent (list_of (lists_in d) k) x
        (absent (table_of d.pages d.records) (lists_in d) k x h.shows (λ w. cc m))

-- it stands nowhere then
pub place-forget : (s : FourLists) (x : ℕ) → place (forget s x) x ≡ None
place-forget s x = rw (gone s.t1, gone s.t2, gone s.b1, gone s.b2) refl
  where
    gone : (xs : List ℕ) → contains (without xs x) x ≡ false
    gone xs = contains-times_in (without xs x) x (times_in-without_same xs x)

pub gone-forget : (s t : FourLists) (x : ℕ) → t ≡ forget s x → place t x ≡ None
gone-forget s t x e = rw e (place-forget s x)

-- past the pages nothing stands
pub place-past : (d : Content) (s : FourLists) (x : ℕ) → IsSound d → lists_in d ≡ s → d.pages ≤ x → place s x ≡ None
place-past d s x h view past = rw (← view) simp (one T1, one T2, one B1, one B2)
  where
    one : (k : ListName) → contains (list_of (lists_in d) k) x ≡ false
    one k = contains-times_in (list_of (lists_in d) k) x
        (absent_past (table_of d.pages d.records) (lists_in d) k x h.shows past)

pub forget-past : (d : Content) (s : FourLists) (x : ℕ) → IsSound d → lists_in d ≡ s → d.pages ≤ x → s ≡ forget s x
forget-past d s x h view past = rw (← view) simp (one T1, one T2, one B1, one B2)
  where
    one : (k : ListName) → without (list_of (lists_in d) k) x ≡ list_of (lists_in d) k
    one k = without-absent (list_of (lists_in d) k) x
        (absent_past (table_of d.pages d.records) (lists_in d) k x h.shows past)
