-- Lemmas on a table and the four lists that it shows: what a put and a removal leave.
use Rattle.std.proofs.Common.{◌≡◌, ◌≢◌, ◌⊎◌, ℕ, ◌≤◌, ◌<◌, length, arith, ap, sym, inl, inr}
use Rattle.std.specs.Prelude.{Some, None}
use Rattle.std.proofs.lemmas.Bool.Decides.{eqb_tells}
use Rattle.pp_arc.specs.declared.list.List.{List as ListName}
use Rattle.pp_arc.specs.declared.list.List.TheVariants.{T1, T2, B1, B2}
use Rattle.pp_arc.specs.Pages.{times_in, without}
use Rattle.pp_arc.specs.FourLists.{FourLists, list_of}
use Rattle.pp_arc.specs.Links.{with_front}
use Rattle.pp_arc.specs.Figure.{forget}
use Rattle.pp_arc.specs.Table.{Content, Table, Shows, Linked, head_at, table_of, count_in, lists_in, pages_in}
use Rattle.pp_arc.proofs.PageLemmas.{times_in-without_same, times_in-without_other}
use Rattle.pp_arc.proofs.ListLemmas.{lists_tell, list_of-forget, list_of-with_front, list_of-with_front_other}
use Rattle.pp_arc.proofs.ListLemmas.{sizes-with_front}
use Rattle.pp_arc.proofs.RingLemmas.{follow-Linked, times_in-front, times_in-other, Linked-same, Linked-after}
use Rattle.pp_arc.proofs.RingLemmas.{Neighbours, Neighbours-Linked, without-absent, Linked-put, Linked-take}

-- a page that isn't tagged by a list doesn't stand in it
pub absent : (t : Table) (s : FourLists) (l : ListName) (x : ℕ) → Shows t s → t.tag x ≢ Some l
    → times_in (list_of s l) x ≡ 0
absent t s l x h ne = elim (h.stands l x) [ inl z ↦ z | inr w ↦ absurd (ne w.1) ]

-- one that is past the pages stands in none
pub absent_past : (t : Table) (s : FourLists) (l : ListName) (x : ℕ) → Shows t s → t.pages ≤ x
    → times_in (list_of s l) x ≡ 0
absent_past t s l x h past = elim (h.stands l x) [ inl z ↦ z | inr w ↦ absurd (omega arith) ]

pub once : (t : Table) (s : FourLists) (l : ListName) (x : ℕ) → Shows t s → times_in (list_of s l) x ≤ 1
once t s l x h = elim (h.stands l x) [ inl z ↦ omega arith | inr w ↦ omega arith ]

-- one that stands in a list is tagged by it
pub tag_of : (t : Table) (s : FourLists) (l : ListName) (x : ℕ) → Shows t s → 1 ≤ times_in (list_of s l) x
    → t.tag x ≡ Some l
tag_of t s l x h one = elim (h.stands l x) [ inl z ↦ absurd (omega arith) | inr w ↦ w.1 ]

-- the table u is the table t after x was put at the front of l
pub record PutsFirst (t u : Table) (l : ListName) (x : ℕ) : Type 0 where
  pub pages : u.pages ≡ t.pages
  pub tag : u.tag x ≡ Some l
  pub tags : (i : ℕ) → i ≢ x → u.tag i ≡ t.tag i
  pub head_after : u.after (head_at t.pages l) ≡ x
  pub after : u.after x ≡ t.after (head_at t.pages l)
  pub afters : (i : ℕ) → i ≢ head_at t.pages l → i ≢ x → u.after i ≡ t.after i
  pub before : u.before x ≡ head_at t.pages l
  pub first_before : u.before (t.after (head_at t.pages l)) ≡ x
  pub befores : (i : ℕ) → i ≢ x → i ≢ t.after (head_at t.pages l) → u.before i ≡ t.before i

pub Shows-with_front : (t u : Table) (s : FourLists) (l : ListName) (x : ℕ) → Shows t s → PutsFirst t u l x
    → x < t.pages → t.tag x ≡ None → Shows u (with_front s l x)
Shows-with_front t u s l x h p low free = record {
  sizes = rw p.pages (sizes-with_front s t.pages l x h.sizes);
  heads = λ k. rw (p.pages, p.tags (head_at t.pages k) (past k)) (h.heads k);
  rings = λ k. rw p.pages (ring k);
  stands = λ k y. rw p.pages (stand k y);
  tagged = λ k y lt m. tag k y (omega (arith, p.pages)) m;
}
  where
    past : (k : ListName) → head_at t.pages k ≢ x
    past k = λ e. absurd (omega arith)

    fx : (k : ListName) → times_in (list_of s k) x ≡ 0
    fx k = absent t s k x h (λ e. cc)

    first : t.tag (t.after (head_at t.pages l)) ≡ Some l
    first = (Linked-after (λ i. t.tag i ≡ Some l) t.after t.before (list_of s l) (head_at t.pages l) (head_at t.pages l)
        (h.heads l) (λ i k. tag_of t s l i h k) (h.rings l)).0

    ring : (k : ListName)
        → Linked u.after u.before (head_at t.pages k) (list_of (with_front s l x) k) (head_at t.pages k)
    ring k = elim (lists_tell k l) [
      | inl e ↦ rw e (rw (list_of-with_front s l x) (Linked-put t.after t.before u.after u.before (list_of s l)
          (head_at t.pages l) (head_at t.pages l) x
          (λ i. once t s l i h) (absent_past t s l (head_at t.pages l) h (omega arith))
          (absent_past t s l (head_at t.pages l) h (omega arith)) (fx l) (past l)
          p.head_after p.after p.afters p.before p.first_before p.befores (h.rings l)))
      | inr ne ↦ rw (list_of-with_front_other s k l x ne)
          (Linked-same t.after t.before u.after u.before (list_of s k) (head_at t.pages k) (head_at t.pages k)
          (keep k ne (head_at t.pages k) (h.heads k)).0 (keep k ne (head_at t.pages k) (h.heads k)).1
          (λ i w. keep k ne i (tag_of t s k i h w)) (h.rings k))
    ]
      where
        keep : (k : ListName) → k ≢ l → (i : ℕ) → t.tag i ≡ Some k → (u.after i ≡ t.after i) × (u.before i ≡ t.before i)
        keep k ne i m =
            let ih : i ≢ head_at t.pages l = λ e. ne (cc (h.heads l)) in
            let ix : i ≢ x = λ e. cc in
            let f : i ≢ t.after (head_at t.pages l) = λ e. ne (cc first) in
            (p.afters i ih ix, p.befores i ix f)

    stand : (k : ListName) (y : ℕ)
        → (times_in (list_of (with_front s l x) k) y ≡ 0) ⊎
        ((times_in (list_of (with_front s l x) k) y ≡ 1) × (u.tag y ≡ Some k) × (y < t.pages))
    stand k y = elim (lists_tell k l) [
      | inl e ↦ elim (eqb_tells x y) [
        | inl t' ↦ inr (
          rw (e, list_of-with_front s l x, ← t'.1) (omega (arith, times_in-front x (list_of s l), fx l)),
          cc,
          rw t'.1 at low,
        )
        | inr t' ↦ rw (e, list_of-with_front s l x, times_in-other x y (list_of s l) t'.1, p.tags y (λ w. t'.1 (sym w)))
            (h.stands l y)
      ]
      | inr ne ↦ rw (list_of-with_front_other s k l x ne) elim (h.stands k y) [
        | inl z ↦ inl z
        | inr w ↦ inr (w.0, cc (p.tags y (λ e. cc)), w.2)
      ]
    ]

    tag : (k : ListName) (y : ℕ) → y < t.pages → u.tag y ≡ Some k → times_in (list_of (with_front s l x) k) y ≡ 1
    tag k y lt m = elim (eqb_tells x y) [
      | inl t' ↦ let e : k ≡ l = cc in rw (e, list_of-with_front s l x, ← t'.1)
          (omega (arith, times_in-front x (list_of s l), fx l))
      | inr t' ↦ let m' : t.tag y ≡ Some k = cc (p.tags y (λ w. t'.1 (sym w))) in
          elim (lists_tell k l) [
            | inl e ↦ rw (e, list_of-with_front s l x, times_in-other x y (list_of s l) t'.1, ← e) (h.tagged k y lt m')
            | inr ne ↦ rw (list_of-with_front_other s k l x ne) (h.tagged k y lt m')
          ]
    ]

-- the table u is the table t after x was taken out
pub record TakesOut (t u : Table) (x : ℕ) : Type 0 where
  pub pages : u.pages ≡ t.pages
  pub tag : u.tag x ≡ None
  pub tags : (i : ℕ) → i ≢ x → u.tag i ≡ t.tag i
  pub after : u.after (t.before x) ≡ t.after x
  pub afters : (i : ℕ) → i ≢ t.before x → u.after i ≡ t.after i
  pub before : u.before (t.after x) ≡ t.before x
  pub befores : (i : ℕ) → i ≢ t.after x → u.before i ≡ t.before i

-- the two neighbours of a page that is tagged
pub neighbours : (t : Table) (s : FourLists) (l : ListName) (x : ℕ) → Shows t s → x < t.pages → t.tag x ≡ Some l
    → Neighbours (λ i. t.tag i ≡ Some l) t.after t.before x
neighbours t s l x h low m = Neighbours-Linked (λ i. t.tag i ≡ Some l) t.after t.before (list_of s l)
    (head_at t.pages l) (head_at t.pages l) x
    (h.heads l) (h.heads l) (λ i w. tag_of t s l i h w) (h.rings l) (omega (arith, h.tagged l x low m))

pub Shows-forget : (t u : Table) (s : FourLists) (l : ListName) (x : ℕ) → Shows t s → TakesOut t u x → x < t.pages
    → t.tag x ≡ Some l → Shows u (forget s x)
Shows-forget t u s l x h p low m = record {
  sizes = rw p.pages (ap (λ (w : FourLists). forget w x) h.sizes);
  heads = λ k. rw (p.pages, p.tags (head_at t.pages k) (λ e. absurd (omega arith))) (h.heads k);
  rings = λ k. rw (p.pages, list_of-forget s k x) (ring k);
  stands = λ k y. rw (p.pages, list_of-forget s k x) (stand k y);
  tagged = λ k y lt n. rw (list_of-forget s k x) (tag k y (omega (arith, p.pages)) n);
}
  where
    n : Neighbours (λ i. t.tag i ≡ Some l) t.after t.before x
    n = neighbours t s l x h low m

    keep : (k : ListName) → k ≢ l → (i : ℕ) → t.tag i ≡ Some k → (u.after i ≡ t.after i) × (u.before i ≡ t.before i)
    keep k ne i m' = (p.afters i (λ e. ne (cc n.before)), p.befores i (λ e. ne (cc n.after)))

    ring : (k : ListName) → Linked u.after u.before (head_at t.pages k) (without (list_of s k) x) (head_at t.pages k)
    ring k = elim (lists_tell k l) [
      | inl e ↦ rw e (Linked-take t.after t.before u.after u.before (list_of s l) (head_at t.pages l)
          (head_at t.pages l) x
          (λ i. once t s l i h) (absent_past t s l (head_at t.pages l) h (omega arith))
          (absent_past t s l (head_at t.pages l) h (omega arith)) (h.tagged l x low m)
          n.back n.forth p.after p.afters p.before p.befores (h.rings l))
      | inr ne ↦ rw (without-absent (list_of s k) x (absent t s k x h (λ e. ne cc)))
          (Linked-same t.after t.before u.after u.before (list_of s k) (head_at t.pages k) (head_at t.pages k)
          (keep k ne (head_at t.pages k) (h.heads k)).0 (keep k ne (head_at t.pages k) (h.heads k)).1
          (λ i w. keep k ne i (tag_of t s k i h w)) (h.rings k))
    ]

    stand : (k : ListName) (y : ℕ)
        → (times_in (without (list_of s k) x) y ≡ 0) ⊎
        ((times_in (without (list_of s k) x) y ≡ 1) × (u.tag y ≡ Some k) × (y < t.pages))
    stand k y = elim (eqb_tells x y) [
      | inl e ↦ inl (rw (← e.1) (times_in-without_same (list_of s k) x))
      | inr e ↦ rw (times_in-without_other (list_of s k) x y e.1, p.tags y (λ w. e.1 (sym w))) (h.stands k y)
    ]

    tag : (k : ListName) (y : ℕ) → y < t.pages → u.tag y ≡ Some k → times_in (without (list_of s k) x) y ≡ 1
    tag k y lt m' = elim (eqb_tells x y) [
      | inl e ↦ absurd (cc)
      | inr e ↦ rw (times_in-without_other (list_of s k) x y e.1) (h.tagged k y lt (cc (p.tags y (λ w. e.1 (sym w)))))
    ]

-- the table's own lists are those that it spells
pub lists_in-Shows : (d : Content) (s : FourLists) → Shows (table_of d.pages d.records) s
    → ((k : ListName) → count_in d k ≡ length (list_of s k)) → lists_in d ≡ s
lists_in-Shows d s h counts = rw (one T1, one T2, one B1, one B2) (sym h.sizes)
  where
    one : (k : ListName) → pages_in d k ≡ list_of s k
    one k = rw (counts k) (follow-Linked (table_of d.pages d.records).after (table_of d.pages d.records).before
        (list_of s k) (head_at d.pages k) (head_at d.pages k) (h.rings k))
