-- Lemmas on what is kept of names: each step keeps it.
use Rattle.std.proofs.Common.{◌≡◌, ◌≢◌, ◌∙◌, ◌⊎◌, ℕ, zero, suc, ◌+◌, ◌-◌, ◌<◌, ◌≤◌, cond, eqb, List, [], ◌∷◌, length}
use Rattle.std.proofs.Common.{get_or, set, refl, sym, ap, subst, arith, inl, inr, length-set}
use Rattle.std.proofs.Common.{get_or-set_other, get_or-set_same}
use Rattle.std.specs.Prelude.{nat_lt, sum_by, replicate}
use Rattle.std.specs.Prelude.{Bool, true, false, Option, Some, None, IfSome, IsSome, option_and_then}
use Rattle.std.proofs.lemmas.Bool.{cases_lt, cases_Bool, lt-ltb}
use Rattle.std.proofs.lemmas.Bool.Decides.{eqb_tells}
use Rattle.std.proofs.lemmas.List.{get_or_past, get_or_default, get_or-replicate, length-replicate}
use Rattle.std.proofs.lemmas.List.Sums.{sum_by-set, sum_by-cons}
use Rattle.pp_arc.specs.Passed.{counts}
use Rattle.pp_arc.specs.declared.list.List.{List as ListName}
use Rattle.pp_arc.specs.declared.list.List.TheVariants.{T1, T2, B1, B2}
use Rattle.pp_arc.specs.Pages.{contains, times_in, last_page, last_not_busy, without_last, next_after, behind}
use Rattle.pp_arc.specs.FourLists.{FourLists, empty_lists, list_of, place, after, times_named, total_count}
use Rattle.pp_arc.specs.Figure.{forget}
use Rattle.pp_arc.specs.Links.{with_front, without_last_of, SomeAhead, NoneAhead}
use Rattle.pp_arc.specs.Names.{pages_at, Naming, HasNode, AreFree, IsNaming, lists_named, lists_at}
use Rattle.pp_arc.proofs.PageLemmas.{times_in-without_other, times_in-contains}
use Rattle.pp_arc.proofs.BoundLemmas.{total_count-forget, times_named-forget, times_named-forget_same}
use Rattle.pp_arc.proofs.RingLemmas.{times_in-front, times_in-other}
use Rattle.pp_arc.proofs.StepLemmas.{StandsIn, StandsIn-place, place-times_named}
use Rattle.pp_arc.proofs.VictimLemmas.{contains-last_not_busy}
use Rattle.pp_arc.proofs.SizeLemmas.{times_named-with_front, pages-with_front, c-with_front, times_in-one, last-none}
use Rattle.pp_arc.proofs.NameLemmas.{AllUndone, times_page, times_none, place_page, after_page, forget_page, page_in}
use Rattle.pp_arc.proofs.NameLemmas.{put_page, with_front_page, forget-last_of, list_of-lists_at, last, victim}
use Rattle.pp_arc.proofs.NameLemmas.{total-lists_at, last_stands, stands, behind_page, in_list}

pub undone : (d : Naming) → IsNaming d → AllUndone d.names d.pages d.links
undone d h = λ n k. (h.named n k).name

-- a number that isn't 0 is one more than another
pub one_more : (m : ℕ) → 0 < m → m ≡ (m - 1) + 1
one_more m lt = omega arith

-- a place that has something is below the length
pub in_range : (xs : List ℕ) (i : ℕ) → 0 < get_or xs i 0 → i < length xs
in_range xs i lt = elim (cases_lt i (length xs)) [
  | inl low ↦ low
  | inr past ↦ let z : get_or xs i 0 ≡ 0 = get_or_past xs i 0 past in absurd (omega arith)
]

pub times_named-none : (s : FourLists) (x : ℕ) → place s x ≡ None → times_named s x ≡ 0
times_named-none s x e = (subst (λ o. StandsIn o s x) e (StandsIn-place s x)).1

-- a page that has a node stands once
pub times-node : (d : Naming) (x n : ℕ) → IsNaming d → HasNode d x n
    → times_named (lists_named d) x ≡ times_named d.links n
times-node d x n h k =
    subst (λ y. times_named (lists_named d) y ≡ times_named d.links n) k.page
    (times_page (length d.names) d.names d.pages d.links (undone d h) n (h.named n k.stands).name)

-- a page that stands nowhere has no name
pub no_name : (d : Naming) (x : ℕ) → IsNaming d → times_named (lists_named d) x ≡ 0 → get_or d.names x 0 ≡ 0
no_name d x h z = elim (cases_lt 0 (get_or d.names x 0)) [
  | inl lt ↦ let k : HasNode d x (get_or d.names x 0 - 1) = h.known x (get_or d.names x 0 - 1) (one_more _ lt) in
      absurd (omega (arith, times-node d x (get_or d.names x 0 - 1) h k, k.stands))
  | inr z ↦ omega arith
]

-- no page stands twice
pub once_named : (d : Naming) (x : ℕ) → IsNaming d → times_named (lists_named d) x ≤ 1
once_named d x h = elim (cases_lt 0 (get_or d.names x 0)) [
  | inl lt ↦ let k : HasNode d x (get_or d.names x 0 - 1) = h.known x (get_or d.names x 0 - 1) (one_more _ lt) in
      omega (arith, times-node d x (get_or d.names x 0 - 1) h k, h.once (get_or d.names x 0 - 1))
  | inr z ↦ let e : get_or d.names x 0 ≡ 0 = omega arith in
      omega (arith, times_none (length d.names) d.names d.pages d.links (undone d h) x e)
]

times_in-one_other : (p q : ℕ) → p ≢ q → times_in (p ∷ []) q ≡ 0
times_in-one_other p q ne = omega (arith, times_in-other p q [] ne)

-- another page stands as often after one was forgotten
pub times_named-forget_other : (s : FourLists) (x q : ℕ) → x ≢ q → times_named (forget s x) q ≡ times_named s q
times_named-forget_other s x q ne = omega (
  arith,
  times_in-without_other s.t1 x q ne,
  times_in-without_other s.t2 x q ne,
  times_in-without_other s.b1 x q ne,
  times_in-without_other s.b2 x q ne,
)

pub total-with_front : (s : FourLists) (l : ListName) (n : ℕ) → total_count (with_front s l n) ≡ total_count s + 1
total-with_front s T1 n = omega arith
total-with_front s T2 n = omega arith
total-with_front s B1 n = omega arith
total-with_front s B2 n = omega arith

-- ---- how many pages have a name

counts_most : (n : ℕ) → counts n ≤ 1
counts_most n = elim (cases_Bool (nat_lt 0 n)) [ inl e ↦ rw e (omega arith) | inr e ↦ rw e (omega arith) ]

counts_one : (n : ℕ) → 0 < n → counts n ≡ 1
counts_one n lt = rw (lt-ltb 0 n lt) refl

most_named : (xs : List ℕ) → sum_by counts xs ≤ length xs
most_named [] = omega arith
most_named (x ∷ xs) = omega (arith, most_named xs, counts_most x, sum_by-cons counts x xs)

-- a page that has no name gets one
pub named_more : (xs : List ℕ) (x n : ℕ) → x < length xs → get_or xs x 0 ≡ 0
    → sum_by counts (set xs x (n + 1)) ≡ sum_by counts xs + 1
named_more xs x n lt none =
    let counted : counts (get_or xs x 0) ≡ 0 = rw none refl in
    let one : counts (n + 1) ≡ 1 = counts_one (n + 1) (omega arith) in
    omega (arith, sum_by-set counts xs x (n + 1) 0 lt)

-- a page loses its name
pub named_fewer : (xs : List ℕ) (x n : ℕ) → get_or xs x 0 ≡ n + 1
    → sum_by counts (set xs x 0) + 1 ≡ sum_by counts xs
named_fewer xs x n some =
    let lt : x < length xs = in_range xs x (omega arith) in
    let counted : counts (get_or xs x 0) ≡ 1 = counts_one (get_or xs x 0) (omega arith) in
    let zero_counts : counts 0 ≡ 0 = refl in
    omega (arith, sum_by-set counts xs x 0 0 lt)

-- where a page has no name, fewer have one than there are
pub some_unnamed : (xs : List ℕ) (x : ℕ) → x < length xs → get_or xs x 0 ≡ 0 → sum_by counts xs < length xs
some_unnamed xs x lt none =
    omega (arith, named_more xs x 0 lt none, most_named (set xs x (0 + 1)), length-set xs x (0 + 1))

-- no page has a name
pub none_named : (n : ℕ) (xs : List ℕ) → xs ≡ replicate n 0 → sum_by counts xs ≡ 0
none_named n xs e = ap (λ (ys : List ℕ). sum_by counts ys) e ∙ zeros n
  where
    zeros : (n : ℕ) → sum_by counts (replicate n 0) ≡ 0
    zeros zero = refl
    zeros (suc n) = omega (arith, zeros n, sum_by-cons counts 0 (replicate n 0), counts_most 0, none)
      where
        none : counts 0 ≡ 0
        none = refl

-- ---- a page comes into a list

abbrev pub put_in : Naming → ListName → ℕ → ℕ → Naming
put_in d l x n = record {
  names = set d.names x (n + 1);
  pages = set d.pages n x;
  free = d.free;
  spare = d.spare - 1;
  links = with_front d.links l n;
}

pub IsNaming-put : (d : Naming) (l : ListName) (x n : ℕ) → IsNaming d → x < length d.names
    → times_named (lists_named d) x ≡ 0 → 0 < d.spare → n ≡ get_or d.free (d.spare - 1) 0 → IsNaming (put_in d l x n)
IsNaming-put d l x n h low absent room e = record {
  nodes = pages-with_front d.links l n ∙ h.nodes ∙ sym (length-set d.pages n x);
  room = c-with_front d.links l n ∙ h.room ∙ sym (length-set d.pages n x);
  stack = h.stack ∙ sym (length-set d.pages n x);
  fits = omega (arith, h.fits, length-set d.pages n x);
  once = λ m. elim (eqb_tells n m) [
    | inl t ↦ omega (arith, times_named-with_front d.links l n m, here m t.1)
    | inr t ↦ omega (arith, times_named-with_front d.links l n m, times_in-one_other n m t.1, h.once m)
  ];
  below = λ m k. elim (eqb_tells n m) [
    | inl t ↦ rw (← t.1) (omega (arith, below, length-set d.pages n x))
    | inr t ↦ omega (arith, h.below m (away m t.1 k), length-set d.pages n x)
  ];
  known = known;
  named = named;
  free = record {
    below = λ k lt. omega (arith, h.free.below k (omega arith), length-set d.pages n x);
    nowhere = λ k lt.
        omega (
          arith,
          times_named-with_front d.links l n (get_or d.free k 0),
          times_in-one_other n (get_or d.free k 0) (apart k lt),
          h.free.nowhere k (omega arith),
        );
    differ = λ j k jk lt. h.free.differ j k jk (omega arith);
    count = omega (arith, h.free.count, total-with_front d.links l n, length-set d.pages n x);
  };
  used = omega (arith, h.used, room, named_more d.names x n low no, length-set d.pages n x);
}
  where
    nowhere : times_named d.links n ≡ 0
    nowhere = rw e (h.free.nowhere (d.spare - 1) (omega arith))

    below : n < length d.pages
    below = rw e (h.free.below (d.spare - 1) (omega arith))

    no : get_or d.names x 0 ≡ 0
    no = no_name d x h absent

    here : (m : ℕ) → n ≡ m → times_named d.links m + times_in (n ∷ []) m ≡ 1
    here m w = subst (λ q. times_named d.links q + times_in (n ∷ []) q ≡ 1) w (omega (arith, nowhere, times_in-one n))

    away : (m : ℕ) → n ≢ m → 1 ≤ times_named (with_front d.links l n) m → 1 ≤ times_named d.links m
    away m ne k = omega (arith, times_named-with_front d.links l n m, times_in-one_other n m ne)

    apart : (k : ℕ) → k < d.spare - 1 → n ≢ get_or d.free k 0
    apart k lt = λ w. h.free.differ k (d.spare - 1) lt (omega arith) (sym w ∙ e)

    new : HasNode (put_in d l x n) x n
    new = record {
      name = get_or-set_same d.names x (n + 1) 0 low;
      page = get_or-set_same d.pages n x 0 below;
      stands = omega (arith, times_named-with_front d.links l n n, times_in-one n);
    }

    kept : (y m : ℕ) → HasNode d y m → HasNode (put_in d l x n) y m
    kept y m k =
        let ne : m ≢ n = λ w. absurd (omega (arith, k.stands, ap (times_named d.links) w, nowhere)) in
        let other : y ≢ x = λ w. absurd (omega (arith, k.name, ap (λ (z : ℕ). get_or d.names z 0) w, no)) in
        record {
          name = get_or-set_other d.names x y (n + 1) 0 other ∙ k.name;
          page = get_or-set_other d.pages n m x 0 ne ∙ k.page;
          stands = omega (arith, times_named-with_front d.links l n m, k.stands);
        }

    known : (y m : ℕ) → get_or (set d.names x (n + 1)) y 0 ≡ m + 1 → HasNode (put_in d l x n) y m
    known y m k = elim (eqb_tells y x) [
      | inl t ↦
          let k' : n + 1 ≡ m + 1 = sym (ap (λ (z : ℕ). get_or (set d.names x (n + 1)) z 0) t.1
          ∙ get_or-set_same d.names x (n + 1) 0 low) ∙ k in
          let w : n ≡ m = omega arith in
          subst (λ q. HasNode (put_in d l x n) y q) w (subst (λ q. HasNode (put_in d l x n) q n) (sym t.1) new)
      | inr t ↦ kept y m (h.known y m (sym (get_or-set_other d.names x y (n + 1) 0 t.1) ∙ k))
    ]

    named : (m : ℕ) → 1 ≤ times_named (with_front d.links l n) m
        → HasNode (put_in d l x n) (get_or (set d.pages n x) m 0) m
    named m k = elim (eqb_tells n m) [
      | inl t ↦ subst (λ q. HasNode (put_in d l x n) (get_or (set d.pages n x) q 0) q) t.1
          (subst (λ y. HasNode (put_in d l x n) y n) (sym (get_or-set_same d.pages n x 0 below)) new)
      | inr t ↦ subst (λ y. HasNode (put_in d l x n) y m)
          (sym (get_or-set_other d.pages n m x 0 (λ w. t.1 (sym w))))
          (kept (get_or d.pages m 0) m (h.named m (away m t.1 k)))
    ]

-- ---- a page leaves its list

abbrev pub taken_out : Naming → ℕ → ℕ → Naming
taken_out d x n = record {
  names = set d.names x 0;
  pages = d.pages;
  free = set d.free d.spare n;
  spare = d.spare + 1;
  links = forget d.links n;
}

pub spare_below : (d : Naming) (x n : ℕ) → IsNaming d → HasNode d x n → d.spare < length d.free
spare_below d x n h k =
    omega (arith, h.free.count, h.stack, k.stands, total_count-forget d.links n)

pub IsNaming-take : (d : Naming) (x n : ℕ) → IsNaming d → HasNode d x n → IsNaming (taken_out d x n)
IsNaming-take d x n h k = record {
  nodes = h.nodes;
  room = h.room;
  stack = length-set d.free d.spare n ∙ h.stack;
  fits = h.fits;
  once = λ m. omega (arith, times_named-forget d.links n m, h.once m);
  below = λ m s. h.below m (omega (arith, times_named-forget d.links n m));
  known = known;
  named = named;
  free = record {
    below = λ j lt. elim (eqb_tells j d.spare) [
      | inl t ↦ rw (t.1, top) (h.below n k.stands)
      | inr t ↦ rw (older j t.1) (h.free.below j (omega (arith, t.1)))
    ];
    nowhere = λ j lt. elim (eqb_tells j d.spare) [
      | inl t ↦ rw (t.1, top) (times_named-forget_same d.links n)
      | inr t ↦ rw (older j t.1) (omega (
        arith,
        times_named-forget d.links n (get_or d.free j 0),
        h.free.nowhere j (omega (arith, t.1)),
      ))
    ];
    differ = differ;
    count = omega (arith, h.free.count, total_count-forget d.links n, k.stands, h.once n);
  };
  used = omega (arith, h.used, named_fewer d.names x n k.name);
}
  where
    room : d.spare < length d.free
    room = spare_below d x n h k

    top : get_or (set d.free d.spare n) d.spare 0 ≡ n
    top = get_or-set_same d.free d.spare n 0 room

    older : (j : ℕ) → j ≢ d.spare → get_or (set d.free d.spare n) j 0 ≡ get_or d.free j 0
    older j ne = get_or-set_other d.free d.spare j n 0 ne

    apart : (j : ℕ) → j < d.spare → get_or d.free j 0 ≢ n
    apart j lt = λ w. absurd (omega (arith, h.free.nowhere j lt, ap (times_named d.links) w, k.stands))

    differ : (i j : ℕ) → i < j → j < d.spare + 1
        → get_or (set d.free d.spare n) i 0 ≢ get_or (set d.free d.spare n) j 0
    differ i j ij lt = elim (eqb_tells j d.spare) [
      | inl t ↦ λ w. apart i (omega (arith, t.1))
          (sym (older i (λ q. absurd (omega (arith, q, t.1)))) ∙ w
          ∙ ap (λ (z : ℕ). get_or (set d.free d.spare n) z 0) t.1 ∙ top)
      | inr t ↦ λ w. h.free.differ i j ij (omega (arith, t.1))
          (sym (older i (λ q. absurd (omega (arith, q)))) ∙ w ∙ older j t.1)
    ]

    kept : (y m : ℕ) → y ≢ x → n ≢ m → HasNode d y m → HasNode (taken_out d x n) y m
    kept y m other ne q = record {
      name = get_or-set_other d.names x y 0 0 other ∙ q.name;
      page = q.page;
      stands = omega (arith, times_named-forget_other d.links n m ne, q.stands);
    }

    cleared : get_or (set d.names x 0) x 0 ≡ 0
    cleared = get_or-set_same d.names x 0 0 (in_range d.names x (omega (arith, k.name)))

    known : (y m : ℕ) → get_or (set d.names x 0) y 0 ≡ m + 1 → HasNode (taken_out d x n) y m
    known y m q = elim (eqb_tells y x) [
      | inl t ↦ absurd (omega (arith, q, ap (λ (z : ℕ). get_or (set d.names x 0) z 0) t.1, cleared))
      | inr t ↦ old y m t.1 (h.known y m (sym (get_or-set_other d.names x y 0 0 t.1) ∙ q))
    ]
      where
        old : (y m : ℕ) → y ≢ x → HasNode d y m → HasNode (taken_out d x n) y m
        old y m other w = kept y m other
            (λ same. other (sym w.page ∙ ap (λ (z : ℕ). get_or d.pages z 0) (sym same) ∙ k.page)) w

    named : (m : ℕ) → 1 ≤ times_named (forget d.links n) m → HasNode (taken_out d x n) (get_or d.pages m 0) m
    named m s =
        let ne : n ≢ m = λ w. absurd (omega (
          arith,
          ap (times_named (forget d.links n)) w,
          times_named-forget_same d.links n,
        )) in
        let q : HasNode d (get_or d.pages m 0) m = h.named m (omega (arith, times_named-forget d.links n m)) in
        let other : get_or d.pages m 0 ≢ x = λ w. absurd (ne (same w q)) in
        kept (get_or d.pages m 0) m other ne q
      where
        same : get_or d.pages m 0 ≡ x → HasNode d (get_or d.pages m 0) m → n ≡ m
        same w q = omega (arith, q.name, ap (λ (z : ℕ). get_or d.names z 0) w, k.name)

-- ---- a page moves, and keeps its node

abbrev pub with_links : Naming → FourLists → Naming
with_links d s = record {
  names = d.names;
  pages = d.pages;
  free = d.free;
  spare = d.spare;
  links = s;
}

pub moved : (s : FourLists) (l : ListName) (n m : ℕ) → times_named s n ≡ 1
    → times_named (with_front (forget s n) l n) m ≡ times_named s m
moved s l n m one = elim (eqb_tells n m) [
  | inl t ↦ subst (λ q. times_named (with_front (forget s n) l n) q ≡ times_named s q) t.1
      (omega (arith, times_named-with_front (forget s n) l n n, times_named-forget_same s n, times_in-one n))
  | inr t ↦ omega (
    arith,
    times_named-with_front (forget s n) l n m,
    times_in-one_other n m t.1,
    times_named-forget_other s n m t.1,
  )
]

pub IsNaming-move : (d : Naming) (l : ListName) (n : ℕ) → IsNaming d → 1 ≤ times_named d.links n
    → IsNaming (with_links d (with_front (forget d.links n) l n))
IsNaming-move d l n h stands = record {
  nodes = pages-with_front (forget d.links n) l n ∙ h.nodes;
  room = c-with_front (forget d.links n) l n ∙ h.room;
  stack = h.stack;
  fits = h.fits;
  once = λ m. omega (arith, times m, h.once m);
  below = λ m k. h.below m (omega (arith, times m));
  known = λ x m k. kept x m (h.known x m k);
  named = λ m k. kept (get_or d.pages m 0) m (h.named m (omega (arith, times m)));
  free = record {
    below = h.free.below;
    nowhere = λ k lt. times (get_or d.free k 0) ∙ h.free.nowhere k lt;
    differ = h.free.differ;
    count = omega (
      arith,
      h.free.count,
      total-with_front (forget d.links n) l n,
      total_count-forget d.links n,
      one,
    );
  };
  used = h.used;
}
  where
    one : times_named d.links n ≡ 1
    one = omega (arith, h.once n)

    times : (m : ℕ) → times_named (with_front (forget d.links n) l n) m ≡ times_named d.links m
    times m = moved d.links l n m one

    kept : (x m : ℕ) → HasNode d x m → HasNode (with_links d (with_front (forget d.links n) l n)) x m
    kept x m k = record { name = k.name; page = k.page; stands = omega (arith, times m, k.stands) }

-- ---- what the steps do to the lists of pages

pub place-node : (d : Naming) (x n : ℕ) → IsNaming d → HasNode d x n → place (lists_named d) x ≡ place d.links n
place-node d x n h k =
    subst (λ y. place (lists_named d) y ≡ place d.links n) k.page
    (place_page (length d.names) d.names d.pages d.links (undone d h) n (h.named n k.stands).name)

pub after-node : (d : Naming) (x n : ℕ) → IsNaming d → HasNode d x n
    → after (lists_named d) x ≡ page_in d.pages (after d.links n)
after-node d x n h k =
    subst (λ y. after (lists_named d) y ≡ page_in d.pages (after d.links n)) k.page
    (after_page (length d.names) d.names d.pages d.links (undone d h) n (h.named n k.stands).name)

pub forget-node : (d : Naming) (x n : ℕ) → IsNaming d → HasNode d x n
    → lists_named (taken_out d x n) ≡ forget (lists_named d) x
forget-node d x n h k =
    ap (λ (c : ℕ). lists_at c d.pages (forget d.links n)) (length-set d.names x 0)
    ∙ subst (λ y. lists_at (length d.names) d.pages (forget d.links n) ≡ forget (lists_named d) y) k.page
    (forget_page (length d.names) d.names d.pages d.links (undone d h) n (h.named n k.stands).name)

-- a node that is free, and is taken next
pub record IsNext (d : Naming) (n : ℕ) : Type 0 where
  pub below : n < length d.pages
  pub nowhere : times_named d.links n ≡ 0

pub next_free : (d : Naming) (n : ℕ) → IsNaming d → 0 < d.spare → n ≡ get_or d.free (d.spare - 1) 0 → IsNext d n
next_free d n h room e = record {
  below = rw e (h.free.below (d.spare - 1) (omega arith));
  nowhere = rw e (h.free.nowhere (d.spare - 1) (omega arith));
}

pub put-node : (d : Naming) (l : ListName) (x n : ℕ) → IsNext d n
    → lists_named (put_in d l x n) ≡ with_front (lists_named d) l x
put-node d l x n h =
    ap (λ (c : ℕ). lists_at c (set d.pages n x) (with_front d.links l n)) (length-set d.names x (n + 1))
    ∙ put_page (length d.names) d.pages d.links l n x h.nowhere h.below

pub move-node : (d : Naming) (l : ListName) (n : ℕ) → IsNaming d → 1 ≤ times_named d.links n
    → lists_named (with_links d (with_front (forget d.links n) l n))
    ≡ with_front (forget (lists_named d) (get_or d.pages n 0)) l (get_or d.pages n 0)
move-node d l n h stands =
    with_front_page (length d.names) d.pages (forget d.links n) l n
    ∙ ap (λ (w : FourLists). with_front w l (get_or d.pages n 0))
    (forget_page (length d.names) d.names d.pages d.links (undone d h) n (h.named n stands).name)

pub last-named : (d : Naming) (l : ListName)
    → last_page (list_of (lists_named d) l) ≡ page_in d.pages (last_page (list_of d.links l))
last-named d l = rw (list_of-lists_at (length d.names) d.pages d.links l) (last d.pages (list_of d.links l))

pub drop-node : (d : Naming) (l : ListName) (n : ℕ) → IsNaming d → last_page (list_of d.links l) ≡ Some n
    → forget (lists_named d) (get_or d.pages n 0) ≡ without_last_of (lists_named d) l
drop-node d l n h e =
    forget-last_of (lists_named d) l (get_or d.pages n 0) (last-named d l ∙ ap (page_in d.pages) e)
    (once_named d (get_or d.pages n 0) h)

pub victim-named : (d : Naming) (l : ListName) (busy : ℕ → Bool)
    → last_not_busy (list_of (lists_named d) l) busy
    ≡ page_in d.pages (last_not_busy (list_of d.links l) (λ n. busy (get_or d.pages n 0)))
victim-named d l busy =
    rw (list_of-lists_at (length d.names) d.pages d.links l) (victim d.pages (list_of d.links l) busy)

-- ---- nothing stands in any list yet

pub IsNaming-new : (d : Naming) (nodes pages : ℕ) → d.links ≡ empty_lists nodes nodes → length d.pages ≡ nodes
    → length d.free ≡ nodes → d.spare ≡ nodes → nodes + 4 ≤ 4294967296
    → ((k : ℕ) → k < nodes → get_or d.free k 0 ≡ k) → d.names ≡ replicate pages 0 → IsNaming d
IsNaming-new d nodes pages links size free spare fits filled names = record {
  nodes = ap (λ (s : FourLists). s.pages) links ∙ sym size;
  room = ap (λ (s : FourLists). s.c) links ∙ sym size;
  stack = free ∙ sym size;
  fits = omega (arith, fits, size);
  once = λ n. omega (arith, none n);
  below = λ n k. absurd (omega (arith, none n));
  known = λ x n k. absurd (omega (arith, unnamed x, k));
  named = λ n k. absurd (omega (arith, none n));
  free = record {
    below = λ k lt. omega (arith, filled k (omega arith), size);
    nowhere = λ k lt. none (get_or d.free k 0);
    differ = λ j k jk lt w. absurd (omega (arith, w, filled j (omega arith), filled k (omega arith)));
    count = omega (arith, all, spare, size);
  };
  used = omega (arith, none_named pages d.names names, spare, size);
}
  where
    none : (n : ℕ) → times_named d.links n ≡ 0
    none n = ap (λ (s : FourLists). times_named s n) links

    all : total_count d.links ≡ 0
    all = ap (λ (s : FourLists). total_count s) links

    unnamed : (x : ℕ) → get_or d.names x 0 ≡ 0
    unnamed x = elim (cases_lt x (length d.names)) [
      | inl low ↦ ap (λ (xs : List ℕ). get_or xs x 0) names
          ∙ get_or-replicate {A = ℕ} pages x 0 0
          (omega (arith, low, ap (length {A = ℕ}) names, length-replicate {A = ℕ} pages 0))
      | inr past ↦ get_or_past d.names x 0 past
    ]

-- ---- the steps, in the words of the calls: the fields are d, which contracts see as v

pub some_spare : (d : Naming) (x : ℕ) → IsNaming d → x < length d.names → place (lists_named d) x ≡ None
    → (total_count (lists_named d) < length d.pages) ⊎ (length d.names ≤ length d.pages) → 0 < d.spare
some_spare d x h low absent has = elim has [
  | inl lt ↦ omega (arith, lt, h.free.count, total-lists_at (length d.names) d.pages d.links)
  | inr le ↦ omega (
    arith,
    le,
    h.used,
    some_unnamed d.names x low (no_name d x h (times_named-none (lists_named d) x absent)),
  )
]

pub has_spare : (d v : Naming) (x : ℕ) → IsNaming d → d ≡ v → x < length v.names → place (lists_named v) x ≡ None
    → (total_count (lists_named v) < length v.pages) ⊎ (length v.names ≤ length v.pages) → 0 < d.spare
has_spare d v x h e = subst (λ (w : Naming). x < length w.names → place (lists_named w) x ≡ None
    → (total_count (lists_named w) < length w.pages) ⊎ (length w.names ≤ length w.pages) → 0 < d.spare) e
    (some_spare d x h)

pub record Puts (d v : Naming) (l : ListName) (x n : ℕ) : Type 0 where
  pub below : n < length d.pages
  pub nowhere : place d.links n ≡ None
  pub naming : IsNaming (put_in d l x n)
  pub lists : lists_named (put_in d l x n) ≡ with_front (lists_named v) l x

pub puts : (d v : Naming) (l : ListName) (x n : ℕ) → IsNaming d → d ≡ v → x < length v.names
    → place (lists_named v) x ≡ None
    → (total_count (lists_named v) < length v.pages) ⊎ (length v.names ≤ length v.pages)
    → n ≡ get_or d.free (d.spare - 1) n → Puts d v l x n
puts d v l x n h e = subst (λ (w : Naming). x < length w.names → place (lists_named w) x ≡ None
    → (total_count (lists_named w) < length w.pages) ⊎ (length w.names ≤ length w.pages)
    → n ≡ get_or d.free (d.spare - 1) n → Puts d w l x n) e go
  where
    go : x < length d.names → place (lists_named d) x ≡ None
        → (total_count (lists_named d) < length d.pages) ⊎ (length d.names ≤ length d.pages)
        → n ≡ get_or d.free (d.spare - 1) n → Puts d d l x n
    go low absent has taken =
        let room : 0 < d.spare = some_spare d x h low absent has in
        let taken' : n ≡ get_or d.free (d.spare - 1) 0 =
        taken ∙ get_or_default d.free (d.spare - 1) n 0 (omega (arith, h.free.count, h.stack)) in
        let k : IsNext d n = next_free d n h room taken' in
        record {
          below = k.below;
          nowhere = place-times_named d.links n k.nowhere;
          naming = IsNaming-put d l x n h low (times_named-none (lists_named d) x absent) room taken';
          lists = put-node d l x n k;
        }

pub record Takes (d v : Naming) (x n : ℕ) : Type 0 where
  pub naming : IsNaming (taken_out d x n)
  pub lists : lists_named (taken_out d x n) ≡ forget (lists_named v) x

pub takes : (d v : Naming) (x n : ℕ) → IsNaming d → d ≡ v → HasNode v x n → Takes d v x n
takes d v x n h e = subst (λ (w : Naming). HasNode w x n → Takes d w x n) e (λ k. record {
  naming = IsNaming-take d x n h k;
  lists = forget-node d x n h k;
})

pub record MovesNode (d v : Naming) (l : ListName) (n : ℕ) : Type 0 where
  pub naming : IsNaming (with_links d (with_front (forget d.links n) l n))
  pub lists : lists_named (with_links d (with_front (forget d.links n) l n))
      ≡ with_front (forget (lists_named v) (get_or v.pages n 0)) l (get_or v.pages n 0)

pub moves_node : (d v : Naming) (l : ListName) (n : ℕ) → IsNaming d → d ≡ v → 1 ≤ times_named v.links n
    → MovesNode d v l n
moves_node d v l n h e = subst (λ (w : Naming). 1 ≤ times_named w.links n → MovesNode d w l n) e (λ k. record {
  naming = IsNaming-move d l n h k;
  lists = move-node d l n h k;
})

pub record Drops (v : Naming) (l : ListName) (p n : ℕ) : Type 0 where
  pub has : HasNode v p n
  pub lists : forget (lists_named v) p ≡ without_last_of (lists_named v) l

pub drops : (d v : Naming) (l : ListName) (p n : ℕ) → IsNaming d → d ≡ v → last_page (list_of d.links l) ≡ Some n
    → p ≡ get_or v.pages n 0 → Drops v l p n
drops d v l p n h e some = subst (λ (w : Naming). p ≡ get_or w.pages n 0 → Drops w l p n) e
    (λ q. subst (λ y. Drops d l y n) (sym q) (record {
      has = h.named n (last_stands d.links l n some);
      lists = drop-node d l n h some;
    }))

without_last_of-none : (s : FourLists) (l : ListName) → list_of s l ≡ [] → s ≡ without_last_of s l
without_last_of-none s T1 e = ap (λ (xs : List ℕ). record s { t1 = xs }) (e ∙ ap without_last (sym e))
without_last_of-none s T2 e = ap (λ (xs : List ℕ). record s { t2 = xs }) (e ∙ ap without_last (sym e))
without_last_of-none s B1 e = ap (λ (xs : List ℕ). record s { b1 = xs }) (e ∙ ap without_last (sym e))
without_last_of-none s B2 e = ap (λ (xs : List ℕ). record s { b2 = xs }) (e ∙ ap without_last (sym e))

pub drops_none : (d v : Naming) (l : ListName) → d ≡ v → last_page (list_of d.links l) ≡ None
    → lists_named v ≡ without_last_of (lists_named v) l
drops_none d v l e none = subst (λ (w : Naming). lists_named w ≡ without_last_of (lists_named w) l) e
    (without_last_of-none (lists_named d) l
    (last-none (list_of (lists_named d) l) (last-named d l ∙ ap (page_in d.pages) none)))

pub place_is : (d v : Naming) (x n : ℕ) → d ≡ v → IsNaming v → HasNode v x n
    → place d.links n ≡ place (lists_named v) x
place_is d v x n e h k =
    ap (λ (w : Naming). place w.links n) e ∙ sym (place-node v x n h k)

pub after-none : (s : FourLists) (x : ℕ) → times_named s x ≡ 0 → after s x ≡ None
after-none s x z = ap (option_and_then (λ list. next_after (list_of s list) x)) (place-times_named s x z)

pub has_name : (v : Naming) (x n : ℕ) → HasNode v x n → x < length v.names
has_name v x n k = in_range v.names x (omega (arith, k.name))

pub if_placed : (o : Option ListName) (P : Type 0) → P → IfSome o (λ _. P)
if_placed None P p = tt
if_placed (Some l) P p = p

pub room_for : (s : FourLists) (x n : ℕ) (P : Type 0) → times_named s x ≡ 0
    → (total_count (forget s x) < n) ⊎ P → (total_count s < n) ⊎ P
room_for s x n P z room = elim room [
  | inl lt ↦ inl (omega (arith, lt, total_count-forget s x))
  | inr p ↦ inr p
]

-- ---- a search

pub record Finds (v : Naming) (l : ListName) (busy : ℕ → Bool) (o : Option ℕ) : Type 0 where
  pub victim : page_in v.pages o ≡ last_not_busy (list_of (lists_named v) l) busy
  pub only : (n m p : ℕ) → o ≡ Some n → p ≡ get_or v.pages n 0 → HasNode v p m → n ≡ m

list_stands : (s : FourLists) (l : ListName) (n : ℕ) → contains (list_of s l) n ≡ true → 1 ≤ times_named s n
list_stands s T1 n c = omega (arith, times_in-contains s.t1 n c)
list_stands s T2 n c = omega (arith, times_in-contains s.t2 n c)
list_stands s B1 n c = omega (arith, times_in-contains s.b1 n c)
list_stands s B2 n c = omega (arith, times_in-contains s.b2 n c)

pub finds : (d v : Naming) (l : ListName) (busy : ℕ → Bool) (ps : List ℕ) (o : Option ℕ) → IsNaming d → d ≡ v
    → ps ≡ d.pages → o ≡ last_not_busy (list_of d.links l) (λ n. busy (get_or ps n 0)) → Finds v l busy o
finds d v l busy ps o h e same found = subst (λ (w : Naming). Finds w l busy o) e record {
  victim = ap (page_in d.pages) found' ∙ sym (victim-named d l busy);
  only = only;
}
  where
    found' : o ≡ last_not_busy (list_of d.links l) (λ n. busy (get_or d.pages n 0))
    found' = found ∙ ap (λ (xs : List ℕ). last_not_busy (list_of d.links l) (λ n. busy (get_or xs n 0))) same

    only : (n m p : ℕ) → o ≡ Some n → p ≡ get_or d.pages n 0 → HasNode d p m → n ≡ m
    only n m p some page k =
        let there : contains (list_of d.links l) n ≡ true = contains-last_not_busy (list_of d.links l)
        (λ y. busy (get_or d.pages y 0)) n (sym found' ∙ some) in
        omega (
          arith,
          (h.named n (list_stands d.links l n there)).name,
          ap (λ (y : ℕ). get_or d.names y 0) page,
          k.name,
        )

-- ---- the page that stands before another

pub placed : (s : FourLists) (n : ℕ) → 1 ≤ times_named s n → IsSome (place s n)
placed s n stands = go (place s n) refl
  where
    go : (o : Option ListName) → place s n ≡ o → IsSome o
    go None e = absurd (omega (arith, times_named-none s n e))
    go (Some l) e = refl

pub placed-node : (s : FourLists) (x : ℕ) → IsSome (place s x) → times_named s x ≢ 0
placed-node s x h = λ z. let none : place s x ≡ None = place-times_named s x z in
    nothing (place s x) none h
  where
    nothing : (o : Option ListName) → o ≡ None → IsSome o → ⊥
    nothing o e h = cc

pub record Aheads (v : Naming) (n : ℕ) (o : Option ℕ) : Type 0 where
  pub some : SomeAhead (lists_named v) (get_or v.pages n 0) (page_in v.pages o)
  pub none : NoneAhead (lists_named v) (get_or v.pages n 0) (page_in v.pages o)

pub aheads : (d v : Naming) (n : ℕ) (o : Option ℕ) → IsNaming d → d ≡ v → 1 ≤ times_named v.links n
    → SomeAhead d.links n o → NoneAhead d.links n o → Aheads v n o
aheads d v n o h e stands_v some none =
    subst (λ (w : Naming). 1 ≤ times_named w.links n → Aheads w n o) e
    (λ here. record { some = of_some o some here; none = of_none o none here }) stands_v
  where
    name : 1 ≤ times_named d.links n → get_or d.names (get_or d.pages n 0) 0 ≡ n + 1
    name here = (h.named n here).name

    at : (l : ListName) → 1 ≤ times_named d.links n → place (lists_named d) (get_or d.pages n 0) ≡ Some l
        → place d.links n ≡ Some l
    at l here p = sym (place-node d (get_or d.pages n 0) n h (h.named n here)) ∙ p

    pages_of : (l : ListName) → list_of (lists_named d) l ≡ pages_at d.pages (list_of d.links l)
    pages_of l = list_of-lists_at (length d.names) d.pages d.links l

    behind_at : (l : ListName) (m : ℕ) → get_or d.names (get_or d.pages m 0) 0 ≡ m + 1
        → behind (list_of (lists_named d) l) (get_or d.pages m 0) ≡ pages_at d.pages (behind (list_of d.links l) m)
    behind_at l m k =
        ap (λ (xs : List ℕ). behind xs (get_or d.pages m 0)) (pages_of l)
        ∙ behind_page d.names d.pages (list_of d.links l) m
        (in_list (length d.names) d.names d.pages d.links (undone d h) l) k

    of_some : (o : Option ℕ) → SomeAhead d.links n o → 1 ≤ times_named d.links n
        → SomeAhead (lists_named d) (get_or d.pages n 0) (page_in d.pages o)
    of_some None some here = λ l a p q. absurd (cc)
    of_some (Some m) some here = λ l a p q.
        let w : get_or d.pages m 0 ≡ a = cc in
        let r : (contains (list_of d.links l) m ≡ true) × (behind (list_of d.links l) m
        ≡ n ∷ behind (list_of d.links l) n) = some l m (at l here p) refl in
        let k : get_or d.names (get_or d.pages m 0) 0 ≡ m + 1 = (h.named m (list_stands d.links l m r.0)).name in
        subst (λ y. (contains (list_of (lists_named d) l) y ≡ true) × (behind (list_of (lists_named d) l) y
        ≡ get_or d.pages n 0 ∷ behind (list_of (lists_named d) l) (get_or d.pages n 0))) w (
          ap (λ (xs : List ℕ). contains xs (get_or d.pages m 0)) (pages_of l)
              ∙ stands d.names d.pages (list_of d.links l) m
              (in_list (length d.names) d.names d.pages d.links (undone d h) l) k ∙ r.0,
          behind_at l m k ∙ ap (pages_at d.pages) r.1
              ∙ ap (λ (xs : List ℕ). get_or d.pages n 0 ∷ xs) (sym (behind_at l n (name here))),
        )

    of_none : (o : Option ℕ) → NoneAhead d.links n o → 1 ≤ times_named d.links n
        → NoneAhead (lists_named d) (get_or d.pages n 0) (page_in d.pages o)
    of_none (Some m) none here = λ l p q. absurd (cc)
    of_none None none here = λ l p q.
        pages_of l ∙ ap (pages_at d.pages) (none l (at l here p) refl)
        ∙ ap (λ (xs : List ℕ). get_or d.pages n 0 ∷ xs) (sym (behind_at l n (name here)))
