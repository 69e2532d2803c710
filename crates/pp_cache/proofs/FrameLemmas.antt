-- Lemmas on the frames: what is left of their order where a page comes, goes, moves or is pinned.
use Rattle.std.proofs.Common.{◌≡◌, ◌≢◌, ℕ, suc, ◌+◌, ◌-◌, ◌*◌, ◌<◌, ◌≤◌, ◌^◌, Bool, true, false, cond, eqb, List, [], ◌∷◌}
use Rattle.std.proofs.Common.{◌++◌, length, take, drop, replicate, get_or, set, refl, ap, sym, ◌∙◌, arith, inl, inr, eq-eqb, subst}
use Rattle.std.proofs.Common.{drop-cons, add-one, length-append, length-set, get_or-set_other, get_or-set_same}
use Rattle.std.specs.Prelude.{Option, None, Some, is_some, count_by, sum_by}
use Rattle.std.specs.Option.{option_map}
use Rattle.std.proofs.lemmas.Bool.{cases_lt, cases_eq}
use Rattle.std.proofs.lemmas.Bool.Decides.{eqb_tells}
use Rattle.std.proofs.lemmas.List.{get_or_past, drop-append-le, drop-set-lt, drop_all, length-replicate, set-get_or, take_all}
use Rattle.std.proofs.lemmas.List.Sums.{sum_by-set, get_or-le-sum_by, count_by-le-length, sum_by-append}
use Rattle.std.proofs.lemmas.List.Folds.{sum_by-replicate}
use Rattle.pp_arc.specs.Pages.{times_in}
use Rattle.pp_cache.specs.declared.resident.Resident.{Resident}
use Rattle.pp_cache.specs.Frames.{FrameMap, is_held, resident_count, IsFree, IsOneToOne}
use Rattle.pp_cache.specs.Kept.{Parts, IsKept, frame_map, free_frames, is_in, uses}

-- ---- counts

abbrev pub one_for : Bool → ℕ
one_for b = cond b 1 0

pub count-set : (q : Option Resident → Bool) (pages : List (Option Resident)) (k : ℕ) (o : Option Resident)
    → k < length pages
    → count_by q (set pages k o) + one_for (q (get_or pages k None)) ≡ count_by q pages + one_for (q o)
count-set q pages k o lt = sum_by-set (λ x. one_for (q x)) pages k o None lt

-- a page that stands in a frame is below the last key
pub below_pages : (pages : List (Option Resident)) (k : ℕ) (r : Resident) → get_or pages k None ≡ Some r
    → k < length pages
below_pages pages k r e = elim (cases_lt k (length pages)) [
  | inl lt ↦ lt
  | inr le ↦ let n : Some r ≡ None = sym e ∙ get_or_past pages k None le in absurd (cc)
]

-- a page that passes is counted, and two are counted twice
pub counted : (q : Option Resident → Bool) (pages : List (Option Resident)) (k : ℕ) → q None ≡ false
    → q (get_or pages k None) ≡ true → 1 ≤ count_by q pages
counted q pages k none here = elim (cases_lt k (length pages)) [
  | inl lt ↦ let e : one_for (q (get_or pages k None)) ≡ 1 = ap one_for here in
      omega (arith, e, get_or-le-sum_by (λ x. one_for (q x)) pages k None lt)
  | inr le ↦ let n : false ≡ true = sym none ∙ ap q (sym (get_or_past pages k None le)) ∙ here in absurd (cc)
]

pub counted_twice : (q : Option Resident → Bool) (pages : List (Option Resident)) (k j : ℕ) → q None ≡ false → k ≢ j
    → q (get_or pages k None) ≡ true → q (get_or pages j None) ≡ true → 2 ≤ count_by q pages
counted_twice q pages k j none ne here there = elim (cases_lt k (length pages)) [
  | inl lt ↦ let e : one_for (q (get_or pages k None)) ≡ 1 = ap one_for here in
      let z : one_for (q None) ≡ 0 = ap one_for none in
      let other : q (get_or (set pages k None) j None) ≡ true =
      ap q (get_or-set_other pages k j None None (λ w. ne (sym w))) ∙ there in
      omega (arith, e, z, count-set q pages k None lt, counted q (set pages k None) j none other)
  | inr le ↦ let n : false ≡ true = sym none ∙ ap q (sym (get_or_past pages k None le)) ∙ here in absurd (cc)
]

-- ---- what is kept, in a caller's words

pub is_in-frame : (o : Option Resident) (f : ℕ) → option_map (λ (page : Resident). page.frame) o ≡ Some f
    → is_in f o ≡ true
is_in-frame None f e = absurd (cc)
is_in-frame (Some r) f e = let same : r.frame ≡ f = cc in eq-eqb r.frame f same

pub once_at_most : (p : Parts) (f : ℕ) → IsKept p → uses p f ≤ 1
once_at_most p f h = elim (cases_lt f (length p.order)) [
  | inl lt ↦ omega (arith, h.once f lt)
  | inr le ↦ omega (arith, h.never f le)
]

pub one_to_one : (p : Parts) → IsKept p → IsOneToOne (frame_map p)
one_to_one p h = record {
  in_range = λ k f e. elim (cases_lt f (length p.order)) [
    | inl lt ↦ lt
    | inr le ↦ absurd (omega (
      arith,
      h.never f le,
      counted (is_in f) p.pages k refl (is_in-frame (get_or p.pages k None) f e),
    ))
  ];
  no_frame_twice = λ k j f e g. elim (cases_eq k j) [
    | inl same ↦ same
    | inr ne ↦ absurd (omega (
      arith,
      once_at_most p f h,
      counted_twice (is_in f) p.pages k j refl ne (is_in-frame (get_or p.pages k None) f e)
          (is_in-frame (get_or p.pages j None) f g),
    ))
  ];
}

-- a frame that is free
pub record IsOpen (p : Parts) (f : ℕ) : Type 0 where
  pub low : f < length p.order
  pub free : IsFree (frame_map p) f

pub open_frame : (p : Parts) (f : ℕ) → IsKept p → 1 ≤ times_in (free_frames p) f → IsOpen p f
open_frame p f h one = record {
  low = elim (cases_lt f (length p.order)) [ inl lt ↦ lt | inr le ↦ absurd (omega (arith, h.never f le)) ];
  free = λ k e. omega (
    arith,
    once_at_most p f h,
    counted (is_in f) p.pages k refl (is_in-frame (get_or p.pages k None) f e),
  );
}

-- ---- a page comes

abbrev pub new_page : ℕ → Resident
new_page f = record { frame = f; is_pinned = true }

pub first_free : (p : Parts) (f : ℕ) → p.taken < length p.order → f ≡ get_or p.order p.taken 0
    → free_frames p ≡ f ∷ drop (p.taken + 1) p.order
first_free p f lt e = rw (add-one, e) (drop-cons p.order p.taken 0 lt)

times_in-first : (f : ℕ) (xs : List ℕ) → 1 ≤ times_in (f ∷ xs) f
times_in-first f xs = let e : one_for (eqb f f) ≡ 1 = ap one_for (eq-eqb f f refl) in omega (arith, e)

pub open_first : (p : Parts) (f : ℕ) → IsKept p → p.taken < length p.order → f ≡ get_or p.order p.taken 0 → IsOpen p f
open_first p f h lt e = open_frame p f h (rw (first_free p f lt e) (times_in-first f (drop (p.taken + 1) p.order)))

-- where fewer pages stand in frames than there are, a frame is free
pub taken_room : (p : Parts) (m : FrameMap) → IsKept p → frame_map p ≡ m → resident_count m < m.frames
    → p.taken < length p.order
taken_room p m h e less = omega (arith, h.taken, subst (λ (w : FrameMap). resident_count w < w.frames) (sym e) less)

pub kept-take : (p : Parts) (key f : ℕ) → IsKept p → key < length p.pages → get_or p.pages key None ≡ None
    → p.taken < length p.order → f ≡ get_or p.order p.taken 0
    → IsKept (record p {
      pages = set p.pages key (Some (new_page f));
      taken = p.taken + 1;
      pinned = p.pinned + 1;
    })
kept-take p key f h lt none room e = record {
  taken = omega (arith, h.taken, count-set is_some p.pages key (Some (new_page f)) lt, zero_at is_some refl);
  pinned = omega (arith, h.pinned, count-set is_held p.pages key (Some (new_page f)) lt, zero_at is_held refl);
  within = omega arith;
  keys_fit = omega (arith, h.keys_fit, length-set p.pages key (Some (new_page f)));
  frames_fit = h.frames_fit;
  once = λ g low. omega (arith, h.once g low, same g);
  never = λ g past. omega (arith, h.never g past, same g);
}
  where
    zero_at : (q : Option Resident → Bool) → q None ≡ false → one_for (q (get_or p.pages key None)) ≡ 0
    zero_at q fails = ap (λ o. one_for (q o)) none ∙ ap one_for fails

    same : (g : ℕ)
        → times_in (drop (p.taken + 1) p.order) g + count_by (is_in g) (set p.pages key (Some (new_page f))) ≡ uses p g
    same g =
        let a : times_in (free_frames p) g ≡ one_for (eqb f g) + times_in (drop (p.taken + 1) p.order) g =
        ap (λ xs. times_in xs g) (first_free p f room e) in
        omega (arith, a, count-set (is_in g) p.pages key (Some (new_page f)) lt, zero_at (is_in g) refl)

-- ---- a page goes

pub some_taken : (p : Parts) (key : ℕ) (r : Resident) → IsKept p → get_or p.pages key None ≡ Some r → 1 ≤ p.taken
some_taken p key r h e = omega (arith, h.taken, counted is_some p.pages key refl (ap is_some e))

pub held_counts : (p : Parts) (key : ℕ) (r : Resident) → IsKept p → get_or p.pages key None ≡ Some r
    → one_for r.is_pinned ≤ p.pinned
held_counts p key r h e =
    let z : one_for (is_held (get_or p.pages key None)) ≡ one_for r.is_pinned = ap (λ o. one_for (is_held o)) e in
    omega (arith, h.pinned, z, count-set is_held p.pages key None (below_pages p.pages key r e))

freed_front : (order : List ℕ) (taken f : ℕ) → 1 ≤ taken → taken ≤ length order
    → drop (taken - 1) (set order (taken - 1) f) ≡ f ∷ drop taken order
freed_front order taken f some within =
    let lt : taken - 1 < length order = omega arith in
    let lt' : taken - 1 < length (set order (taken - 1) f) = omega (arith, length-set order (taken - 1) f) in
    let next : suc (taken - 1) ≡ taken = omega arith in
    drop-cons (set order (taken - 1) f) (taken - 1) 0 lt'
    ∙ ap (λ x. x ∷ drop (suc (taken - 1)) (set order (taken - 1) f)) (get_or-set_same order (taken - 1) f 0 lt)
    ∙ ap (λ xs. f ∷ xs) (drop-set-lt (suc (taken - 1)) order (taken - 1) f (omega arith))
    ∙ ap (λ n. f ∷ drop n order) next

pub kept-release : (p : Parts) (key : ℕ) (r : Resident) → IsKept p → get_or p.pages key None ≡ Some r
    → IsKept (record {
      pages = set p.pages key None;
      order = set p.order (p.taken - 1) r.frame;
      taken = p.taken - 1;
      pinned = p.pinned - one_for r.is_pinned;
    })
kept-release p key r h e = record {
  taken = omega (arith, h.taken, count-set is_some p.pages key None lt, ap (λ o. one_for (is_some o)) e);
  pinned = omega (arith, h.pinned, count-set is_held p.pages key None lt, ap (λ o. one_for (is_held o)) e);
  within = omega (arith, h.within, length-set p.order (p.taken - 1) r.frame);
  keys_fit = omega (arith, h.keys_fit, length-set p.pages key None);
  frames_fit = omega (arith, h.frames_fit, length-set p.order (p.taken - 1) r.frame);
  once = λ g low. omega (arith, h.once g (omega (arith, low, length-set p.order (p.taken - 1) r.frame)), same g);
  never = λ g past. omega (arith, h.never g (omega (arith, past, length-set p.order (p.taken - 1) r.frame)), same g);
}
  where
    lt : key < length p.pages
    lt = below_pages p.pages key r e

    same : (g : ℕ)
        → times_in (drop (p.taken - 1) (set p.order (p.taken - 1) r.frame)) g
        + count_by (is_in g) (set p.pages key None) ≡ uses p g
    same g =
        let a : times_in (drop (p.taken - 1) (set p.order (p.taken - 1) r.frame)) g
        ≡ one_for (eqb r.frame g) + times_in (free_frames p) g =
        ap (λ xs. times_in xs g) (freed_front p.order p.taken r.frame (some_taken p key r h e) h.within) in
        let z : one_for (is_in g (get_or p.pages key None)) ≡ one_for (eqb r.frame g) =
        ap (λ o. one_for (is_in g o)) e in
        omega (arith, a, z, count-set (is_in g) p.pages key None lt)

-- ---- a page is pinned or unpinned

pub kept-pin : (p : Parts) (key : ℕ) (r : Resident) (is : Bool) → IsKept p → get_or p.pages key None ≡ Some r
    → IsKept (record p {
      pages = set p.pages key (Some (record { frame = r.frame; is_pinned = is }));
      pinned = p.pinned - one_for r.is_pinned + one_for is;
    })
kept-pin p key r is h e = record {
  taken = omega (arith, h.taken, count-set is_some p.pages key (Some page) lt, ap (λ o. one_for (is_some o)) e);
  pinned = omega (
    arith,
    h.pinned,
    held_counts p key r h e,
    count-set is_held p.pages key (Some page) lt,
    ap (λ o. one_for (is_held o)) e,
  );
  within = h.within;
  keys_fit = omega (arith, h.keys_fit, length-set p.pages key (Some page));
  frames_fit = h.frames_fit;
  once = λ g low. omega (arith, h.once g low, same g);
  never = λ g past. omega (arith, h.never g past, same g);
}
  where
    page : Resident
    page = record { frame = r.frame; is_pinned = is }

    lt : key < length p.pages
    lt = below_pages p.pages key r e

    same : (g : ℕ)
        → times_in (free_frames p) g
        + count_by (is_in g) (set p.pages key (Some (record { frame = r.frame; is_pinned = is }))) ≡ uses p g
    same g =
        let z : one_for (is_in g (get_or p.pages key None)) ≡ one_for (eqb r.frame g) =
        ap (λ o. one_for (is_in g o)) e in
        omega (arith, z, count-set (is_in g) p.pages key (Some (record { frame = r.frame; is_pinned = is })) lt)

-- ---- a page gets another key

pub kept-move : (p : Parts) (from to : ℕ) (r : Resident) → IsKept p → get_or p.pages from None ≡ Some r
    → get_or p.pages to None ≡ None → to < length p.pages
    → IsKept (record p { pages = set (set p.pages from None) to (Some r) })
kept-move p from to r h e none lt = record {
  taken = omega (arith, h.taken, same_count is_some refl);
  pinned = omega (arith, h.pinned, same_count is_held refl);
  within = h.within;
  keys_fit = omega (
    arith,
    h.keys_fit,
    length-set p.pages from None,
    length-set (set p.pages from None) to (Some r),
  );
  frames_fit = h.frames_fit;
  once = λ g low. omega (arith, h.once g low, same_count (is_in g) refl);
  never = λ g past. omega (arith, h.never g past, same_count (is_in g) refl);
}
  where
    away : to ≢ from
    away = λ w. let k : get_or p.pages from None ≡ None = rw w at none in cc

    gone : get_or (set p.pages from None) to None ≡ None
    gone = get_or-set_other p.pages from to None None away ∙ none

    same_count : (q : Option Resident → Bool) → q None ≡ false
        → count_by q (set (set p.pages from None) to (Some r)) ≡ count_by q p.pages
    same_count q fails = omega (
      arith,
      count-set q p.pages from None (below_pages p.pages from r e),
      count-set q (set p.pages from None) to (Some r) (omega (arith, lt, length-set p.pages from None)),
      ap (λ o. one_for (q o)) e,
      ap (λ o. one_for (q o)) gone,
      ap one_for fails,
    )

-- ---- more keys, and one more frame

pub kept-grow : (p : Parts) (n : ℕ) → IsKept p → length p.pages + n + 4 ≤ 2 ^ 32
    → IsKept (record p { pages = p.pages ++ replicate n None })
kept-grow p n h fits = record {
  taken = omega (arith, h.taken, same_count is_some refl);
  pinned = omega (arith, h.pinned, same_count is_held refl);
  within = h.within;
  keys_fit = omega (arith, fits, length-append p.pages (replicate n None), length-replicate n none);
  frames_fit = h.frames_fit;
  once = λ g low. omega (arith, h.once g low, same_count (is_in g) refl);
  never = λ g past. omega (arith, h.never g past, same_count (is_in g) refl);
}
  where
    none : Option Resident
    none = None

    same_count : (q : Option Resident → Bool) → q None ≡ false
        → count_by q (p.pages ++ replicate n None) ≡ count_by q p.pages
    same_count q fails =
        let z : sum_by (λ x. one_for (q x)) (replicate n None) ≡ n * 0 =
        sum_by-replicate (λ x. one_for (q x)) n None ∙ ap (λ b. n * one_for b) fails in
        omega (arith, z, sum_by-append (λ x. one_for (q x)) p.pages (replicate n None))

pub kept-free : (p : Parts) → IsKept p → p.taken ≡ length p.order
    → IsKept (record p { order = p.order ++ p.taken ∷ [] })
kept-free p h full = record {
  taken = h.taken;
  pinned = h.pinned;
  within = omega (arith, longer);
  keys_fit = h.keys_fit;
  frames_fit = omega (arith, longer, h.taken, h.keys_fit, count_by-le-length is_some p.pages);
  once = λ g low. elim (eqb_tells p.taken g) [
    | inl t ↦ omega (arith, free g, ap one_for t.0, h.never g (omega (arith, t.1)), none g)
    | inr t ↦ omega (arith, free g, ap one_for t.0, h.once g (omega (arith, t.1, low, longer)), none g)
  ];
  never = λ g past. elim (eqb_tells p.taken g) [
    | inl t ↦ absurd (omega (arith, t.1, past, longer))
    | inr t ↦ omega (arith, free g, ap one_for t.0, h.never g (omega (arith, past, longer)), none g)
  ];
}
  where
    longer : length (p.order ++ p.taken ∷ []) ≡ length p.order + 1
    longer = length-append p.order (p.taken ∷ [])

    all : drop p.taken p.order ≡ []
    all = drop_all p.taken p.order (omega (arith, full))

    none : (g : ℕ) → times_in (free_frames p) g ≡ 0
    none g = ap (λ xs. times_in xs g) all

    free : (g : ℕ) → times_in (drop p.taken (p.order ++ p.taken ∷ [])) g ≡ one_for (eqb p.taken g) + 0
    free g = ap (λ xs. times_in xs g)
        (drop-append-le p.taken p.order (p.taken ∷ []) (omega (arith, full)) ∙ ap (λ xs. xs ++ p.taken ∷ []) all)

-- ---- lists of pages

-- a page that stands nowhere is taken out of no frame
pub set-none : (pages : List (Option Resident)) (k : ℕ) → get_or pages k None ≡ None → set pages k None ≡ pages
set-none pages k e = ap (set pages k) (sym e) ∙ set-get_or pages k None

-- ---- what code leaves of a list, where memory may lack

pub kept-resized : (p : Parts) (pages : List (Option Resident)) (is : Bool) (n len : ℕ) → IsKept p
    → pages ≡ cond is (take n p.pages ++ replicate (n - len) None) p.pages → len ≡ length p.pages → length p.pages ≤ n
    → n + 4 ≤ 2 ^ 32 → IsKept (record p { pages = pages })
kept-resized p pages false n len h e size more fits = rw e h
kept-resized p pages true n len h e size more fits =
    let all : take n p.pages ≡ p.pages = take_all n p.pages more in
    rw (e, all) (kept-grow p (n - len) h (omega (arith, size, more, fits)))

pub kept-pushed : (p : Parts) (order : List ℕ) (is : Bool) → IsKept p → order ≡ cond is (p.order ++ p.taken ∷ []) p.order
    → p.taken ≡ length p.order → IsKept (record p { order = order })
kept-pushed p order false h e full = rw e h
kept-pushed p order true h e full = rw e (kept-free p h full)
