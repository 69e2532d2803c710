-- Lemmas on numbers by slot: each step keeps what holds of slots, and what it does to the numbers of pages.
use Rattle.std.proofs.Common.{◌≡◌, ◌≢◌, ◌∙◌, ℕ, suc, ◌+◌, ◌-◌, ◌<◌, ◌≤◌, List, [], ◌∷◌, length, get_or, set, refl}
use Rattle.std.proofs.Common.{sym, ap, subst, arith, inl, inr, length-set, get_or-set_other, get_or-set_same}
use Rattle.std.specs.Prelude.{sum_by, replicate}
use Rattle.std.proofs.lemmas.Bool.{cases_lt}
use Rattle.std.proofs.lemmas.Bool.Decides.{eqb_tells}
use Rattle.std.proofs.lemmas.List.{get_or_default, get_or_past, get_or-map, get_or-replicate}
use Rattle.std.proofs.lemmas.List.{length-replicate, ext_get_or}
use Rattle.std.proofs.lemmas.List.Sums.{sum_by-cons}
use Rattle.pp_arc.specs.Passed.{counts}
use Rattle.pp_arc.specs.Slots.{Slotted, IsBySlot, IsSlotted, by_page, numbers_of, freed_t1_of, freed_t2_of}
use Rattle.pp_arc.proofs.NamingLemmas.{in_range, named_more, named_fewer, none_named, one_more}

-- ---- what is kept by slot, by page

pub long : (slots xs : List ℕ) → length (by_page slots xs) ≡ length slots
long [] xs = refl
long (s ∷ slots) xs = ap suc (long slots xs)

pub get_by_page : (slots xs : List ℕ) (x : ℕ) → get_or xs 0 0 ≡ 0
    → get_or (by_page slots xs) x 0 ≡ get_or xs (get_or slots x 0) 0
get_by_page slots xs x none = elim (cases_lt x (length slots)) [
  | inl low ↦ get_or-map (λ (s : ℕ). get_or xs s 0) slots x 0 0 low
  | inr past ↦ get_or_past (by_page slots xs) x 0 (omega (arith, long slots xs))
      ∙ sym (ap (λ (s : ℕ). get_or xs s 0) (get_or_past slots x 0 past) ∙ none)
]

-- the number of one page changes
pub written : (slots ts xs ys : List ℕ) (x n : ℕ) → get_or xs 0 0 ≡ 0 → get_or ys 0 0 ≡ 0
    → length ts ≡ length slots → x < length slots → get_or ys (get_or ts x 0) 0 ≡ n
    → ((y : ℕ) → y ≢ x → get_or ys (get_or ts y 0) 0 ≡ get_or xs (get_or slots y 0) 0)
    → by_page ts ys ≡ set (by_page slots xs) x n
written slots ts xs ys x n none none' size low here other =
    ext_get_or 0 (by_page ts ys) (set (by_page slots xs) x n)
    (long ts ys ∙ size ∙ sym (length-set (by_page slots xs) x n ∙ long slots xs))
    (λ i lt. get_by_page ts ys i none' ∙ at i)
  where
    at : (i : ℕ) → get_or ys (get_or ts i 0) 0 ≡ get_or (set (by_page slots xs) x n) i 0
    at i = elim (eqb_tells i x) [
      | inl t ↦ ap (λ (j : ℕ). get_or ys (get_or ts j 0) 0) t.1 ∙ here
          ∙ sym (ap (λ (j : ℕ). get_or (set (by_page slots xs) x n) j 0) t.1
          ∙ get_or-set_same (by_page slots xs) x n 0 (omega (arith, low, long slots xs)))
      | inr t ↦ other i t.1
          ∙ sym (get_or-set_other (by_page slots xs) x i n 0 t.1 ∙ get_by_page slots xs i none)
    ]

-- no number changes
pub unwritten : (slots ts xs : List ℕ) → get_or xs 0 0 ≡ 0 → length ts ≡ length slots
    → ((y : ℕ) → get_or xs (get_or ts y 0) 0 ≡ get_or xs (get_or slots y 0) 0) → by_page ts xs ≡ by_page slots xs
unwritten slots ts xs none size same =
    ext_get_or 0 (by_page ts xs) (by_page slots xs) (long ts xs ∙ size ∙ sym (long slots xs))
    (λ i lt. get_by_page ts xs i none ∙ same i ∙ sym (get_by_page slots xs i none))

-- a number that is none stays so
pub none_written : (xs : List ℕ) (x : ℕ) → get_or xs x 0 ≡ 0 → xs ≡ set xs x 0
none_written xs x none = ext_get_or 0 xs (set xs x 0) (sym (length-set xs x 0)) (λ i lt. at i)
  where
    at : (i : ℕ) → get_or xs i 0 ≡ get_or (set xs x 0) i 0
    at i = elim (eqb_tells i x) [
      | inl t ↦ elim (cases_lt x (length xs)) [
        | inl low ↦ ap (λ (j : ℕ). get_or xs j 0) t.1 ∙ none
            ∙ sym (ap (λ (j : ℕ). get_or (set xs x 0) j 0) t.1 ∙ get_or-set_same xs x 0 0 low)
        | inr past ↦ get_or_past xs i 0 (omega (arith, t.1, past))
            ∙ sym (get_or_past (set xs x 0) i 0 (omega (arith, t.1, past, length-set xs x 0)))
      ]
      | inr t ↦ sym (get_or-set_other xs x i 0 0 t.1)
    ]

-- ---- a page with a slot

-- two pages have two slots
apart : (d : Slotted) (x y s : ℕ) → IsSlotted d → s ≡ get_or d.slots x 0 → 0 < s → y ≢ x → get_or d.slots y 0 ≢ s
apart d x y s h e some ne w =
    ne (sym (h.known y (omega (arith, w, some))) ∙ ap (λ (t : ℕ). get_or d.pages t 0) (w ∙ e)
    ∙ h.known x (omega (arith, e, some)))

-- what is kept of the slot changes
abbrev pub IsKept : Slotted → List ℕ → Type 0
IsKept d xs = IsBySlot d.slots d.pages xs

kept-set : (d : Slotted) (xs : List ℕ) (x s n : ℕ) → IsSlotted d → IsKept d xs → s ≡ get_or d.slots x 0 → 0 < s
    → IsKept d (set xs s n)
kept-set d xs x s n h k e some = record {
  size = length-set xs s n ∙ k.size;
  none = get_or-set_other xs s 0 n 0 (λ w. absurd (omega (arith, w, some))) ∙ k.none;
  owned = λ t lt. elim (eqb_tells t s) [
    | inl p ↦ subst (λ (q : ℕ). get_or d.slots (get_or d.pages q 0) 0 ≡ q) (sym p.1) own
    | inr p ↦ k.owned t (omega (arith, lt, get_or-set_other xs s t n 0 p.1))
  ];
}
  where
    own : get_or d.slots (get_or d.pages s 0) 0 ≡ s
    own = ap (λ (t : ℕ). get_or d.slots (get_or d.pages t 0) 0) e
        ∙ ap (λ (y : ℕ). get_or d.slots y 0) (h.known x (omega (arith, e, some))) ∙ sym e

pub by_page-set : (d : Slotted) (xs : List ℕ) (x s n : ℕ) → IsSlotted d → IsKept d xs → s ≡ get_or d.slots x 0 → 0 < s
    → by_page d.slots (set xs s n) ≡ set (by_page d.slots xs) x n
by_page-set d xs x s n h k e some =
    written d.slots d.slots xs (set xs s n) x n k.none (kept-set d xs x s n h k e some).none refl
    (in_range d.slots x (omega (arith, e, some)))
    (ap (λ (t : ℕ). get_or (set xs s n) t 0) (sym e)
    ∙ get_or-set_same xs s n 0 (omega (arith, e, h.below x, k.size)))
    (λ y ne. get_or-set_other xs s (get_or d.slots y 0) n 0 (apart d x y s h e some ne))

abbrev pub with_numbers : Slotted → List ℕ → Slotted
with_numbers d xs = record d { numbers = xs }

abbrev pub with_freed_t1 : Slotted → List ℕ → Slotted
with_freed_t1 d xs = record d { freed_t1 = xs }

abbrev pub with_freed_t2 : Slotted → List ℕ → Slotted
with_freed_t2 d xs = record d { freed_t2 = xs }

-- the fields are d, which contracts see as v
pub record Sets (d v : Slotted) (xs zs : List ℕ) (x s n : ℕ) : Type 0 where
  pub low : s < length xs
  pub kept : IsKept d (set xs s n)
  pub is : by_page d.slots (set xs s n) ≡ set (by_page v.slots zs) x n

sets : (d : Slotted) (xs : List ℕ) (x s n : ℕ) → IsSlotted d → IsKept d xs → s ≡ get_or d.slots x 0 → 0 < s
    → Sets d d xs xs x s n
sets d xs x s n h k e some = record {
  low = omega (arith, e, h.below x, k.size);
  kept = kept-set d xs x s n h k e some;
  is = by_page-set d xs x s n h k e some;
}

pub sets_number : (d v : Slotted) (x s n : ℕ) → IsSlotted d → d ≡ v → s ≡ get_or v.slots x 0 → 0 < s
    → Sets d v d.numbers v.numbers x s n
sets_number d v x s n h same e some =
    subst (λ (w : Slotted). s ≡ get_or w.slots x 0 → Sets d w d.numbers w.numbers x s n) same
    (λ e. sets d d.numbers x s n h h.numbers e some) e

pub sets_t1 : (d v : Slotted) (x s n : ℕ) → IsSlotted d → d ≡ v → s ≡ get_or v.slots x 0 → 0 < s
    → Sets d v d.freed_t1 v.freed_t1 x s n
sets_t1 d v x s n h same e some =
    subst (λ (w : Slotted). s ≡ get_or w.slots x 0 → Sets d w d.freed_t1 w.freed_t1 x s n) same
    (λ e. sets d d.freed_t1 x s n h h.freed_t1 e some) e

pub sets_t2 : (d v : Slotted) (x s n : ℕ) → IsSlotted d → d ≡ v → s ≡ get_or v.slots x 0 → 0 < s
    → Sets d v d.freed_t2 v.freed_t2 x s n
sets_t2 d v x s n h same e some =
    subst (λ (w : Slotted). s ≡ get_or w.slots x 0 → Sets d w d.freed_t2 w.freed_t2 x s n) same
    (λ e. sets d d.freed_t2 x s n h h.freed_t2 e some) e

-- a page with a slot still has a number where that of one slot is another one
numbered-set : (d : Slotted) (s n : ℕ) → IsSlotted d → 0 < n → s < length d.numbers
    → (x : ℕ) → 0 < get_or d.slots x 0 → 0 < get_or (set d.numbers s n) (get_or d.slots x 0) 0
numbered-set d s n h pos low x lt = elim (eqb_tells (get_or d.slots x 0) s) [
  | inl p ↦
      let is : get_or (set d.numbers s n) (get_or d.slots x 0) 0 ≡ n =
      ap (λ (t : ℕ). get_or (set d.numbers s n) t 0) p.1 ∙ get_or-set_same d.numbers s n 0 low in
      subst (λ (m : ℕ). 0 < m) (sym is) pos
  | inr p ↦ subst (λ (m : ℕ). 0 < m) (sym (get_or-set_other d.numbers s (get_or d.slots x 0) n 0 p.1)) (h.numbered x lt)
]

pub IsSlotted-number : (d : Slotted) (s n : ℕ) → IsSlotted d → 0 < n → s < length d.numbers
    → IsKept d (set d.numbers s n) → IsSlotted (with_numbers d (set d.numbers s n))
IsSlotted-number d s n h pos low k = record {
  size = h.size;
  numbers = k;
  freed_t1 = h.freed_t1;
  freed_t2 = h.freed_t2;
  below = h.below;
  known = h.known;
  numbered = numbered-set d s n h pos low;
  free = h.free;
  nobodys = h.nobodys;
  differ = h.differ;
  used = h.used;
}

pub IsSlotted-t1 : (d : Slotted) (xs : List ℕ) → IsSlotted d → IsKept d xs → IsSlotted (with_freed_t1 d xs)
IsSlotted-t1 d xs h k = record {
  size = h.size;
  numbers = h.numbers;
  freed_t1 = k;
  freed_t2 = h.freed_t2;
  below = h.below;
  known = h.known;
  numbered = h.numbered;
  free = h.free;
  nobodys = h.nobodys;
  differ = h.differ;
  used = h.used;
}

pub IsSlotted-t2 : (d : Slotted) (xs : List ℕ) → IsSlotted d → IsKept d xs → IsSlotted (with_freed_t2 d xs)
IsSlotted-t2 d xs h k = record {
  size = h.size;
  numbers = h.numbers;
  freed_t1 = h.freed_t1;
  freed_t2 = k;
  below = h.below;
  known = h.known;
  numbered = h.numbered;
  free = h.free;
  nobodys = h.nobodys;
  differ = h.differ;
  used = h.used;
}

-- ---- a page gets a slot

abbrev pub put : Slotted → ℕ → ℕ → ℕ → Slotted
put d x s n = record d {
  slots = set d.slots x s;
  pages = set d.pages s x;
  numbers = set d.numbers s n;
  spare = d.spare - 1;
}

-- a slot that is free
pub record IsFree (d : Slotted) (s : ℕ) : Type 0 where
  pub some : 0 < s
  pub below : s < length d.pages
  pub nobodys : (x : ℕ) → get_or d.slots x 0 ≢ s

free_slot : (d : Slotted) (s : ℕ) → IsSlotted d → 0 < d.spare → s ≡ get_or d.free (d.spare - 1) 0 → IsFree d s
free_slot d s h room e = record {
  some = omega (arith, e, (h.free (d.spare - 1) (omega arith)).0);
  below = omega (arith, e, (h.free (d.spare - 1) (omega arith)).1);
  nobodys = λ x w. h.nobodys (d.spare - 1) x (omega arith) (w ∙ e);
}

-- nothing is kept of a free slot
pub blank : (d : Slotted) (xs : List ℕ) (s : ℕ) → IsKept d xs → IsFree d s → get_or xs s 0 ≡ 0
blank d xs s k f = elim (cases_lt 0 (get_or xs s 0)) [
  | inl lt ↦ absurd (f.nobodys (get_or d.pages s 0) (k.owned s lt))
  | inr z ↦ omega arith
]

-- what is kept of slots stays right where page x gets the free slot s
kept-put : (d : Slotted) (xs ys : List ℕ) (x s : ℕ) → IsSlotted d → IsKept d xs → IsFree d s → x < length d.slots
    → get_or d.slots x 0 ≡ 0 → length ys ≡ length xs → ((t : ℕ) → t ≢ s → get_or ys t 0 ≡ get_or xs t 0)
    → IsBySlot (set d.slots x s) (set d.pages s x) ys
kept-put d xs ys x s h k f low none size same = record {
  size = size ∙ k.size ∙ sym (length-set d.pages s x);
  none = same 0 (λ w. absurd (omega (arith, w, f.some))) ∙ k.none;
  owned = λ t lt. elim (eqb_tells t s) [
    | inl p ↦ subst (λ (q : ℕ). get_or (set d.slots x s) (get_or (set d.pages s x) q 0) 0 ≡ q) (sym p.1)
        (ap (λ (y : ℕ). get_or (set d.slots x s) y 0) (get_or-set_same d.pages s x 0 f.below)
        ∙ get_or-set_same d.slots x s 0 low)
    | inr p ↦ older t p.1 (omega (arith, lt, same t p.1))
  ];
}
  where
    older : (t : ℕ) → t ≢ s → 0 < get_or xs t 0
        → get_or (set d.slots x s) (get_or (set d.pages s x) t 0) 0 ≡ t
    older t ne lt =
        ap (λ (y : ℕ). get_or (set d.slots x s) y 0) (get_or-set_other d.pages s t x 0 ne)
        ∙ get_or-set_other d.slots x (get_or d.pages t 0) s 0 away ∙ k.owned t lt
      where
        away : get_or d.pages t 0 ≢ x
        away w = absurd (omega (
          arith,
          lt,
          k.none,
          ap (λ (y : ℕ). get_or d.slots y 0) w,
          k.owned t lt,
          none,
          ap (λ (q : ℕ). get_or xs q 0) (sym (k.owned t lt) ∙ ap (λ (y : ℕ). get_or d.slots y 0) w ∙ none),
        ))

IsSlotted-put : (d : Slotted) (x s n : ℕ) → IsSlotted d → 0 < d.spare → s ≡ get_or d.free (d.spare - 1) 0
    → x < length d.slots → get_or d.slots x 0 ≡ 0 → 0 < n → IsSlotted (put d x s n)
IsSlotted-put d x s n h room e low none pos = record {
  size = length-set d.pages s x ∙ h.size;
  numbers = kept-put d d.numbers (set d.numbers s n) x s h h.numbers f low none (length-set d.numbers s n)
      (λ t ne. get_or-set_other d.numbers s t n 0 ne);
  freed_t1 = kept-put d d.freed_t1 d.freed_t1 x s h h.freed_t1 f low none refl (λ t ne. refl);
  freed_t2 = kept-put d d.freed_t2 d.freed_t2 x s h h.freed_t2 f low none refl (λ t ne. refl);
  below = λ y. elim (eqb_tells y x) [
    | inl p ↦ omega (arith, here y p.1, f.below, length-set d.pages s x)
    | inr p ↦ omega (arith, get_or-set_other d.slots x y s 0 p.1, h.below y, length-set d.pages s x)
  ];
  known = λ y lt. elim (eqb_tells y x) [
    | inl p ↦ ap (λ (t : ℕ). get_or (set d.pages s x) t 0) (here y p.1)
        ∙ get_or-set_same d.pages s x 0 f.below ∙ sym p.1
    | inr p ↦ ap (λ (t : ℕ). get_or (set d.pages s x) t 0) (get_or-set_other d.slots x y s 0 p.1)
        ∙ get_or-set_other d.pages s (get_or d.slots y 0) x 0 (f.nobodys y)
        ∙ h.known y (omega (arith, lt, get_or-set_other d.slots x y s 0 p.1))
  ];
  numbered = λ y lt. elim (eqb_tells y x) [
    | inl p ↦ subst (λ (m : ℕ). 0 < m) (sym (own y p.1)) pos
    | inr p ↦ subst (λ (m : ℕ). 0 < m) (sym (others y p.1))
        (h.numbered y (omega (arith, lt, get_or-set_other d.slots x y s 0 p.1)))
  ];
  free = λ k lt. (
    (h.free k (omega (arith, lt))).0,
    omega (arith, (h.free k (omega (arith, lt))).1, length-set d.pages s x),
  );
  nobodys = λ k y lt. elim (eqb_tells y x) [
    | inl p ↦ λ w. h.differ k (d.spare - 1) (omega (arith, lt)) (omega (arith, room)) (sym w ∙ here y p.1 ∙ e)
    | inr p ↦ λ w. h.nobodys k y (omega (arith, lt)) (sym (get_or-set_other d.slots x y s 0 p.1) ∙ w)
  ];
  differ = λ j k jk lt. h.differ j k jk (omega (arith, lt));
  used = omega (arith, h.used, room, more);
}
  where
    f : IsFree d s
    f = free_slot d s h room e

    here : (y : ℕ) → y ≡ x → get_or (set d.slots x s) y 0 ≡ s
    here y w = ap (λ (z : ℕ). get_or (set d.slots x s) z 0) w ∙ get_or-set_same d.slots x s 0 low

    own : (y : ℕ) → y ≡ x → get_or (set d.numbers s n) (get_or (set d.slots x s) y 0) 0 ≡ n
    own y w = ap (λ (t : ℕ). get_or (set d.numbers s n) t 0) (here y w)
        ∙ get_or-set_same d.numbers s n 0 (omega (arith, f.below, h.numbers.size))

    others : (y : ℕ) → y ≢ x
        → get_or (set d.numbers s n) (get_or (set d.slots x s) y 0) 0 ≡ get_or d.numbers (get_or d.slots y 0) 0
    others y ne = ap (λ (t : ℕ). get_or (set d.numbers s n) t 0) (get_or-set_other d.slots x y s 0 ne)
        ∙ get_or-set_other d.numbers s (get_or d.slots y 0) n 0 (f.nobodys y)

    more : sum_by counts (set d.slots x s) ≡ sum_by counts d.slots + 1
    more = subst (λ (t : ℕ). sum_by counts (set d.slots x t) ≡ sum_by counts d.slots + 1) (sym (one_more s f.some))
        (named_more d.slots x (s - 1) low none)

-- the fields are d, which contracts see as v
pub record Puts (d v : Slotted) (x s n : ℕ) : Type 0 where
  pub below : s < length d.pages
  pub slotted : IsSlotted (put d x s n)
  pub numbers : numbers_of (put d x s n) ≡ set (numbers_of v) x n
  pub t1 : freed_t1_of (put d x s n) ≡ freed_t1_of v
  pub t2 : freed_t2_of (put d x s n) ≡ freed_t2_of v

puts-in : (d : Slotted) (x s n : ℕ) → IsSlotted d → 0 < d.spare → s ≡ get_or d.free (d.spare - 1) 0
    → x < length d.slots → get_or d.slots x 0 ≡ 0 → 0 < n → Puts d d x s n
puts-in d x s n h room e low none pos = record {
  below = f.below;
  slotted = IsSlotted-put d x s n h room e low none pos;
  numbers = written d.slots (set d.slots x s) d.numbers (set d.numbers s n) x n h.numbers.none
      (get_or-set_other d.numbers s 0 n 0 (λ w. absurd (omega (arith, w, f.some))) ∙ h.numbers.none)
      (length-set d.slots x s) low
      (ap (λ (t : ℕ). get_or (set d.numbers s n) t 0) (get_or-set_same d.slots x s 0 low)
      ∙ get_or-set_same d.numbers s n 0 (omega (arith, f.below, h.numbers.size)))
      (λ y ne. ap (λ (t : ℕ). get_or (set d.numbers s n) t 0) (get_or-set_other d.slots x y s 0 ne)
      ∙ get_or-set_other d.numbers s (get_or d.slots y 0) n 0 (f.nobodys y));
  t1 = unwritten d.slots (set d.slots x s) d.freed_t1 h.freed_t1.none (length-set d.slots x s)
      (still d.freed_t1 h.freed_t1);
  t2 = unwritten d.slots (set d.slots x s) d.freed_t2 h.freed_t2.none (length-set d.slots x s)
      (still d.freed_t2 h.freed_t2);
}
  where
    f : IsFree d s
    f = free_slot d s h room e

    still : (xs : List ℕ) → IsKept d xs → (y : ℕ)
        → get_or xs (get_or (set d.slots x s) y 0) 0 ≡ get_or xs (get_or d.slots y 0) 0
    still xs k y = elim (eqb_tells y x) [
      | inl p ↦ ap (λ (z : ℕ). get_or xs (get_or (set d.slots x s) z 0) 0) p.1
          ∙ ap (λ (t : ℕ). get_or xs t 0) (get_or-set_same d.slots x s 0 low) ∙ blank d xs s k f
          ∙ sym (ap (λ (z : ℕ). get_or xs (get_or d.slots z 0) 0) p.1
          ∙ ap (λ (t : ℕ). get_or xs t 0) none ∙ k.none)
      | inr p ↦ ap (λ (t : ℕ). get_or xs t 0) (get_or-set_other d.slots x y s 0 p.1)
    ]

pub puts : (d v : Slotted) (x s n : ℕ) → IsSlotted d → d ≡ v → 0 < d.spare → s ≡ get_or d.free (d.spare - 1) s
    → x < length v.slots → get_or v.slots x 0 ≡ 0 → 0 < n → Puts d v x s n
puts d v x s n h same room e =
    subst (λ (w : Slotted). x < length w.slots → get_or w.slots x 0 ≡ 0 → 0 < n → Puts d w x s n) same
    (puts-in d x s n h room (e ∙ got))
  where
    got : get_or d.free (d.spare - 1) s ≡ get_or d.free (d.spare - 1) 0
    got = get_or_default d.free (d.spare - 1) s 0 (omega (arith, room, h.used))

-- ---- a page gives its slot back

abbrev pub let_go : Slotted → ℕ → ℕ → Slotted
let_go d x s = record d {
  slots = set d.slots x 0;
  numbers = set d.numbers s 0;
  freed_t1 = set d.freed_t1 s 0;
  freed_t2 = set d.freed_t2 s 0;
  free = set d.free d.spare s;
  spare = d.spare + 1;
}

-- what is kept of the other slots
kept-let_go : (d : Slotted) (xs : List ℕ) (x s : ℕ) → IsSlotted d → IsKept d xs → s ≡ get_or d.slots x 0 → 0 < s
    → IsBySlot (set d.slots x 0) d.pages (set xs s 0)
kept-let_go d xs x s h k e some = record {
  size = length-set xs s 0 ∙ k.size;
  none = get_or-set_other xs s 0 0 0 (λ w. absurd (omega (arith, w, some))) ∙ k.none;
  owned = λ t lt. elim (eqb_tells t s) [
    | inl p ↦ absurd (omega (
      arith,
      lt,
      ap (λ (q : ℕ). get_or (set xs s 0) q 0) p.1,
      get_or-set_same xs s 0 0 (omega (arith, e, h.below x, k.size)),
    ))
    | inr p ↦ older t p.1 (omega (arith, lt, get_or-set_other xs s t 0 0 p.1))
  ];
}
  where
    older : (t : ℕ) → t ≢ s → 0 < get_or xs t 0 → get_or (set d.slots x 0) (get_or d.pages t 0) 0 ≡ t
    older t ne lt =
        get_or-set_other d.slots x (get_or d.pages t 0) 0 0
        (λ w. ne (sym (k.owned t lt) ∙ ap (λ (y : ℕ). get_or d.slots y 0) w ∙ sym e))
        ∙ k.owned t lt

by_page-let_go : (d : Slotted) (xs : List ℕ) (x s : ℕ) → IsSlotted d → IsKept d xs → s ≡ get_or d.slots x 0 → 0 < s
    → by_page (set d.slots x 0) (set xs s 0) ≡ set (by_page d.slots xs) x 0
by_page-let_go d xs x s h k e some =
    written d.slots (set d.slots x 0) xs (set xs s 0) x 0 k.none none (length-set d.slots x 0) low
    (ap (λ (t : ℕ). get_or (set xs s 0) t 0) (get_or-set_same d.slots x 0 0 low) ∙ none)
    (λ y ne. ap (λ (t : ℕ). get_or (set xs s 0) t 0) (get_or-set_other d.slots x y 0 0 ne)
    ∙ get_or-set_other xs s (get_or d.slots y 0) 0 0 (apart d x y s h e some ne))
  where
    low : x < length d.slots
    low = in_range d.slots x (omega (arith, e, some))

    none : get_or (set xs s 0) 0 0 ≡ 0
    none = get_or-set_other xs s 0 0 0 (λ w. absurd (omega (arith, w, some))) ∙ k.none

IsSlotted-let_go : (d : Slotted) (x s : ℕ) → IsSlotted d → s ≡ get_or d.slots x 0 → 0 < s
    → d.spare < length d.free → IsSlotted (let_go d x s)
IsSlotted-let_go d x s h e some room = record {
  size = h.size ∙ ap (λ (n : ℕ). n + 1) (sym (length-set d.free d.spare s));
  numbers = kept-let_go d d.numbers x s h h.numbers e some;
  freed_t1 = kept-let_go d d.freed_t1 x s h h.freed_t1 e some;
  freed_t2 = kept-let_go d d.freed_t2 x s h h.freed_t2 e some;
  below = λ y. elim (eqb_tells y x) [
    | inl p ↦ omega (arith, gone y p.1, h.size)
    | inr p ↦ omega (arith, get_or-set_other d.slots x y 0 0 p.1, h.below y)
  ];
  known = λ y lt. elim (eqb_tells y x) [
    | inl p ↦ absurd (omega (arith, lt, gone y p.1))
    | inr p ↦ ap (λ (t : ℕ). get_or d.pages t 0) (get_or-set_other d.slots x y 0 0 p.1)
        ∙ h.known y (omega (arith, lt, get_or-set_other d.slots x y 0 0 p.1))
  ];
  numbered = λ y lt. elim (eqb_tells y x) [
    | inl p ↦ absurd (omega (arith, lt, gone y p.1))
    | inr p ↦ subst (λ (m : ℕ). 0 < m) (sym (stays y p.1))
        (h.numbered y (omega (arith, lt, get_or-set_other d.slots x y 0 0 p.1)))
  ];
  free = λ k lt. elim (eqb_tells k d.spare) [
    | inl p ↦ (omega (arith, top k p.1, some), omega (arith, top k p.1, e, h.below x))
    | inr p ↦ (
      omega (arith, older k p.1, (h.free k (omega (arith, lt, p.1))).0),
      omega (arith, older k p.1, (h.free k (omega (arith, lt, p.1))).1),
    )
  ];
  nobodys = λ k y lt. elim (eqb_tells k d.spare) [
    | inl p ↦ λ w. left y (w ∙ top k p.1)
    | inr p ↦ λ w. others k y (omega (arith, lt, p.1)) (w ∙ older k p.1)
  ];
  differ = λ j k jk lt. elim (eqb_tells k d.spare) [
    | inl p ↦ λ w. h.nobodys j x (omega (arith, jk, p.1))
        (sym e ∙ sym (top k p.1) ∙ sym w ∙ older j (λ q. absurd (omega (arith, q, jk, p.1))))
    | inr p ↦ λ w. h.differ j k jk (omega (arith, lt, p.1))
        (sym (older j (λ q. absurd (omega (arith, q, jk, lt)))) ∙ w ∙ older k p.1)
  ];
  used = omega (
    arith,
    h.used,
    named_fewer d.slots x (s - 1) (sym e ∙ one_more s some),
    length-set d.free d.spare s,
  );
}
  where
    low : x < length d.slots
    low = in_range d.slots x (omega (arith, e, some))

    gone : (y : ℕ) → y ≡ x → get_or (set d.slots x 0) y 0 ≡ 0
    gone y w = ap (λ (z : ℕ). get_or (set d.slots x 0) z 0) w ∙ get_or-set_same d.slots x 0 0 low

    top : (k : ℕ) → k ≡ d.spare → get_or (set d.free d.spare s) k 0 ≡ s
    top k w = ap (λ (z : ℕ). get_or (set d.free d.spare s) z 0) w ∙ get_or-set_same d.free d.spare s 0 room

    older : (k : ℕ) → k ≢ d.spare → get_or (set d.free d.spare s) k 0 ≡ get_or d.free k 0
    older k ne = get_or-set_other d.free d.spare k s 0 ne

    stays : (y : ℕ) → y ≢ x
        → get_or (set d.numbers s 0) (get_or (set d.slots x 0) y 0) 0 ≡ get_or d.numbers (get_or d.slots y 0) 0
    stays y ne = ap (λ (t : ℕ). get_or (set d.numbers s 0) t 0) (get_or-set_other d.slots x y 0 0 ne)
        ∙ get_or-set_other d.numbers s (get_or d.slots y 0) 0 0 (apart d x y s h e some ne)

    left : (y : ℕ) → get_or (set d.slots x 0) y 0 ≢ s
    left y w = elim (eqb_tells y x) [
      | inl p ↦ absurd (omega (arith, w, gone y p.1, some))
      | inr p ↦ apart d x y s h e some p.1 (sym (get_or-set_other d.slots x y 0 0 p.1) ∙ w)
    ]

    others : (k y : ℕ) → k < d.spare → get_or (set d.slots x 0) y 0 ≢ get_or d.free k 0
    others k y lt w = elim (eqb_tells y x) [
      | inl p ↦ absurd (omega (arith, w, gone y p.1, (h.free k lt).0))
      | inr p ↦ h.nobodys k y lt (sym (get_or-set_other d.slots x y 0 0 p.1) ∙ w)
    ]

-- the fields are d, which contracts see as v
pub record LetsGo (d v : Slotted) (x s : ℕ) : Type 0 where
  pub low : x < length d.slots
  pub below : s < length d.numbers
  pub room : d.spare < length d.free
  pub slotted : IsSlotted (let_go d x s)
  pub numbers : numbers_of (let_go d x s) ≡ set (numbers_of v) x 0
  pub t1 : freed_t1_of (let_go d x s) ≡ set (freed_t1_of v) x 0
  pub t2 : freed_t2_of (let_go d x s) ≡ set (freed_t2_of v) x 0

lets_go-in : (d : Slotted) (x s : ℕ) → IsSlotted d → s ≡ get_or d.slots x 0 → 0 < s → LetsGo d d x s
lets_go-in d x s h e some = record {
  low = in_range d.slots x (omega (arith, e, some));
  below = omega (arith, e, h.below x, h.numbers.size);
  room = room;
  slotted = IsSlotted-let_go d x s h e some room;
  numbers = by_page-let_go d d.numbers x s h h.numbers e some;
  t1 = by_page-let_go d d.freed_t1 x s h h.freed_t1 e some;
  t2 = by_page-let_go d d.freed_t2 x s h h.freed_t2 e some;
}
  where
    room : d.spare < length d.free
    room = omega (arith, h.used, named_fewer d.slots x (s - 1) (sym e ∙ one_more s some))

pub lets_go : (d v : Slotted) (x s : ℕ) → IsSlotted d → d ≡ v → s ≡ get_or v.slots x 0 → 0 < s → LetsGo d v x s
lets_go d v x s h same e some =
    subst (λ (w : Slotted). s ≡ get_or w.slots x 0 → LetsGo d w x s) same (λ e. lets_go-in d x s h e some) e

-- ---- what is looked up

-- the number of a page
pub number_at : (v : Slotted) (x s n : ℕ) → IsSlotted v → s ≡ get_or v.slots x 0 → n ≡ get_or v.numbers s 0
    → n ≡ get_or (numbers_of v) x 0
number_at v x s n h e f =
    f ∙ ap (λ (t : ℕ). get_or v.numbers t 0) e ∙ sym (get_by_page v.slots v.numbers x h.numbers.none)

-- nothing is kept of a page without a slot
pub no_slot : (v : Slotted) (xs : List ℕ) (x : ℕ) → IsKept v xs → get_or v.slots x 0 ≡ 0
    → get_or (by_page v.slots xs) x 0 ≡ 0
no_slot v xs x k e = get_by_page v.slots xs x k.none ∙ ap (λ (t : ℕ). get_or xs t 0) e ∙ k.none

-- the page of the slot of the greatest number
pub record IsGreatest (v : Slotted) (xs : List ℕ) (s x : ℕ) : Type 0 where
  pub some : 0 < get_or (by_page v.slots xs) x 0
  pub most : (y : ℕ) → get_or (by_page v.slots xs) y 0 ≤ get_or (by_page v.slots xs) x 0

pub greatest : (v : Slotted) (xs : List ℕ) (s x : ℕ) → IsKept v xs → 0 < get_or xs s 0
    → ((t : ℕ) → get_or xs t 0 ≤ get_or xs s 0) → x ≡ get_or v.pages s 0 → IsGreatest v xs s x
greatest v xs s x k some most e = record {
  some = omega (arith, is, some);
  most = λ y. omega (arith, is, get_by_page v.slots xs y k.none, most (get_or v.slots y 0));
}
  where
    is : get_or (by_page v.slots xs) x 0 ≡ get_or xs s 0
    is = get_by_page v.slots xs x k.none
        ∙ ap (λ (t : ℕ). get_or xs t 0) (ap (λ (y : ℕ). get_or v.slots y 0) e ∙ k.owned s some)

pub none_greatest : (v : Slotted) (xs : List ℕ) → IsKept v xs → ((t : ℕ) → get_or xs t 0 ≡ 0)
    → (x : ℕ) → get_or (by_page v.slots xs) x 0 ≡ 0
none_greatest v xs k none x = get_by_page v.slots xs x k.none ∙ none (get_or v.slots x 0)

-- ---- no page has a slot yet

zeros : (n : ℕ) (xs : List ℕ) → xs ≡ replicate n 0 → (x : ℕ) → get_or xs x 0 ≡ 0
zeros n xs e x = elim (cases_lt x (length xs)) [
  | inl low ↦ ap (λ (l : List ℕ). get_or l x 0) e
      ∙ get_or-replicate {A = ℕ} n x 0 0 (omega (arith, low, ap (length {A = ℕ}) e, length-replicate {A = ℕ} n 0))
  | inr past ↦ get_or_past xs x 0 past
]

pub IsSlotted-new : (d : Slotted) (most pages : ℕ) → d.slots ≡ replicate pages 0 → d.pages ≡ replicate (most + 1) 0
    → d.numbers ≡ replicate (most + 1) 0 → length d.freed_t1 ≡ most + 1 → ((s : ℕ) → get_or d.freed_t1 s 0 ≡ 0)
    → length d.freed_t2 ≡ most + 1 → ((s : ℕ) → get_or d.freed_t2 s 0 ≡ 0) → length d.free ≡ most → d.spare ≡ most
    → ((k : ℕ) → k < most → get_or d.free k 0 ≡ k + 1) → IsSlotted d
IsSlotted-new d most pages slots on numbers l1 z1 l2 z2 free spare filled = record {
  size = omega (arith, size, free);
  numbers = empty d.numbers (ap (length {A = ℕ}) numbers ∙ length-replicate {A = ℕ} (most + 1) 0)
      (zeros (most + 1) d.numbers numbers);
  freed_t1 = empty d.freed_t1 l1 z1;
  freed_t2 = empty d.freed_t2 l2 z2;
  below = λ x. omega (arith, none x, size);
  known = λ x lt. absurd (omega (arith, lt, none x));
  numbered = λ x lt. absurd (omega (arith, lt, none x));
  free = λ k lt. (
    omega (arith, filled k (omega (arith, lt, spare))),
    omega (arith, filled k (omega (arith, lt, spare)), lt, spare, size),
  );
  nobodys = λ k x lt w. absurd (omega (arith, w, none x, filled k (omega (arith, lt, spare))));
  differ = λ j k jk lt w. absurd (omega (
    arith,
    w,
    jk,
    filled j (omega (arith, jk, lt, spare)),
    filled k (omega (arith, lt, spare)),
  ));
  used = omega (arith, none_named pages d.slots slots, spare, free);
}
  where
    none : (x : ℕ) → get_or d.slots x 0 ≡ 0
    none = zeros pages d.slots slots

    size : length d.pages ≡ most + 1
    size = ap (length {A = ℕ}) on ∙ length-replicate {A = ℕ} (most + 1) 0

    empty : (xs : List ℕ) → length xs ≡ most + 1 → ((s : ℕ) → get_or xs s 0 ≡ 0) → IsBySlot d.slots d.pages xs
    empty xs len zero = record {
      size = omega (arith, len, size);
      none = zero 0;
      owned = λ s lt. absurd (omega (arith, lt, zero s));
    }

-- no page has a number
pub none_counted : (xs : List ℕ) → ((x : ℕ) → get_or xs x 0 ≡ 0) → sum_by counts xs ≡ 0
none_counted [] none = refl
none_counted (y ∷ ys) none = omega (arith, sum_by-cons counts y ys, none_counted ys (λ x. none (suc x)), first)
  where
    first : counts y ≡ 0
    first = ap counts (none 0)
