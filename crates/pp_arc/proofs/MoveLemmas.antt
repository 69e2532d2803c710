-- Lemmas on pages that move to other lists.
use Rattle.std.proofs.Common.{◌≡◌, ◌∙◌, ◌⊎◌, ℕ, ◌+◌, ◌*◌, ◌^◌, ◌<◌, ◌≤◌, List, [], ◌++◌, length, min, ap, sym, refl}
use Rattle.std.proofs.Common.{subst, arith, inl, inr}
use Rattle.std.specs.Prelude.{Option, Some, None, IsSome}
use Rattle.pp_arc.specs.declared.list.List.{List as ListName}
use Rattle.pp_arc.specs.declared.list.List.TheVariants.{T1, T2, B1, B2}
use Rattle.pp_arc.specs.Pages.{last_page, without_last}
use Rattle.pp_arc.specs.FourLists.{FourLists, empty_lists, list_of, place, times_named, cached_count, total_count}
use Rattle.pp_arc.specs.Figure.{forget}
use Rattle.pp_arc.specs.Links.{with_front, without_last_of, with_list, with_lists_of, FitsInto}
use Rattle.pp_arc.specs.Bounds.{IsWithinBounds}
use Rattle.pp_arc.specs.Fields.{IsSound, lists_with}
use Rattle.pp_arc.specs.Sizes.{renamed, renamed_in, resized, with_names, moved_into}
use Rattle.pp_arc.proofs.BoundLemmas.{total_count-forget}
use Rattle.pp_arc.proofs.NameLemmas.{length-list_of, append-none}
use Rattle.pp_arc.proofs.NamingLemmas.{total-with_front, placed-node}
use Rattle.pp_arc.proofs.SizeLemmas.{IsApart, Moves, moves, length-last, c-with_front, pages-with_front}
use Rattle.pp_arc.proofs.SizeLemmas.{bounds-resized, bounds-moved_into}

total-without_last_of : (s : FourLists) (l : ListName) (p : ℕ) → last_page (list_of s l) ≡ Some p
    → total_count (without_last_of s l) + 1 ≡ total_count s
total-without_last_of s T1 p e = omega (arith, length-last s.t1 p e)
total-without_last_of s T2 p e = omega (arith, length-last s.t2 p e)
total-without_last_of s B1 p e = omega (arith, length-last s.b1 p e)
total-without_last_of s B2 p e = omega (arith, length-last s.b2 p e)

-- the last page of a list of s fits into t, and what stays of s fits into what t is then
pub record Fits (s t : FourLists) (l : ListName) (p : ℕ) : Type 0 where
  pub moves : Moves s t l p
  pub short : length (list_of t l) < 2 ^ 63
  pub room : (total_count t < t.c) ⊎ (t.pages ≤ t.c)
  pub rest : FitsInto (without_last_of s l) (with_front t l p)

pub fits : (s t : FourLists) (l : ListName) (p : ℕ) → FitsInto s t → last_page (list_of s l) ≡ Some p → Fits s t l p
fits s t l p h e = record {
  moves = m;
  short = omega (arith, length-list_of t l, h.short);
  room = elim h.room [
    | inl le ↦ inl (omega (arith, total-without_last_of s l p e, le))
    | inr all ↦ inr all
  ];
  rest = record {
    below = m.apart.below;
    apart = m.apart.once;
    short = omega (arith, total-without_last_of s l p e, total-with_front t l p, h.short);
    room = elim h.room [
      | inl le ↦ inl (omega (
        arith,
        total-without_last_of s l p e,
        total-with_front t l p,
        c-with_front t l p,
        le,
      ))
      | inr all ↦ inr (omega (arith, pages-with_front t l p, c-with_front t l p, all))
    ];
  };
}
  where
    m : Moves s t l p
    m = moves s t l p (record { once = h.apart; below = h.below }) e

-- a page that stood somewhere leaves room for another
pub room_after : (s v w : FourLists) (old new : ℕ) → IsSome (place s old) → v ≡ forget s old → w ≡ forget v new
    → (total_count s ≤ s.c) ⊎ (s.pages ≤ s.c) → (total_count w < w.c) ⊎ (w.pages ≤ w.c)
room_after s v w old new stood e f room = elim room [
  | inl le ↦ inl (omega (
    arith,
    ap (λ (q : FourLists). total_count q) f,
    total_count-forget v new,
    ap (λ (q : FourLists). total_count q) e,
    total_count-forget s old,
    some,
    ap (λ (q : FourLists). q.c) f,
    ap (λ (q : FourLists). q.c) e,
    le,
  ))
  | inr all ↦ inr (omega (
    arith,
    ap (λ (q : FourLists). q.pages) f,
    ap (λ (q : FourLists). q.pages) e,
    ap (λ (q : FourLists). q.c) f,
    ap (λ (q : FourLists). q.c) e,
    all,
  ))
]
  where
    some : 1 ≤ times_named s old
    some = omega (arith, placed-node s old stood)

-- what is put in front of an empty list
appended : (xs ys zs : List ℕ) → xs ≡ ys → zs ≡ [] → xs ++ zs ≡ ys
appended xs ys zs e none = ap (λ (q : List ℕ). xs ++ q) none ∙ append-none xs ∙ e

-- four lists that are emptied into four others
pub poured : (s s1 s2 s3 t t1 t2 t3 t4 : FourLists) → ((l : ListName) → list_of t l ≡ [])
    → s1 ≡ with_list s T1 [] → t1 ≡ with_list t T1 (s.t1 ++ t.t1)
    → s2 ≡ with_list s1 T2 [] → t2 ≡ with_list t1 T2 (s1.t2 ++ t1.t2)
    → s3 ≡ with_list s2 B1 [] → t3 ≡ with_list t2 B1 (s2.b1 ++ t2.b1)
    → t4 ≡ with_list t3 B2 (s3.b2 ++ t3.b2) → t4 ≡ with_lists_of t s
poured s s1 s2 s3 t t1 t2 t3 t4 none e1 f1 e2 f2 e3 f3 f4 =
    f4 ∙ ap (λ (q : List ℕ). record t3 { b2 = q }) in_b2 ∙ ap (λ (w : FourLists). record w { b2 = s.b2 }) a3
  where
    a1 : t1 ≡ record t { t1 = s.t1 }
    a1 = f1 ∙ ap (λ (q : List ℕ). record t { t1 = q }) (appended s.t1 s.t1 t.t1 refl (none T1))

    in_t2 : s1.t2 ++ t1.t2 ≡ s.t2
    in_t2 = appended s1.t2 s.t2 t1.t2 (ap (λ (w : FourLists). w.t2) e1) (ap (λ (w : FourLists). w.t2) a1 ∙ none T2)

    a2 : t2 ≡ record t { t1 = s.t1; t2 = s.t2 }
    a2 = f2 ∙ ap (λ (q : List ℕ). record t1 { t2 = q }) in_t2 ∙ ap (λ (w : FourLists). record w { t2 = s.t2 }) a1

    in_b1 : s2.b1 ++ t2.b1 ≡ s.b1
    in_b1 = appended s2.b1 s.b1 t2.b1 (ap (λ (w : FourLists). w.b1) e2 ∙ ap (λ (w : FourLists). w.b1) e1)
        (ap (λ (w : FourLists). w.b1) a2 ∙ none B1)

    a3 : t3 ≡ record t { t1 = s.t1; t2 = s.t2; b1 = s.b1 }
    a3 = f3 ∙ ap (λ (q : List ℕ). record t2 { b1 = q }) in_b1 ∙ ap (λ (w : FourLists). record w { b1 = s.b1 }) a2

    in_b2 : s3.b2 ++ t3.b2 ≡ s.b2
    in_b2 = appended s3.b2 s.b2 t3.b2
        (ap (λ (w : FourLists). w.b2) e3 ∙ ap (λ (w : FourLists). w.b2) e2 ∙ ap (λ (w : FourLists). w.b2) e1)
        (ap (λ (w : FourLists). w.b2) a3 ∙ none B2)

-- ---- a directory's lists

-- the lists of a directory are short
pub short_list : (links : FourLists) (c target : ℕ) (l : ListName) → IsSound links c target → c < 2 ^ 32
    → length (list_of links l) < 2 ^ 63
short_list links c target l h low = omega (arith, length-list_of links l, h.bounds.total, low)

-- where fewer than 2c pages stand in the lists, there is room for one
pub room_in : (links : FourLists) (c target n : ℕ) → IsSound links c target → n < 2 * c
    → (n < links.c) ⊎ (links.pages ≤ links.c)
room_in links c target n h lt = elim h.room [
  | inl le ↦ inl (omega (arith, le, lt))
  | inr all ↦ inr all
]

-- a new name has no part in the sizes
c-renamed_in : (s : FourLists) (old new : ℕ) (o : Option ListName)
    → (renamed_in o (forget (forget s old) new) new).c ≡ s.c
c-renamed_in s old new None = refl
c-renamed_in s old new (Some T1) = refl
c-renamed_in s old new (Some T2) = refl
c-renamed_in s old new (Some B1) = refl
c-renamed_in s old new (Some B2) = refl

c-renamed : (s : FourLists) (old new : ℕ) → (renamed s old new).c ≡ s.c
c-renamed s old new = c-renamed_in s old new (place s old)

pages-renamed_in : (s : FourLists) (old new : ℕ) (o : Option ListName)
    → (renamed_in o (forget (forget s old) new) new).pages ≡ s.pages
pages-renamed_in s old new None = refl
pages-renamed_in s old new (Some T1) = refl
pages-renamed_in s old new (Some T2) = refl
pages-renamed_in s old new (Some B1) = refl
pages-renamed_in s old new (Some B2) = refl

pages-renamed : (s : FourLists) (old new : ℕ) → (renamed s old new).pages ≡ s.pages
pages-renamed s old new = pages-renamed_in s old new (place s old)

-- nor in the room
pub room_renamed : (s t : FourLists) (c old new : ℕ) → t ≡ renamed s old new → (2 * c ≤ s.c) ⊎ (s.pages ≤ s.c)
    → (2 * c ≤ t.c) ⊎ (t.pages ≤ t.c)
room_renamed s t c old new e room =
    let size : t.c ≡ s.c = ap (λ (w : FourLists). w.c) e ∙ c-renamed s old new in
    let pages : t.pages ≡ s.pages = ap (λ (w : FourLists). w.pages) e ∙ pages-renamed s old new in
    elim room [
      | inl le ↦ inl (omega (arith, le, size))
      | inr all ↦ inr (omega (arith, all, size, pages))
    ]

-- the lists of a directory go into those of a larger one, which is for a cache of d pages
pub record MovesIn (s : FourLists) (target : ℕ) (t : FourLists) (d : ℕ) : Type 0 where
  pub empty : (l : ListName) → list_of t l ≡ []
  pub fits : FitsInto s t
  pub sound : IsSound (with_lists_of t s) d target

pub moves_in : (s v t larger : FourLists) (c target d aim : ℕ) → IsSound s c target → IsSound t d aim
    → lists_with s c target ≡ v → lists_with t d aim ≡ larger → v.pages ≤ larger.pages → v.c ≤ larger.c
    → larger ≡ empty_lists larger.c larger.pages → c < 2 ^ 32 → MovesIn s target t d
moves_in s v t larger c target d aim h k e f more wider none low = record {
  empty = empty;
  fits = record {
    below = λ x n. omega (arith, h.bounds.below x n, pages);
    apart = λ x. omega (arith, h.bounds.once x, nowhere x);
    short = omega (arith, h.bounds.total, nothing, low);
    room = elim k.room [
      | inl le ↦ inl (omega (arith, le, size, h.bounds.total, nothing))
      | inr all ↦ inr all
    ];
  };
  sound = record {
    bounds = bounds-moved_into (lists_with s c target) (lists_with t d aim) h.bounds pages size;
    room = k.room;
  };
}
  where
    pages : s.pages ≤ t.pages
    pages = omega (arith, more, ap (λ (w : FourLists). w.pages) e, ap (λ (w : FourLists). w.pages) f)

    size : c ≤ d
    size = omega (arith, wider, ap (λ (w : FourLists). w.c) e, ap (λ (w : FourLists). w.c) f)

    empty : (l : ListName) → list_of t l ≡ []
    empty T1 = ap (λ (w : FourLists). w.t1) f ∙ ap (λ (w : FourLists). w.t1) none
    empty T2 = ap (λ (w : FourLists). w.t2) f ∙ ap (λ (w : FourLists). w.t2) none
    empty B1 = ap (λ (w : FourLists). w.b1) f ∙ ap (λ (w : FourLists). w.b1) none
    empty B2 = ap (λ (w : FourLists). w.b2) f ∙ ap (λ (w : FourLists). w.b2) none

    nowhere : (x : ℕ) → times_named t x ≡ 0
    nowhere x = ap (λ (w : FourLists). times_named w x) f ∙ ap (λ (w : FourLists). times_named w x) none

    nothing : total_count t ≡ 0
    nothing = ap (λ (w : FourLists). total_count w) f ∙ ap (λ (w : FourLists). total_count w) none

-- a new directory
pub new_sound : (links : FourLists) (nodes c pages : ℕ) → links ≡ empty_lists nodes pages → 1 ≤ c
    → (2 * c ≤ nodes) ⊎ (pages ≤ nodes) → IsSound links c 0
new_sound links nodes c pages e one room = subst (λ (w : FourLists). IsSound w c 0) (sym e) record {
  bounds = record {
    holds_a_page = one;
    cached = omega arith;
    recent = omega arith;
    total = omega arith;
    once = λ x. omega arith;
    below = λ x n. absurd (omega (arith, n));
    aimed = omega arith;
  };
  room = room;
}

-- ---- another size

-- as many pages are cached in the fields as in what contracts see
pub fits_c : (s v : FourLists) (c target n : ℕ) → lists_with s c target ≡ v → cached_count v ≤ n → cached_count s ≤ n
fits_c s v c target n e le = subst (λ (w : FourLists). cached_count w ≤ n) (sym e) le

-- there is room for a smaller cache
pub smaller : (s v : FourLists) (c target n : ℕ) → IsSound s c target → lists_with s c target ≡ v → n ≤ v.c
    → (2 * n ≤ s.c) ⊎ (s.pages ≤ s.c)
smaller s v c target n h e le = elim h.room [
  | inl room ↦ inl (omega (arith, room, le, ap (λ (w : FourLists). w.c) e))
  | inr all ↦ inr all
]

pub resized_sound : (s t : FourLists) (c target n aim : ℕ) → IsSound s c target → t ≡ with_names s n → 1 ≤ n
    → cached_count s ≤ n → aim ≡ min target n → (2 * n ≤ s.c) ⊎ (s.pages ≤ s.c) → IsSound t n aim
resized_sound s t c target n aim h e one fits least room =
    subst (λ (w : FourLists). IsSound w n aim) (sym e)
    (subst (λ (a : ℕ). IsSound (with_names s n) n a) (sym least)
    (record { bounds = bounds-resized (lists_with s c target) n h.bounds one fits; room = room }))

pub resized_lists : (s t v : FourLists) (c target n aim : ℕ) → t ≡ with_names s n → aim ≡ min target n
    → lists_with s c target ≡ v → lists_with t n aim ≡ resized v n
resized_lists s t v c target n aim e least view =
    ap (λ (w : FourLists). lists_with w n aim) e
    ∙ ap (λ (a : ℕ). lists_with (with_names s n) n a) least
    ∙ ap (λ (w : FourLists). resized w n) view

-- the lists of a directory that moved into a larger one
pub moved_lists : (s t u v larger : FourLists) (c target d aim : ℕ) → u ≡ with_lists_of t s
    → lists_with s c target ≡ v → lists_with t d aim ≡ larger → lists_with u d target ≡ moved_into v larger
moved_lists s t u v larger c target d aim e view more =
    ap (λ (w : FourLists). lists_with w d target) e
    ∙ ap (λ (w : FourLists). moved_into w (lists_with t d aim)) view
    ∙ ap (λ (w : FourLists). moved_into v w) more
