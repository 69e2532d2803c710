-- Many pages that leave at once, by their names, leave by their keys.
use Rattle.std.proofs.Common.{◌≡◌, ◌⊎◌, ℕ, zero, suc, ◌-◌, Bool, true, false, not, cond, eqb, List, [], ◌∷◌}
use Rattle.std.proofs.Common.{length, map, take, refl, ap, sym, ◌∙◌, arith, inl, inr, length-set}
use Rattle.std.specs.Prelude.{Option, None, Some, is_some, ◌||◌, ◌&&◌}
use Rattle.std.specs.List.{filter}
use Rattle.std.specs.Option.{option_map}
use Rattle.std.proofs.lemmas.Bool.{cases_eq, ne_eqb}
use Rattle.pp_arc.specs.Pages.{contains, without, last_page}
use Rattle.pp_arc.specs.FourLists.{FourLists, cached_count, place}
use Rattle.pp_arc.specs.Figure.{forget, with_remembered}
use Rattle.pp_arc.specs.Sizes.{given_up, resized}
use Rattle.pp_arc.proofs.VictimLemmas.{or_right, is_cached-victim}
use Rattle.pp_cache.specs.declared.resident.Resident.{Resident}
use Rattle.pp_cache.specs.Frames.{FrameMap, page_of, is_held, is_pinned, with_page}
use Rattle.pp_cache.specs.Cache.{PageCache, IsSound, KeepsOnly, lists_where, is_idle, last_cached, one_fewer_of, one_fewer, fewer}
use Rattle.pp_cache.specs.Cache.{after_resize}
use Rattle.pp_cache.proofs.CacheLemmas.{contains-first, page_there, page_gone}
use Rattle.pp_names.specs.Names.{key_of}
use Rattle.pp_keyed.specs.Renamed.{lists_by}
use Rattle.pp_keyed.specs.Keyed.{key_count, key_or_past, by_keys, stands, IsKeyed, IsSwept}
use Rattle.pp_keyed.proofs.RenamedLemmas.{forget-by, victim-by, after_giving_up-by, last_page-by, or-by, resized-by, cached_count-by}
use Rattle.pp_keyed.proofs.ByKeysLemmas.{IsNamed, named_of, injective, key-named, cache_is, page-by, page-key, same_busy, page-gone}
use Rattle.pp_keyed.proofs.ByKeysLemmas.{bool_cases, or-cases, or_left, cached-place, stands-place, stands-page, some-from}
use Rattle.pp_keyed.proofs.ByKeysLemmas.{in-t1, in-t2, in-b1, in-b2, place-some}
use Rattle.pp_keyed.proofs.TakenLemmas.{IsTaken, taken-swept, gone-swept, taken-named, taken-by_keys, keyed-end}

-- ---- who stands in a part of the lists

part_first : (b : Bool) (z : ℕ) (ys zs : List ℕ) (y : ℕ) → (contains ys y ≡ true → contains zs y ≡ true)
    → contains (cond b (z ∷ ys) ys) y ≡ true → (eqb z y || contains zs y) ≡ true
part_first true z ys zs y rest k = elim (or-cases (eqb z y) (contains ys y) k) [
  | inl e ↦ or_left _ _ e
  | inr e ↦ or_right (eqb z y) _ (rest e)
]
part_first false z ys zs y rest k = or_right (eqb z y) _ (rest k)

contains-part : (xs : List ℕ) (x y : ℕ) → contains (without xs x) y ≡ true → contains xs y ≡ true
contains-part [] x y h = h
contains-part (z ∷ zs) x y h = part_first (not (eqb z x)) z (without zs x) zs y (contains-part zs x y) h

contains-take : (n : ℕ) (xs : List ℕ) (y : ℕ) → contains (take n xs) y ≡ true → contains xs y ≡ true
contains-take zero xs y h = absurd (cc)
contains-take (suc n) [] y h = h
contains-take (suc n) (z ∷ zs) y h = elim (or-cases (eqb z y) (contains (take n zs) y) h) [
  | inl e ↦ or_left _ _ e
  | inr e ↦ or_right (eqb z y) _ (contains-take n zs y e)
]

contains-filter : (test : ℕ → Bool) (xs : List ℕ) (y : ℕ) → contains (filter test xs) y ≡ true → contains xs y ≡ true
contains-filter test [] y h = h
contains-filter test (z ∷ zs) y h = part_first (test z) z (filter test zs) zs y (contains-filter test zs y) h

-- what stands in one of four lists
record InLists (s : FourLists) (y : ℕ) : Type 0 where
  pub is : (contains s.t1 y ≡ true) ⊎ ((contains s.t2 y ≡ true) ⊎ ((contains s.b1 y ≡ true) ⊎ (contains s.b2 y ≡ true)))

in_lists : (s : FourLists) (y : ℕ) → is_some (place s y) ≡ true → InLists s y
in_lists s y h = elim (or-cases _ _ (sym (place-some s y) ∙ h)) [
  | inl a ↦ record { is = inl a }
  | inr r ↦ elim (or-cases _ _ r) [
    | inl a ↦ record { is = inr (inl a) }
    | inr q ↦ elim (or-cases _ _ q) [
      | inl a ↦ record { is = inr (inr (inl a)) }
      | inr a ↦ record { is = inr (inr (inr a)) }
    ]
  ]
]

-- lists whose pages stood in others
part_of : (s t : FourLists)
    → ((y : ℕ) → contains t.t1 y ≡ true → is_some (place s y) ≡ true)
    → ((y : ℕ) → contains t.t2 y ≡ true → is_some (place s y) ≡ true)
    → ((y : ℕ) → contains t.b1 y ≡ true → is_some (place s y) ≡ true)
    → ((y : ℕ) → contains t.b2 y ≡ true → is_some (place s y) ≡ true)
    → (y : ℕ) → is_some (place t y) ≡ true → is_some (place s y) ≡ true
part_of s t a b c d y h = elim ((in_lists t y h).is) [
  | inl e ↦ a y e
  | inr r ↦ elim r [ inl e ↦ b y e | inr q ↦ elim q [ inl e ↦ c y e | inr e ↦ d y e ] ]
]

part-forget : (s : FourLists) (x y : ℕ) → is_some (place (forget s x) y) ≡ true → is_some (place s y) ≡ true
part-forget s x = part_of s (forget s x) (λ y h. in-t1 s y (contains-part s.t1 x y h)) (λ y h. in-t2 s y (contains-part s.t2 x y h))
    (λ y h. in-b1 s y (contains-part s.b1 x y h)) (λ y h. in-b2 s y (contains-part s.b2 x y h))

in_front : (s : FourLists) (v y : ℕ) (xs : List ℕ) → is_some (place s v) ≡ true
    → ((z : ℕ) → contains xs z ≡ true → is_some (place s z) ≡ true)
    → contains (v ∷ xs) y ≡ true → is_some (place s y) ≡ true
in_front s v y xs here rest h = elim (cases_eq v y) [
  | inl e ↦ ap (λ (i : ℕ). is_some (place s i)) (sym e) ∙ here
  | inr ne ↦ rest y (sym (ap (λ (b : Bool). b || contains xs y) (ne_eqb v y ne)) ∙ h)
]

part-remembered : (s : FourLists) (v y : ℕ) → is_some (place s v) ≡ true → is_some (place (with_remembered s v) y) ≡ true
    → is_some (place s y) ≡ true
part-remembered s v y here = go (contains s.t1 v)
  where
    go : (b : Bool)
        → is_some (place (cond b (record s { t1 = without s.t1 v; b1 = v ∷ s.b1 }) (record s { t2 = without s.t2 v; b2 = v ∷ s.b2 })) y)
        ≡ true → is_some (place s y) ≡ true
    go true = part_of s (record s { t1 = without s.t1 v; b1 = v ∷ s.b1 }) (λ z h. in-t1 s z (contains-part s.t1 v z h)) (in-t2 s)
        (λ z h. in_front s v z s.b1 here (in-b1 s) h) (in-b2 s) y
    go false = part_of s (record s { t2 = without s.t2 v; b2 = v ∷ s.b2 }) (in-t1 s) (λ z h. in-t2 s z (contains-part s.t2 v z h))
        (in-b1 s) (λ z h. in_front s v z s.b2 here (in-b2 s) h) y

part-resized : (s : FourLists) (n y : ℕ) → is_some (place (resized s n) y) ≡ true → is_some (place s y) ≡ true
part-resized s n = part_of s (resized s n) (in-t1 s) (in-t2 s) (λ y h. in-b1 s y (contains-take _ s.b1 y h))
    (λ y h. in-b2 s y (contains-take _ s.b2 y h))

part-where : (test : ℕ → Bool) (s : FourLists) (y : ℕ) → is_some (place (lists_where test s) y) ≡ true → is_some (place s y) ≡ true
part-where test s = part_of s (lists_where test s) (λ y h. in-t1 s y (contains-filter test s.t1 y h))
    (λ y h. in-t2 s y (contains-filter test s.t2 y h)) (λ y h. in-b1 s y (contains-filter test s.b1 y h))
    (λ y h. in-b2 s y (contains-filter test s.b2 y h))

page-part : (m : FrameMap) (v y : ℕ) → is_some (page_of (with_page m v None) y) ≡ true → is_some (page_of m y) ≡ true
page-part m v y h = elim (cases_eq y v) [
  | inl e ↦ let n : false ≡ true = sym (ap is_some (ap (page_of (with_page m v None)) e ∙ page_gone m v)) ∙ h in absurd (cc)
  | inr ne ↦ sym (ap is_some (page_there m v y None ne)) ∙ h
]

-- ---- a part of a cache

-- What holds of a cache that has a part of what another has.
pub record IsPart (c d : PageCache) : Type 0 where
  pub stood : (y : ℕ) → stands d y ≡ true → stands c y ≡ true
  pub size : length d.table.pages ≡ length c.table.pages

part_both : (c d : PageCache) (y : ℕ) → (is_some (place d.lists y) ≡ true → is_some (place c.lists y) ≡ true)
    → (is_some (page_of d.table y) ≡ true → is_some (page_of c.table y) ≡ true) → stands d y ≡ true → stands c y ≡ true
part_both c d y a b h = elim (or-cases _ _ h) [ inl k ↦ stands-place c y (a k) | inr k ↦ stands-page c y (b k) ]

pub part-named : (names : List (Option ℕ)) (c d : PageCache) → IsNamed names c → IsPart c d → IsNamed names d
part-named names c d h p = record {
  apart = h.apart;
  room = omega (arith, h.room, p.size);
  named = λ y k. h.named y (p.stood y k);
}

part-then : (c d e : PageCache) → IsPart c d → IsPart d e → IsPart c e
part-then c d e p q = record { stood = λ y h. p.stood y (q.stood y h); size = q.size ∙ p.size }

-- ---- a smaller cache

part-fewer_of : (c : PageCache) (o l : Option ℕ) → ((v : ℕ) → o ≡ Some v → is_some (place c.lists v) ≡ true)
    → IsPart c (one_fewer_of c o l)
part-fewer_of c (Some v) l here = record {
  stood = λ y. part_both c (one_fewer_of c (Some v) l) y (part-remembered c.lists v y (here v refl)) (page-part c.table v y);
  size = length-set c.table.pages v None;
}
part-fewer_of c None (Some page) here = record {
  stood = λ y. part_both c (one_fewer_of c None (Some page)) y (part-forget c.lists page y) (λ h. h);
  size = refl;
}
part-fewer_of c None None here = record { stood = λ y h. h; size = refl }

part-one : (c : PageCache) → IsPart c (one_fewer c)
part-one c = part-fewer_of c (given_up c.lists (is_pinned c.table)) (last_cached c.lists)
    (λ v e. cached-place c.lists v (is_cached-victim c.lists false (is_pinned c.table) v e))

one-by_keys : (names : List (Option ℕ)) (c : PageCache) (o l : Option ℕ) → IsNamed names c
    → by_keys names (one_fewer_of c o l)
    ≡ one_fewer_of (by_keys names c) (option_map (key_or_past names) o) (option_map (key_or_past names) l)
one-by_keys names c (Some v) l h = cache_is _ _ c.table.frames _ _
    (sym (after_giving_up-by (key_or_past names) key_count c.lists (Some v) (injective names h.apart)))
    (page-gone names c.table.pages v h.apart h.room)
one-by_keys names c None (Some page) h = cache_is _ _ c.table.frames _ _
    (sym (forget-by (key_or_past names) key_count c.lists page (injective names h.apart))) refl
one-by_keys names c None None h = refl

one_fewer-by_keys : (names : List (Option ℕ)) (c : PageCache) → IsNamed names c → by_keys names (one_fewer c) ≡ one_fewer (by_keys names c)
one_fewer-by_keys names c h = one-by_keys names c (given_up c.lists (is_pinned c.table)) (last_cached c.lists) h
    ∙ ap (λ (o : Option ℕ). one_fewer_of (by_keys names c) o (option_map f (last_cached c.lists)))
    (sym (victim-by f key_count c.lists false (is_pinned c.table) (is_pinned (by_keys names c).table) (same_busy names c h)))
    ∙ ap (one_fewer_of (by_keys names c) (given_up (by_keys names c).lists (is_pinned (by_keys names c).table))) (sym last)
  where
    f : ℕ → ℕ
    f = key_or_past names

    last : last_cached (by_keys names c).lists ≡ option_map f (last_cached c.lists)
    last = rw (last_page-by f c.lists.t1, last_page-by f c.lists.t2) (or-by f (last_page c.lists.t1) (last_page c.lists.t2))

part-fewer : (n : ℕ) (c : PageCache) → IsPart c (fewer n c)
part-fewer zero c = record { stood = λ y h. h; size = refl }
part-fewer (suc n) c = part-then c (one_fewer c) (fewer n (one_fewer c)) (part-one c) (part-fewer n (one_fewer c))

fewer-by_keys : (n : ℕ) (names : List (Option ℕ)) (c : PageCache) → IsNamed names c → by_keys names (fewer n c) ≡ fewer n (by_keys names c)
fewer-by_keys zero names c h = refl
fewer-by_keys (suc n) names c h = fewer-by_keys n names (one_fewer c) (part-named names c (one_fewer c) h (part-one c))
    ∙ ap (fewer n) (one_fewer-by_keys names c h)

pub part-resize : (c : PageCache) (size : ℕ) → IsPart c (after_resize c size)
part-resize c size = part-then c (fewer (cached_count c.lists - size) c) (after_resize c size)
    (part-fewer (cached_count c.lists - size) c) (record {
      stood = λ y. part_both (fewer (cached_count c.lists - size) c) (after_resize c size) y
          (part-resized (fewer (cached_count c.lists - size) c).lists size y) (λ h. h);
      size = refl;
    })

pub resize-by_keys : (names : List (Option ℕ)) (c : PageCache) (size : ℕ) → IsNamed names c
    → by_keys names (after_resize c size) ≡ after_resize (by_keys names c) size
resize-by_keys names c size h =
    ap (λ (l : FourLists). record (by_keys names t) { lists = l }) (sym (resized-by f key_count t.lists size))
    ∙ ap (λ (w : PageCache). record w { lists = resized w.lists size }) (fewer-by_keys (cached_count c.lists - size) names c h)
    ∙ ap (λ (n : ℕ). record (fewer (n - size) (by_keys names c)) { lists = resized (fewer (n - size) (by_keys names c)).lists size })
    (sym (cached_count-by f key_count c.lists))
  where
    f : ℕ → ℕ
    f = key_or_past names

    t : PageCache
    t = fewer (cached_count c.lists - size) c

-- ---- the names afterwards

-- What holds of a part of a cache once the names that stand nowhere have lost their keys.
pub record IsSweptPart (old new : List (Option ℕ)) (d : PageCache) : Type 0 where
  pub keyed : IsKeyed new d
  pub taken : IsTaken old new d
  pub same : by_keys new d ≡ by_keys old d

pub swept : (old new : List (Option ℕ)) (c d : PageCache) → IsKeyed old c → IsPart c d → IsSound d → IsSwept old new d
    → IsSweptPart old new d
swept old new c d k p s w = record {
  keyed = keyed-end new d (taken-named old new d h (taken-swept old new d w)) s (omega (arith, k.fits, p.size))
      (omega (arith, k.spare, p.size, w.size)) (λ x n. gone-swept old new d x w n);
  taken = taken-swept old new d w;
  same = taken-by_keys old new d h (taken-swept old new d w);
}
  where
    h : IsNamed old d
    h = part-named old c d (named_of old c k) p

-- ---- some keys stay

filter-by : (f : ℕ → ℕ) (test keys : ℕ → Bool) (xs : List ℕ) → ((x : ℕ) → contains xs x ≡ true → keys (f x) ≡ test x)
    → map f (filter test xs) ≡ filter keys (map f xs)
filter-by f test keys [] same = refl
filter-by f test keys (x ∷ xs) same =
    first (test x)
    ∙ ap (λ (ys : List ℕ). cond (test x) (f x ∷ ys) ys)
    (filter-by f test keys xs (λ y h. same y (or_right (eqb x y) (contains xs y) h)))
    ∙ ap (λ (b : Bool). cond b (f x ∷ filter keys (map f xs)) (filter keys (map f xs))) (sym (same x (contains-first x xs)))
  where
    first : (b : Bool) → map f (cond b (x ∷ filter test xs) (filter test xs))
        ≡ cond b (f x ∷ map f (filter test xs)) (map f (filter test xs))
    first true = refl
    first false = refl

where-by : (f : ℕ → ℕ) (m : ℕ) (test keys : ℕ → Bool) (s : FourLists)
    → ((x : ℕ) → is_some (place s x) ≡ true → keys (f x) ≡ test x)
    → lists_by f m (lists_where test s) ≡ lists_where keys (lists_by f m s)
where-by f m test keys s same = rw (
  filter-by f test keys s.t1 (λ x h. same x (in-t1 s x h)),
  filter-by f test keys s.t2 (λ x h. same x (in-t2 s x h)),
  filter-by f test keys s.b1 (λ x h. same x (in-b1 s x h)),
  filter-by f test keys s.b2 (λ x h. same x (in-b2 s x h)),
) refl

pub part-keeps : (test : ℕ → Bool) (c d : PageCache) → IsSound c → IsSound d → KeepsOnly test c d → IsPart c d
part-keeps test c d s t k = record {
  stood = λ y. part_both c d y
      (λ h. part-where test c.lists y (sym (ap (λ (l : FourLists). is_some (place l y)) k.lists) ∙ h))
      (λ h. some (test y) y (sym (ap is_some (k.pages y)) ∙ h));
  size = sym t.together.keys ∙ ap (λ (l : FourLists). l.pages) k.lists ∙ s.together.keys;
}
  where
    some : (b : Bool) (y : ℕ) → is_some (cond b (page_of c.table y) None) ≡ true → is_some (page_of c.table y) ≡ true
    some true y h = h
    some false y h = absurd (cc)

pub no_page : (o : Option Resident) → is_some o ≡ false → o ≡ None
no_page None h = refl
no_page (Some r) h = absurd (cc)

cond-none : (b : Bool) (o : Option Resident) → o ≡ None → cond b o None ≡ None
cond-none true o e = e
cond-none false o e = refl

pub keeps-by_keys : (names : List (Option ℕ)) (test keys : ℕ → Bool) (c d : PageCache) → IsNamed names c → IsNamed names d
    → KeepsOnly test c d → ((x : ℕ) → stands c x ≡ true → keys (key_or_past names x) ≡ test x)
    → KeepsOnly keys (by_keys names c) (by_keys names d)
keeps-by_keys names test keys c d h g k same = record {
  lists = ap (lists_by (key_or_past names) key_count) k.lists
      ∙ where-by (key_or_past names) key_count test keys c.lists (λ x p. same x (stands-place c x p));
  pages = λ key. elim (bool_cases (is_some (page_of (by_keys names c).table key))) [
    | inl some ↦
        let w : (name : ℕ) × (key_of names name ≡ Some key) = some-from names c key some in
        let e : page_of (by_keys names c).table key ≡ page_of c.table w.0 = page-key names c w.0 key h w.1 in
        let t : keys key ≡ test w.0 = ap keys (sym (key-named names w.0 key w.1))
        ∙ same w.0 (stands-page c w.0 (sym (ap is_some e) ∙ some)) in
        page-key names d w.0 key g w.1 ∙ k.pages w.0 ∙ ap (λ (b : Bool). cond b (page_of c.table w.0) None) (sym t)
        ∙ ap (λ (o : Option Resident). cond (keys key) o None) (sym e)
    | inr none ↦ gone key (no_page (page_of (by_keys names c).table key) none)
        ∙ sym (cond-none (keys key) (page_of (by_keys names c).table key) (no_page (page_of (by_keys names c).table key) none))
  ];
  frames = k.frames;
}
  where
    gone : (key : ℕ) → page_of (by_keys names c).table key ≡ None → page_of (by_keys names d).table key ≡ None
    gone key none = elim (bool_cases (is_some (page_of (by_keys names d).table key))) [
      | inr e ↦ no_page (page_of (by_keys names d).table key) e
      | inl some ↦
          let w : (name : ℕ) × (key_of names name ≡ Some key) = some-from names d key some in
          page-key names d w.0 key g w.1 ∙ k.pages w.0
          ∙ cond-none (test w.0) (page_of c.table w.0) (sym (page-key names c w.0 key h w.1) ∙ none)
    ]

pub idle-by_keys : (names : List (Option ℕ)) (c : PageCache) (x : ℕ) → IsNamed names c
    → not (is_idle (by_keys names c).table (key_or_past names x)) ≡ not (is_idle c.table x)
idle-by_keys names c x h = ap (λ (o : Option Resident). not (is_some o && not (is_held o))) (page-by names c x h)
