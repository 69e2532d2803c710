-- The cache of keys that a cache of names stands for.
use Rattle.std.proofs.Common.{◌≡◌, ◌⊎◌, ℕ, ◌+◌, ◌<◌, ◌≤◌, Bool, true, false, cond, eqb, List, [], ◌∷◌}
use Rattle.std.proofs.Common.{length, map, get_or, set, refl, ap, sym, subst, ◌∙◌, arith, inl, inr}
use Rattle.std.specs.Prelude.{Option, None, Some, is_some, unwrap_or, ◌||◌}
use Rattle.std.specs.Option.{option_map}
use Rattle.std.proofs.lemmas.Bool.{cases_eq, ne_eqb}
use Rattle.std.proofs.lemmas.List.{get_or_past, set_past}
use Rattle.pp_arc.specs.declared.list.List.TheVariants.{T1, T2, B1, B2}
use Rattle.pp_arc.specs.Pages.{contains, times_in}
use Rattle.pp_arc.specs.FourLists.{FourLists, is_cached, times_named, place}
use Rattle.pp_arc.specs.Bounds.{IsWithinBounds}
use Rattle.pp_arc.proofs.PageLemmas.{times_in-contains_not}
use Rattle.pp_arc.proofs.VictimLemmas.{or_right}
use Rattle.pp_cache.specs.declared.resident.Resident.{Resident}
use Rattle.pp_cache.specs.Frames.{FrameMap, page_of, frame_of, is_held, is_pinned, resident_count, pinned_count}
use Rattle.pp_cache.specs.Frames.{IsOneToOne as IsOneToOneMap}
use Rattle.pp_cache.specs.Cache.{PageCache, IsSound, IsTogether, PinnedStay}
use Rattle.pp_cache.proofs.CacheLemmas.{contains-first}
use Rattle.pp_names.specs.Names.{key_of, IsUnnamed}
use Rattle.pp_names.proofs.TableLemmas.{low_if_some}
use Rattle.pp_keyed.specs.Renamed.{IsInjective, IsSameBusy, lists_by}
use Rattle.pp_keyed.specs.Keyed.{key_count, key_or_past, placed, by_keys, stands, IsKeyed}
use Rattle.pp_keyed.proofs.RenamedLemmas.{place-by, is_cached-by, cached_count-by, recent_count-by, total_count-by}
use Rattle.pp_keyed.proofs.RenamedLemmas.{eqb-by}
use Rattle.pp_keyed.proofs.PlacedLemmas.{IsApart, FromName, placed-from, placed-named, placed-unnamed, placed-same}
use Rattle.pp_keyed.proofs.PlacedLemmas.{placed-set, placed-skip, count-placed, length-placed}

-- Each name that stands in a list or a frame has a key, and others may have one.
pub record IsNamed (names : List (Option ℕ)) (c : PageCache) : Type 0 where
  pub apart : IsApart key_count names
  pub room : length names ≤ length c.table.pages
  pub named : (name : ℕ) → stands c name ≡ true → is_some (key_of names name) ≡ true

pub named_of : (names : List (Option ℕ)) (c : PageCache) → IsKeyed names c → IsNamed names c
named_of names c k = record {
  apart = record { one = k.one_to_one; low = k.below };
  room = k.room;
  named = λ n h. k.named n ∙ h;
}

-- ---- what a name stands for

pub some_is : (o : Option ℕ) → is_some o ≡ true → (k : ℕ) × (o ≡ Some k)
some_is None h = absurd (cc)
some_is (Some k) h = (k, refl)

pub none_is : (o : Option ℕ) → is_some o ≡ false → o ≡ None
none_is None h = refl
none_is (Some k) h = absurd (cc)

pub key-named : (names : List (Option ℕ)) (name key : ℕ) → key_of names name ≡ Some key → key_or_past names name ≡ key
key-named names name key e = ap (λ (o : Option ℕ). unwrap_or o (key_count + name)) e

pub key-unnamed : (names : List (Option ℕ)) (name : ℕ) → key_of names name ≡ None
    → key_or_past names name ≡ key_count + name
key-unnamed names name e = ap (λ (o : Option ℕ). unwrap_or o (key_count + name)) e

pub injective : (names : List (Option ℕ)) → IsApart key_count names → IsInjective (key_or_past names)
injective names a x y same = cases_of (key_of names x) (key_of names y) refl refl
  where
    cases_of : (o p : Option ℕ) → key_of names x ≡ o → key_of names y ≡ p → x ≡ y
    cases_of None None e f = omega (arith, same, key-unnamed names x e, key-unnamed names y f)
    cases_of (Some j) None e f = absurd (omega (arith, same, key-named names x j e, key-unnamed names y f, a.low x j e))
    cases_of None (Some k) e f = absurd (omega (arith, same, key-unnamed names x e, key-named names y k f, a.low y k f))
    cases_of (Some j) (Some k) e f =
        let g : j ≡ k = sym (key-named names x j e) ∙ same ∙ key-named names y k f in a.one x y k (e ∙ ap Some g) f

-- ---- where names stand

pub place-some : (s : FourLists) (x : ℕ)
    → is_some (place s x) ≡ (contains s.t1 x || (contains s.t2 x || (contains s.b1 x || contains s.b2 x)))
place-some s x = go (contains s.t1 x) (contains s.t2 x) (contains s.b1 x) (contains s.b2 x)
  where
    go : (a b c d : Bool) → is_some (cond a (Some T1) (cond b (Some T2) (cond c (Some B1) (cond d (Some B2) None))))
        ≡ (a || (b || (c || d)))
    go true b c d = refl
    go false true c d = refl
    go false false true d = refl
    go false false false true = refl
    go false false false false = refl

pub or_left : (a b : Bool) → a ≡ true → (a || b) ≡ true
or_left true b h = refl
or_left false b h = absurd (cc)

pub or-cases : (a b : Bool) → (a || b) ≡ true → (a ≡ true) ⊎ (b ≡ true)
or-cases true b h = inl refl
or-cases false b h = inr h

pub in-t1 : (s : FourLists) (x : ℕ) → contains s.t1 x ≡ true → is_some (place s x) ≡ true
in-t1 s x h = place-some s x ∙ or_left _ _ h

pub in-t2 : (s : FourLists) (x : ℕ) → contains s.t2 x ≡ true → is_some (place s x) ≡ true
in-t2 s x h = place-some s x ∙ or_right (contains s.t1 x) _ (or_left _ _ h)

pub in-b1 : (s : FourLists) (x : ℕ) → contains s.b1 x ≡ true → is_some (place s x) ≡ true
in-b1 s x h = place-some s x ∙ or_right (contains s.t1 x) _ (or_right (contains s.t2 x) _ (or_left _ _ h))

pub in-b2 : (s : FourLists) (x : ℕ) → contains s.b2 x ≡ true → is_some (place s x) ≡ true
in-b2 s x h = place-some s x ∙ or_right (contains s.t1 x) _ (or_right (contains s.t2 x) _ (or_right (contains s.b1 x) _ h))

pub cached-place : (s : FourLists) (x : ℕ) → is_cached s x ≡ true → is_some (place s x) ≡ true
cached-place s x h = elim (or-cases (contains s.t1 x) (contains s.t2 x) h) [ inl a ↦ in-t1 s x a | inr b ↦ in-t2 s x b ]

pub stands-place : (c : PageCache) (x : ℕ) → is_some (place c.lists x) ≡ true → stands c x ≡ true
stands-place c x h = or_left _ _ h

pub stands-page : (c : PageCache) (x : ℕ) → is_some (page_of c.table x) ≡ true → stands c x ≡ true
stands-page c x h = or_right (is_some (place c.lists x)) _ h

-- ---- other names

map_agree : (f g : ℕ → ℕ) (xs : List ℕ) → ((x : ℕ) → contains xs x ≡ true → f x ≡ g x) → map f xs ≡ map g xs
map_agree f g [] agree = refl
map_agree f g (y ∷ ys) agree =
    ap (λ (z : ℕ). z ∷ map f ys) (agree y (contains-first y ys))
    ∙ ap (λ (zs : List ℕ). g y ∷ zs) (map_agree f g ys (λ x h. agree x (or_right (eqb y x) (contains ys x) h)))

pub lists_agree : (f g : ℕ → ℕ) (m : ℕ) (s : FourLists) → ((x : ℕ) → is_some (place s x) ≡ true → f x ≡ g x)
    → lists_by f m s ≡ lists_by g m s
lists_agree f g m s agree = rw (
  map_agree f g s.t1 (λ x h. agree x (in-t1 s x h)),
  map_agree f g s.t2 (λ x h. agree x (in-t2 s x h)),
  map_agree f g s.b1 (λ x h. agree x (in-b1 s x h)),
  map_agree f g s.b2 (λ x h. agree x (in-b2 s x h)),
) refl

pub key_agree : (names names' : List (Option ℕ)) (x : ℕ) → key_of names x ≡ key_of names' x
    → key_or_past names x ≡ key_or_past names' x
key_agree names names' x e = ap (λ (o : Option ℕ). unwrap_or o (key_count + x)) e

pub cache_is : (a b : FourLists) (n : ℕ) (p q : List (Option Resident)) → a ≡ b → p ≡ q
    → (let s : PageCache = record { lists = a; table = record { frames = n; pages = p } } in s)
    ≡ record { lists = b; table = record { frames = n; pages = q } }
cache_is a b n p q e f = rw (e, f) refl

-- Names are given to what stands nowhere, and taken from it: nobody sees it.
pub by_keys_agree : (names names' : List (Option ℕ)) (c : PageCache) → IsApart key_count names → IsApart key_count names'
    → ((x : ℕ) → stands c x ≡ true → key_of names x ≡ key_of names' x) → by_keys names c ≡ by_keys names' c
by_keys_agree names names' c a a' agree = cache_is _ _ c.table.frames _ _
    (lists_agree (key_or_past names) (key_or_past names') key_count c.lists
    (λ x h. key_agree names names' x (agree x (stands-place c x h))))
    (placed-same key_count names names' c.table.pages c.table.pages a a' (λ x. refl) (λ x h. agree x (stands-page c x h)))

-- ---- pages by key

pub page-by : (names : List (Option ℕ)) (c : PageCache) (x : ℕ) → IsNamed names c
    → page_of (by_keys names c).table (key_or_past names x) ≡ page_of c.table x
page-by names c x h = go (key_of names x) refl
  where
    unnamed : (o : Option Resident) → (is_some o ≡ true → false ≡ true) → o ≡ None
    unnamed None k = refl
    unnamed (Some r) k = let n : false ≡ true = k refl in absurd (cc)

    go : (o : Option ℕ) → key_of names x ≡ o → page_of (by_keys names c).table (key_or_past names x) ≡ page_of c.table x
    go (Some k) e = rw (key-named names x k e) (placed-named key_count names c.table.pages x k h.apart e)
    go None e = rw (key-unnamed names x e)
        (get_or_past (placed key_count names c.table.pages) (key_count + x) None
        (omega (arith, length-placed key_count names c.table.pages))
        ∙ sym (unnamed (page_of c.table x) (λ some. sym (ap is_some e) ∙ h.named x (stands-page c x some))))

pub page-key : (names : List (Option ℕ)) (c : PageCache) (x key : ℕ) → IsNamed names c → key_of names x ≡ Some key
    → page_of (by_keys names c).table key ≡ page_of c.table x
page-key names c x key h e = placed-named key_count names c.table.pages x key h.apart e

pub page-unnamed : (names : List (Option ℕ)) (c : PageCache) (key : ℕ) → IsUnnamed names key
    → page_of (by_keys names c).table key ≡ None
page-unnamed names c key u = placed-unnamed key_count names c.table.pages key u

pub same_busy : (names : List (Option ℕ)) (c : PageCache) → IsNamed names c
    → IsSameBusy (key_or_past names) (is_pinned c.table) (is_pinned (by_keys names c).table)
same_busy names c h x = ap is_held (page-by names c x h)

-- a page that leaves its frame
pub page-gone : (names : List (Option ℕ)) (pages : List (Option Resident)) (x : ℕ) → IsApart key_count names
    → length names ≤ length pages
    → placed key_count names (set pages x None) ≡ set (placed key_count names pages) (key_or_past names x) None
page-gone names pages x a room = go (key_of names x) refl
  where
    go : (o : Option ℕ) → key_of names x ≡ o
        → placed key_count names (set pages x None) ≡ set (placed key_count names pages) (key_or_past names x) None
    go (Some k) e = rw (key-named names x k e) (placed-set key_count names pages x k None a e
        (let lt : x < length names = low_if_some names x (ap is_some e) in omega (arith, lt, room)))
    go None e = placed-skip key_count names pages x None a e
        ∙ sym (set_past (placed key_count names pages) (key_or_past names x) None
        (omega (arith, key-unnamed names x e, length-placed key_count names pages)))

-- ---- counts

pub resident-by_keys : (names : List (Option ℕ)) (c : PageCache) → IsNamed names c
    → resident_count (by_keys names c).table ≡ resident_count c.table
resident-by_keys names c h = count-placed key_count is_some names c.table.pages refl h.apart
    (λ x some. h.named x (stands-page c x some))

pub pinned-by_keys : (names : List (Option ℕ)) (c : PageCache) → IsNamed names c
    → pinned_count (by_keys names c).table ≡ pinned_count c.table
pinned-by_keys names c h = count-placed key_count is_held names c.table.pages refl h.apart
    (λ x some. h.named x (stands-page c x some))

-- ---- what holds of the cache of keys

times-by : (f : ℕ → ℕ) (xs : List ℕ) (x : ℕ) → IsInjective f → times_in (map f xs) (f x) ≡ times_in xs x
times-by f [] x inj = refl
times-by f (y ∷ ys) x inj = rw (eqb-by f y x inj, times-by f ys x inj) refl

-- what stands in a list of keys is the key of a name of the list
record Image (f : ℕ → ℕ) (xs : List ℕ) (key : ℕ) : Type 0 where
  pub name : ℕ
  pub is : f name ≡ key
  pub here : contains xs name ≡ true

image : (f : ℕ → ℕ) (xs : List ℕ) (key : ℕ) → contains (map f xs) key ≡ true → Image f xs key
image f [] key h = absurd (cc)
image f (y ∷ ys) key h = elim (cases_eq (f y) key) [
  | inl e ↦ record { name = y; is = e; here = contains-first y ys }
  | inr ne ↦ let w : Image f ys key = image f ys key (sym (ap (λ (b : Bool). b || contains (map f ys) key) (ne_eqb (f y) key ne)) ∙ h) in
      record { name = w.name; is = w.is; here = or_right (eqb y w.name) (contains ys w.name) w.here }
]

-- what is named in a list of keys is the key of a name that stands in the list
pub record Placed (names : List (Option ℕ)) (s : FourLists) (key : ℕ) : Type 0 where
  pub name : ℕ
  pub is : key_or_past names name ≡ key
  pub here : is_some (place s name) ≡ true

pub placed-of : (names : List (Option ℕ)) (s : FourLists) (m key : ℕ)
    → is_some (place (lists_by (key_or_past names) m s) key) ≡ true → Placed names s key
placed-of names s m key h = elim (or-cases _ _ (sym (place-some (lists_by f m s) key) ∙ h)) [
  | inl a ↦ let w : Image f s.t1 key = image f s.t1 key a in record { name = w.name; is = w.is; here = in-t1 s w.name w.here }
  | inr r ↦ elim (or-cases _ _ r) [
    | inl a ↦ let w : Image f s.t2 key = image f s.t2 key a in record { name = w.name; is = w.is; here = in-t2 s w.name w.here }
    | inr q ↦ elim (or-cases _ _ q) [
      | inl a ↦ let w : Image f s.b1 key = image f s.b1 key a in record { name = w.name; is = w.is; here = in-b1 s w.name w.here }
      | inr a ↦ let w : Image f s.b2 key = image f s.b2 key a in record { name = w.name; is = w.is; here = in-b2 s w.name w.here }
    ]
  ]
]
  where
    f : ℕ → ℕ
    f = key_or_past names

pub bool_cases : (b : Bool) → (b ≡ true) ⊎ (b ≡ false)
bool_cases true = inl refl
bool_cases false = inr refl

pub or-none : (a b : Bool) → (a || b) ≡ false → (a ≡ false) × (b ≡ false)
or-none true b h = absurd (cc)
or-none false b h = (refl, h)

times-none : (s : FourLists) (x : ℕ) → is_some (place s x) ≡ false → times_named s x ≡ 0
times-none s x h =
    let a : (contains s.t1 x ≡ false) × ((contains s.t2 x || (contains s.b1 x || contains s.b2 x)) ≡ false) =
    or-none _ _ (sym (place-some s x) ∙ h) in
    let b : (contains s.t2 x ≡ false) × ((contains s.b1 x || contains s.b2 x) ≡ false) = or-none _ _ a.1 in
    let c : (contains s.b1 x ≡ false) × (contains s.b2 x ≡ false) = or-none _ _ b.1 in
    omega (
      arith,
      times_in-contains_not s.t1 x a.0,
      times_in-contains_not s.t2 x b.0,
      times_in-contains_not s.b1 x c.0,
      times_in-contains_not s.b2 x c.1,
    )

times_named-by : (f : ℕ → ℕ) (m : ℕ) (s : FourLists) (x : ℕ) → IsInjective f
    → times_named (lists_by f m s) (f x) ≡ times_named s x
times_named-by f m s x inj =
    rw (times-by f s.t1 x inj, times-by f s.t2 x inj, times-by f s.b1 x inj, times-by f s.b2 x inj) refl

pub bounds-by_keys : (names : List (Option ℕ)) (c : PageCache) → IsNamed names c → IsWithinBounds c.lists
    → IsWithinBounds (by_keys names c).lists
bounds-by_keys names c h b = record {
  holds_a_page = b.holds_a_page;
  cached = omega (arith, b.cached, cached_count-by f key_count c.lists);
  recent = omega (arith, b.recent, recent_count-by f key_count c.lists);
  total = omega (arith, b.total, total_count-by f key_count c.lists);
  once = λ key. elim (bool_cases (is_some (place (by_keys names c).lists key))) [
    | inl some ↦ let w : Placed names c.lists key = placed-of names c.lists key_count key some in
        subst (λ (k : ℕ). times_named (by_keys names c).lists k ≤ 1) w.is
        (omega (arith, b.once w.name, times_named-by f key_count c.lists w.name inj))
    | inr none ↦ omega (arith, times-none (by_keys names c).lists key none)
  ];
  below = λ key some. elim (bool_cases (is_some (place (by_keys names c).lists key))) [
    | inl here ↦ let w : Placed names c.lists key = placed-of names c.lists key_count key here in
        let k : (k : ℕ) × (key_of names w.name ≡ Some k) =
        some_is (key_of names w.name) (h.named w.name (stands-place c w.name w.here)) in
        omega (arith, w.is, key-named names w.name k.0 k.1, h.apart.low w.name k.0 k.1)
    | inr none ↦ absurd (omega (arith, some, times-none (by_keys names c).lists key none))
  ];
  aimed = b.aimed;
}
  where
    f : ℕ → ℕ
    f = key_or_past names

    inj : IsInjective f
    inj = injective names h.apart

-- a frame that has the page of a key has that of the key's name
pub record FrameName (names : List (Option ℕ)) (m : FrameMap) (key frame : ℕ) : Type 0 where
  pub name : ℕ
  pub named : key_of names name ≡ Some key
  pub here : frame_of m name ≡ Some frame

pub frame-from : (names : List (Option ℕ)) (m : FrameMap) (key frame : ℕ)
    → frame_of (record { frames = m.frames; pages = placed key_count names m.pages }) key ≡ Some frame
    → FrameName names m key frame
frame-from names m key frame e = go (get_or (placed key_count names m.pages) key None) refl e
  where
    go : (o : Option Resident) → get_or (placed key_count names m.pages) key None ≡ o
        → option_map (λ (page : Resident). page.frame) o ≡ Some frame → FrameName names m key frame
    go None e f = absurd (cc)
    go (Some r) e f =
        let w : FromName names m.pages key r = placed-from key_count names m.pages key r e in
        record {
          name = w.name;
          named = w.named;
          here = ap (option_map (λ (page : Resident). page.frame)) w.here ∙ f;
        }

pub frames-by_keys : (names : List (Option ℕ)) (c : PageCache) → IsNamed names c → IsOneToOneMap c.table
    → IsOneToOneMap (by_keys names c).table
frames-by_keys names c h one = record {
  in_range = λ key frame e. let w : FrameName names c.table key frame = frame-from names c.table key frame e in
      one.in_range w.name frame w.here;
  no_frame_twice = λ p q frame e f.
      let v : FrameName names c.table p frame = frame-from names c.table p frame e in
      let w : FrameName names c.table q frame = frame-from names c.table q frame f in
      let same : v.name ≡ w.name = one.no_frame_twice v.name w.name frame v.here w.here in
      let s : Some p ≡ Some q = sym v.named ∙ ap (key_of names) same ∙ w.named in
      cc;
}

-- a cached key is that of a cached name
pub record CachedName (names : List (Option ℕ)) (s : FourLists) (key : ℕ) : Type 0 where
  pub name : ℕ
  pub is : key_or_past names name ≡ key
  pub here : is_cached s name ≡ true

pub cached-of : (names : List (Option ℕ)) (s : FourLists) (m key : ℕ)
    → is_cached (lists_by (key_or_past names) m s) key ≡ true → CachedName names s key
cached-of names s m key h = elim (or-cases _ _ h) [
  | inl a ↦ let w : Image (key_or_past names) s.t1 key = image (key_or_past names) s.t1 key a in
      record { name = w.name; is = w.is; here = or_left _ _ w.here }
  | inr a ↦ let w : Image (key_or_past names) s.t2 key = image (key_or_past names) s.t2 key a in
      record { name = w.name; is = w.is; here = or_right (contains s.t1 w.name) _ w.here }
]

-- a page that stands in a frame by its key is that of a name
pub some-from : (names : List (Option ℕ)) (c : PageCache) (key : ℕ) → is_some (page_of (by_keys names c).table key) ≡ true
    → (name : ℕ) × (key_of names name ≡ Some key)
some-from names c key some = go (page_of (by_keys names c).table key) refl some
  where
    go : (o : Option Resident) → page_of (by_keys names c).table key ≡ o → is_some o ≡ true
        → (name : ℕ) × (key_of names name ≡ Some key)
    go None e h = absurd (cc)
    go (Some r) e h =
        let w : FromName names c.table.pages key r = placed-from key_count names c.table.pages key r e in (w.name, w.named)

pub together-by_keys : (names : List (Option ℕ)) (c : PageCache) → IsNamed names c → IsTogether c → IsTogether (by_keys names c)
together-by_keys names c h t = record {
  keys = sym (length-placed key_count names c.table.pages);
  cached_has_frame = λ key cached.
      let w : CachedName names c.lists key = cached-of names c.lists key_count key cached in
      subst (λ (k : ℕ). is_some (page_of (by_keys names c).table k) ≡ true) w.is
      (ap is_some (page-by names c w.name h) ∙ t.cached_has_frame w.name w.here);
  unpinned_is_cached = λ key some free.
      let w : (name : ℕ) × (key_of names name ≡ Some key) = some-from names c key some in
      let e : page_of (by_keys names c).table key ≡ page_of c.table w.0 = page-key names c w.0 key h w.1 in
      subst (λ (k : ℕ). is_cached (by_keys names c).lists k ≡ true) (key-named names w.0 key w.1)
      (is_cached-by (key_or_past names) key_count c.lists w.0 (injective names h.apart)
      ∙ t.unpinned_is_cached w.0 (sym (ap is_some e) ∙ some) (sym (ap is_held e) ∙ free));
}

pub sound-by_keys : (names : List (Option ℕ)) (c : PageCache) → IsNamed names c → IsSound c → IsSound (by_keys names c)
sound-by_keys names c h s = record {
  bounds = bounds-by_keys names c h s.bounds;
  frames = frames-by_keys names c h s.frames;
  together = together-by_keys names c h s.together;
}

held-some : (o : Option Resident) → is_held o ≡ true → is_some o ≡ true
held-some None h = absurd (cc)
held-some (Some r) h = refl

pub stay-by_keys : (names names' : List (Option ℕ)) (c c' : PageCache) → IsNamed names c → IsNamed names' c'
    → ((x : ℕ) → is_pinned c.table x ≡ true → key_of names x ≡ key_of names' x) → PinnedStay c.table c'.table
    → PinnedStay (by_keys names c).table (by_keys names' c').table
stay-by_keys names names' c c' h h' agree stay key held =
    let w : (name : ℕ) × (key_of names name ≡ Some key) = some-from names c key (held-some _ held) in
    let e : page_of (by_keys names c).table key ≡ page_of c.table w.0 = page-key names c w.0 key h w.1 in
    let here : is_pinned c.table w.0 ≡ true = sym (ap is_held e) ∙ held in
    page-key names' c' w.0 key h' (sym (agree w.0 here) ∙ w.1) ∙ stay w.0 here ∙ sym e

-- a key that stands nowhere has no name
pub absent-unnamed : (names : List (Option ℕ)) (c : PageCache) (key : ℕ) → IsKeyed names c
    → page_of (by_keys names c).table key ≡ None → is_some (place (by_keys names c).lists key) ≡ false → IsUnnamed names key
absent-unnamed names c key k none nowhere name e =
    let h : IsNamed names c = named_of names c k in
    let p : is_some (place c.lists name) ≡ false =
    sym (ap is_some (place-by (key_or_past names) key_count c.lists name (injective names h.apart)))
    ∙ subst (λ (i : ℕ). is_some (place (by_keys names c).lists i) ≡ false) (sym (key-named names name key e)) nowhere in
    let q : is_some (page_of c.table name) ≡ false =
    sym (ap is_some (page-key names c name key h e)) ∙ ap is_some none in
    let n : stands c name ≡ false = ap (λ (b : Bool). b || is_some (page_of c.table name)) p ∙ q in
    let t : true ≡ false = sym (ap is_some e) ∙ k.named name ∙ n in
    cc
