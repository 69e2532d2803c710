-- A page whose name gets another key is the page of that key.
use Rattle.std.proofs.Common.{◌≡◌, ◌≢◌, ℕ, ◌<◌, Bool, true, false, not, cond, eqb, List, [], ◌∷◌}
use Rattle.std.proofs.Common.{length, get_or, set, refl, ap, sym, ◌∙◌, arith, inl, inr, length-set}
use Rattle.std.proofs.Common.{get_or-set_other, get_or-set_same, eq-eqb, set-set}
use Rattle.std.specs.Prelude.{Option, None, Some, is_some, ◌||◌}
use Rattle.std.proofs.lemmas.Bool.{cases_eq, ne_eqb}
use Rattle.std.proofs.lemmas.List.{ext_get_or}
use Rattle.pp_arc.specs.declared.list.List.{List as ListName}
use Rattle.pp_arc.specs.declared.list.List.TheVariants.{T1, T2, B1, B2}
use Rattle.pp_arc.specs.Pages.{contains, without}
use Rattle.pp_arc.specs.FourLists.{FourLists, place}
use Rattle.pp_arc.specs.Figure.{forget}
use Rattle.pp_arc.specs.Links.{with_front}
use Rattle.pp_arc.specs.Sizes.{renamed, renamed_in}
use Rattle.pp_arc.proofs.VictimLemmas.{or_right}
use Rattle.pp_cache.specs.declared.resident.Resident.{Resident}
use Rattle.pp_cache.specs.Frames.{FrameMap, page_of, with_page, moved}
use Rattle.pp_cache.specs.Cache.{PageCache, IsSound, dropped, moved_page}
use Rattle.pp_cache.proofs.CacheLemmas.{filter_pass, page_gone}
use Rattle.pp_names.specs.Names.{key_of, IsUnnamed, named_count}
use Rattle.pp_names.proofs.TableLemmas.{low_if_some}
use Rattle.pp_keyed.specs.Renamed.{IsInjective, lists_by}
use Rattle.pp_keyed.specs.Keyed.{key_count, key_or_past, placed, by_keys, stands, IsKeyed}
use Rattle.pp_keyed.proofs.RenamedLemmas.{forget-by, place-by, renamed_in-by}
use Rattle.pp_keyed.proofs.PlacedLemmas.{IsApart, placed-named, placed-unnamed, placed-key, length-placed}
use Rattle.pp_keyed.proofs.ByKeysLemmas.{named_of, injective, key-named, key_agree, lists_agree, cache_is}
use Rattle.pp_keyed.proofs.ByKeysLemmas.{place-some, or-none}
use Rattle.pp_keyed.proofs.TakenLemmas.{key-set, apart_given, count-fewer}
use Rattle.pp_keyed.proofs.CallLemmas.{place-forget}
use Rattle.pp_keyed.proofs.BringLemmas.{cache_of, map_of}

-- ---- lists without a page

contains-gone : (xs : List ℕ) (x : ℕ) → contains (without xs x) x ≡ false
contains-gone [] x = refl
contains-gone (z ∷ zs) x = elim (cases_eq z x) [
  | inl e ↦ ap (λ (b : Bool). contains (cond (not b) (z ∷ without zs x) (without zs x)) x) (eq-eqb z x e)
      ∙ contains-gone zs x
  | inr n ↦ ap (λ (b : Bool). contains (cond (not b) (z ∷ without zs x) (without zs x)) x) (ne_eqb z x n)
      ∙ ap (λ (b : Bool). b || contains (without zs x) x) (ne_eqb z x n) ∙ contains-gone zs x
]

-- a list without what it doesn't have
without-absent : (xs : List ℕ) (x : ℕ) → contains xs x ≡ false → without xs x ≡ xs
without-absent xs x none = filter_pass (λ y. not (eqb y x)) xs
    (λ y h. ap not (ne_eqb y x (λ e. let n : true ≡ false = sym h ∙ ap (contains xs) e ∙ none in cc)))

without-twice : (xs : List ℕ) (x : ℕ) → without (without xs x) x ≡ without xs x
without-twice xs x = without-absent (without xs x) x (contains-gone xs x)

cond-without : (b : Bool) (z : ℕ) (zs : List ℕ) (y : ℕ)
    → without (cond b (z ∷ zs) zs) y ≡ cond b (cond (not (eqb z y)) (z ∷ without zs y) (without zs y)) (without zs y)
cond-without true z zs y = refl
cond-without false z zs y = refl

without-swap : (xs : List ℕ) (x y : ℕ) → without (without xs x) y ≡ without (without xs y) x
without-swap [] x y = refl
without-swap (z ∷ zs) x y =
    cond-without (not (eqb z x)) z (without zs x) y
    ∙ ap (λ (ws : List ℕ). cond (not (eqb z x)) (cond (not (eqb z y)) (z ∷ ws) ws) ws) (without-swap zs x y)
    ∙ swap (not (eqb z x)) (not (eqb z y)) (without (without zs y) x)
    ∙ sym (cond-without (not (eqb z y)) z (without zs y) x)
  where
    swap : (a b : Bool) (ws : List ℕ)
        → cond a (cond b (z ∷ ws) ws) ws ≡ cond b (cond a (z ∷ ws) ws) ws
    swap true true ws = refl
    swap true false ws = refl
    swap false true ws = refl
    swap false false ws = refl

lists_of : (s : FourLists) (a b d e a' b' d' e' : List ℕ) → a ≡ a' → b ≡ b' → d ≡ d' → e ≡ e'
    → (let t : FourLists = record s { t1 = a; t2 = b; b1 = d; b2 = e } in t)
    ≡ record s { t1 = a'; t2 = b'; b1 = d'; b2 = e' }
lists_of s a b d e a' b' d' e' i j k l = rw (i, j, k, l) refl

forget-twice : (s : FourLists) (x : ℕ) → forget (forget s x) x ≡ forget s x
forget-twice s x = lists_of s _ _ _ _ _ _ _ _ (without-twice s.t1 x) (without-twice s.t2 x) (without-twice s.b1 x)
    (without-twice s.b2 x)

forget-swap : (s : FourLists) (x y : ℕ) → forget (forget s x) y ≡ forget (forget s y) x
forget-swap s x y = lists_of s _ _ _ _ _ _ _ _ (without-swap s.t1 x y) (without-swap s.t2 x y) (without-swap s.b1 x y)
    (without-swap s.b2 x y)

-- what stands in none of the lists
record Nowhere (s : FourLists) (x : ℕ) : Type 0 where
  pub t1 : contains s.t1 x ≡ false
  pub t2 : contains s.t2 x ≡ false
  pub b1 : contains s.b1 x ≡ false
  pub b2 : contains s.b2 x ≡ false

nowhere : (s : FourLists) (x : ℕ) → is_some (place s x) ≡ false → Nowhere s x
nowhere s x h =
    let a : (contains s.t1 x ≡ false) × ((contains s.t2 x || (contains s.b1 x || contains s.b2 x)) ≡ false) =
    or-none _ _ (sym (place-some s x) ∙ h) in
    let b : (contains s.t2 x ≡ false) × ((contains s.b1 x || contains s.b2 x) ≡ false) = or-none _ _ a.1 in
    let c : (contains s.b1 x ≡ false) × (contains s.b2 x ≡ false) = or-none _ _ b.1 in
    record { t1 = a.0; t2 = b.0; b1 = c.0; b2 = c.1 }

pub forget-absent : (s : FourLists) (x : ℕ) → is_some (place s x) ≡ false → forget s x ≡ s
forget-absent s x h =
    let n : Nowhere s x = nowhere s x h in
    lists_of s _ _ _ _ _ _ _ _ (without-absent s.t1 x n.t1) (without-absent s.t2 x n.t2) (without-absent s.b1 x n.b1)
    (without-absent s.b2 x n.b2)

pub gone-forget : (s : FourLists) (x : ℕ) → is_some (place (forget s x) x) ≡ false
gone-forget s x = rw (contains-gone s.t1 x, contains-gone s.t2 x, contains-gone s.b1 x, contains-gone s.b2 x) refl

-- ---- a name that goes to the front of its list

-- who stands in a list is the same
front-some : (t : FourLists) (list : ListName) (x y : ℕ) → y ≢ x → is_some (place (with_front t list x) y) ≡ is_some (place t y)
front-some t T1 x y ne = rw (ne_eqb x y (λ e. ne (sym e))) refl
front-some t T2 x y ne = rw (ne_eqb x y (λ e. ne (sym e))) refl
front-some t B1 x y ne = rw (ne_eqb x y (λ e. ne (sym e))) refl
front-some t B2 x y ne = rw (ne_eqb x y (λ e. ne (sym e))) refl

front-here : (t : FourLists) (list : ListName) (x : ℕ) → is_some (place (with_front t list x) x) ≡ true
front-here t T1 x = place-some (with_front t T1 x) x ∙ rw (eq-eqb x x refl) refl
front-here t T2 x = place-some (with_front t T2 x) x ∙ rw (eq-eqb x x refl) (or_right (contains t.t1 x) true refl)
front-here t B1 x = place-some (with_front t B1 x) x ∙ rw (eq-eqb x x refl) (or_right (contains t.t1 x) _ (or_right (contains t.t2 x) true refl))
front-here t B2 x = place-some (with_front t B2 x) x ∙ rw (eq-eqb x x refl)
    (or_right (contains t.t1 x) _ (or_right (contains t.t2 x) _ (or_right (contains t.b1 x) true refl)))

pub first-some : (s : FourLists) (x y : ℕ) → is_some (place (renamed s x x) y) ≡ is_some (place s y)
first-some s x y = go (place s x) refl
  where
    t : FourLists
    t = forget (forget s x) x

    other : (at : Option ListName) → y ≢ x → is_some (place (renamed_in at t x) y) ≡ is_some (place t y)
    other None ne = refl
    other (Some list) ne = front-some t list x y ne

    here : (at : Option ListName) → is_some (place (renamed_in at t x) x) ≡ is_some at
    here None = gone-forget (forget s x) x
    here (Some list) = front-here t list x

    go : (at : Option ListName) → place s x ≡ at → is_some (place (renamed_in at t x) y) ≡ is_some (place s y)
    go at e = elim (cases_eq y x) [
      | inr ne ↦ other at ne ∙ ap is_some (place-forget (forget s x) x y ne ∙ place-forget s x y ne)
      | inl same ↦ ap (λ (i : ℕ). is_some (place (renamed_in at t x) i)) same ∙ here at
          ∙ sym (ap is_some e) ∙ ap (λ (i : ℕ). is_some (place s i)) (sym same)
    ]

set_twice : (xs : List (Option Resident)) (k : ℕ) → set (set xs k None) k None ≡ set xs k None
set_twice xs k = set-set xs k None None

-- ---- the page under its new key

-- What is known of a name that gets a new key.
pub record NewKey (names : List (Option ℕ)) (c : PageCache) (x old new : ℕ) : Type 0 where
  pub keyed : IsKeyed names c
  pub named : key_of names x ≡ Some old
  pub unnamed : IsUnnamed names new
  pub nowhere : is_some (place (by_keys names c).lists new) ≡ false
  pub low : new < key_count

other_key : (names : List (Option ℕ)) (x old new : ℕ) → key_of names x ≡ Some old → IsUnnamed names new → old ≢ new
other_key names x old new e none same = none x (e ∙ ap Some same)

key_here : (names : List (Option ℕ)) (x old new : ℕ) → key_of names x ≡ Some old → key_of (set names x (Some new)) x ≡ Some new
key_here names x old new e = get_or-set_same names x (Some new) None (low_if_some names x (ap is_some e))

moved-lists : (names : List (Option ℕ)) (c : PageCache) (x old new : ℕ) → NewKey names c x old new
    → lists_by (key_or_past (set names x (Some new))) key_count (renamed c.lists x x)
    ≡ renamed (lists_by (key_or_past names) key_count c.lists) old new
moved-lists names c x old new k =
    sym (renamed_in-by f' key_count (place s x) t x)
    ∙ ap (λ (i : ℕ). renamed_in (place s x) (lists_by f' key_count t) i) (key-named (set names x (Some new)) x new
    (key_here names x old new k.named))
    ∙ ap (λ (w : FourLists). renamed_in (place s x) w new) (same_lists ∙ forgotten)
    ∙ ap (λ (at : Option ListName). renamed_in at (forget (forget l old) new) new)
    (sym (place-by f key_count s x inj) ∙ ap (place l) (key-named names x old k.named))
  where
    f : ℕ → ℕ
    f = key_or_past names

    f' : ℕ → ℕ
    f' = key_or_past (set names x (Some new))

    s : FourLists
    s = c.lists

    l : FourLists
    l = lists_by f key_count s

    t : FourLists
    t = forget (forget s x) x

    inj : IsInjective f
    inj = injective names (named_of names c k.keyed).apart

    ne : old ≢ new
    ne = other_key names x old new k.named k.unnamed

    same_lists : lists_by f' key_count t ≡ lists_by f key_count t
    same_lists = lists_agree f' f key_count t (λ y some. key_agree (set names x (Some new)) names y (key-set names x y (Some new)
        (λ same. let n : true ≡ false = sym some ∙ ap (λ (i : ℕ). is_some (place t i)) same ∙ gone-forget (forget s x) x in cc)))

    once : forget l old ≡ lists_by f key_count (forget s x)
    once = ap (forget l) (sym (key-named names x old k.named)) ∙ forget-by f key_count s x inj

    forgotten : lists_by f key_count t ≡ forget (forget l old) new
    forgotten = sym (forget-by f key_count (forget s x) x inj)
        ∙ ap (forget (lists_by f key_count (forget s x))) (key-named names x old k.named)
        ∙ ap (λ (w : FourLists). forget w old) (sym once)
        ∙ forget-twice l old
        ∙ sym (forget-absent (forget l old) new
        (ap is_some (place-forget l old new (λ e. ne (sym e))) ∙ k.nowhere))

moved-pages : (names : List (Option ℕ)) (c : PageCache) (x old new : ℕ) → NewKey names c x old new
    → placed key_count (set names x (Some new)) c.table.pages
    ≡ (moved (with_page (by_keys names c).table new None) old new).pages
moved-pages names c x old new k =
    ext_get_or None _ _ (length-placed key_count names' c.table.pages ∙ sym size) at
  where
    names' : List (Option ℕ)
    names' = set names x (Some new)

    p : List (Option Resident)
    p = placed key_count names c.table.pages

    q : List (Option Resident)
    q = set (set p new None) old None

    o : Option Resident
    o = get_or (set p new None) old None

    a : IsApart key_count names
    a = (named_of names c k.keyed).apart

    a' : IsApart key_count names'
    a' = apart_given names x new a k.low k.unnamed

    ne : old ≢ new
    ne = other_key names x old new k.named k.unnamed

    size : length (set q new o) ≡ key_count
    size = length-set q new o ∙ length-set (set p new None) old None ∙ length-set p new None
        ∙ length-placed key_count names c.table.pages

    low : new < length q
    low = omega (arith, k.low, size, length-set q new o)

    named_here : key_of names' x ≡ Some new
    named_here = key_here names x old new k.named

    at_new : get_or (placed key_count names' c.table.pages) new None ≡ get_or (set q new o) new None
    at_new = placed-named key_count names' c.table.pages x new a' named_here
        ∙ sym (placed-named key_count names c.table.pages x old a k.named)
        ∙ sym (get_or-set_other p new old None None ne)
        ∙ sym (get_or-set_same q new o None low)

    old_unnamed : IsUnnamed names' old
    old_unnamed n e = elim (cases_eq n x) [
      | inl same ↦ let w : Some new ≡ Some old = sym named_here ∙ ap (key_of names') (sym same) ∙ e in ne (cc)
      | inr other ↦ other (a.one n x old (sym (key-set names x n (Some new) other) ∙ e) k.named)
    ]

    at_old : get_or (placed key_count names' c.table.pages) old None ≡ get_or (set q new o) old None
    at_old = placed-unnamed key_count names' c.table.pages old old_unnamed
        ∙ sym (get_or-set_other q new old o None ne
        ∙ page_gone (let m : FrameMap = record { frames = 0; pages = set p new None } in m) old)

    forth : (i : ℕ) → i ≢ new → (n : ℕ) → key_of names' n ≡ Some i → key_of names n ≡ Some i
    forth i away n e = elim (cases_eq n x) [
      | inl same ↦ let w : Some new ≡ Some i = sym named_here ∙ ap (key_of names') (sym same) ∙ e in absurd (away (cc))
      | inr other ↦ sym (key-set names x n (Some new) other) ∙ e
    ]

    back : (i : ℕ) → i ≢ old → (n : ℕ) → key_of names n ≡ Some i → key_of names' n ≡ Some i
    back i away n e = elim (cases_eq n x) [
      | inl same ↦ let w : Some old ≡ Some i = sym k.named ∙ ap (key_of names) (sym same) ∙ e in absurd (away (cc))
      | inr other ↦ key-set names x n (Some new) other ∙ e
    ]

    at : (i : ℕ) → i < length (placed key_count names' c.table.pages)
        → get_or (placed key_count names' c.table.pages) i None ≡ get_or (set q new o) i None
    at i lt = elim (cases_eq i new) [
      | inl e ↦ rw e at_new
      | inr n ↦ elim (cases_eq i old) [
        | inl e ↦ rw e at_old
        | inr m ↦ placed-key key_count names' names c.table.pages i a' a (forth i n) (back i m)
            ∙ sym (get_or-set_other q new i o None n ∙ get_or-set_other (set p new None) old i None None m
            ∙ get_or-set_other p new i None None n)
      ]
    ]

-- What holds once the name has its new key, and stands at the front of its list.
pub record IsMoved (names : List (Option ℕ)) (c d : PageCache) (x old new : ℕ) : Type 0 where
  pub keyed : IsKeyed (set names x (Some new)) d
  pub same : by_keys (set names x (Some new)) d ≡ moved_page (by_keys names c) old new
  pub used : named_count (set names x (Some new)) ≡ named_count names

pub moved-key : (names : List (Option ℕ)) (c d : PageCache) (x old new : ℕ) → NewKey names c x old new → IsSound d
    → d ≡ record c { lists = renamed c.lists x x } → IsMoved names c d x old new
moved-key names c d x old new k s e = record {
  keyed = record {
    sound = s;
    one_to_one = a'.one;
    below = a'.low;
    room = omega (arith, k.keyed.room, length-set names x (Some new), size);
    fits = omega (arith, k.keyed.fits, size);
    spare = omega (arith, k.keyed.spare, length-set names x (Some new), size);
    named = λ y. some_same y ∙ k.keyed.named y ∙ sym (stood y);
  };
  same = ap (by_keys names') e ∙ cache_is _ _ c.table.frames _ _ (moved-lists names c x old new k) (moved-pages names c x old new k);
  used = omega (
    arith,
    count-fewer names names' (length-set names x (Some new)) (λ y h. sym (some_same y) ∙ h),
    count-fewer names' names (sym (length-set names x (Some new))) (λ y h. some_same y ∙ h),
  );
}
  where
    names' : List (Option ℕ)
    names' = set names x (Some new)

    a' : IsApart key_count names'
    a' = apart_given names x new (named_of names c k.keyed).apart k.low k.unnamed

    size : length d.table.pages ≡ length c.table.pages
    size = ap (λ (w : PageCache). length w.table.pages) e

    some_same : (y : ℕ) → is_some (key_of names' y) ≡ is_some (key_of names y)
    some_same y = elim (cases_eq y x) [
      | inl same ↦ rw same (ap is_some (key_here names x old new k.named) ∙ sym (ap is_some k.named))
      | inr ne ↦ ap is_some (key-set names x y (Some new) ne)
    ]

    stood : (y : ℕ) → stands d y ≡ stands c y
    stood y = ap (λ (w : PageCache). stands w y) e
        ∙ ap (λ (b : Bool). b || is_some (page_of c.table y)) (first-some c.lists x y)

-- ---- what had the new key is dropped before

pub moved-dropped : (s : PageCache) (old new : ℕ) → old ≢ new → moved_page (dropped s new) old new ≡ moved_page s old new
moved-dropped s old new ne = cache_of _ _ _ _ lists
    (ap (λ (m : FrameMap). moved m old new) (map_of s.table.frames _ _ (set_twice s.table.pages new)))
  where
    lists : renamed (forget s.lists new) old new ≡ renamed s.lists old new
    lists = ap (λ (at : Option ListName). renamed_in at (forget (forget (forget s.lists new) old) new) new)
        (place-forget s.lists new old ne)
        ∙ ap (λ (w : FourLists). renamed_in (place s.lists old) (forget w new) new) (forget-swap s.lists new old)
        ∙ ap (λ (w : FourLists). renamed_in (place s.lists old) w new) (forget-twice (forget s.lists old) new)
