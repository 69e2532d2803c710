-- Each step of a cache of names is the same step of the cache of keys.
use Rattle.std.proofs.Common.{◌≡◌, ◌≢◌, ◌⊎◌, ℕ, ◌<◌, ◌≤◌, Bool, true, false, not, cond, eqb, List, [], ◌∷◌}
use Rattle.std.proofs.Common.{length, set, refl, ap, sym, subst, ◌∙◌, arith, inl, inr, length-set}
use Rattle.std.proofs.Common.{eq-eqb}
use Rattle.std.specs.Prelude.{Option, None, Some, is_some, ◌||◌}
use Rattle.std.proofs.lemmas.Bool.{cases_eq, ne_eqb}
use Rattle.pp_arc.specs.declared.answer.Answer.{Answer}
use Rattle.pp_arc.specs.declared.answer.Answer.TheVariants.{Hit}
use Rattle.pp_arc.specs.Pages.{contains, without}
use Rattle.pp_arc.specs.FourLists.{FourLists, is_cached, place}
use Rattle.pp_arc.specs.Bounds.{IsWithinBounds}
use Rattle.pp_arc.specs.Figure.{request, forget}
use Rattle.pp_arc.proofs.LawLemmas.{RequestAnswers-request}
use Rattle.pp_cache.specs.declared.resident.Resident.{Resident}
use Rattle.pp_cache.specs.Frames.{page_of, is_pinned, pinned_to, with_page, with_pinned}
use Rattle.pp_cache.specs.Cache.{PageCache, IsSound, asked, after_pin, dropped}
use Rattle.pp_cache.specs.Cache.{after_unpin}
use Rattle.pp_cache.specs.Names.{is_named, lost_name}
use Rattle.pp_cache.proofs.CacheLemmas.{page_there, some_pinned}
use Rattle.pp_cache.proofs.NameLemmas.{instead-request}
use Rattle.pp_names.specs.Names.{key_of}
use Rattle.pp_names.proofs.TableLemmas.{low_if_some}
use Rattle.pp_keyed.specs.Keyed.{key_count, key_or_past, placed, by_keys, stands, IsKeyed, unused_taken}
use Rattle.pp_keyed.proofs.RenamedLemmas.{is_cached-by, forget-by, request-by}
use Rattle.pp_keyed.proofs.PlacedLemmas.{IsApart, placed-set}
use Rattle.pp_keyed.proofs.ByKeysLemmas.{IsNamed, named_of, injective, key-named, cache_is, page-by, same_busy, page-gone}
use Rattle.pp_keyed.proofs.ByKeysLemmas.{cached-place, none_is}
use Rattle.pp_keyed.proofs.TakenLemmas.{IsTaken, taken-unused, gone-unused, taken-named, taken-by_keys, keyed-end}

pub cond-by_keys : (names : List (Option ℕ)) (b : Bool) (s t : PageCache)
    → by_keys names (cond b s t) ≡ cond b (by_keys names s) (by_keys names t)
cond-by_keys names true s t = refl
cond-by_keys names false s t = refl

-- two tests that imply each other
pub same_bool : (a b : Bool) → (a ≡ true → b ≡ true) → (b ≡ true → a ≡ true) → a ≡ b
same_bool true b h k = sym (h refl)
same_bool false true h k = k refl
same_bool false false h k = refl

-- where both tests of a pair are the same, so is the pair
pub stands_same : (c d : PageCache) (x : ℕ) → is_some (place d.lists x) ≡ is_some (place c.lists x)
    → is_some (page_of d.table x) ≡ is_some (page_of c.table x) → stands d x ≡ stands c x
stands_same c d x e f = ap (λ (b : Bool). b || is_some (page_of d.table x)) e ∙ ap (λ (b : Bool). is_some (place c.lists x) || b) f

-- the page of a name that has a key is another
pub set-named : (names : List (Option ℕ)) (pages : List (Option Resident)) (x key : ℕ) (o : Option Resident)
    → IsApart key_count names → length names ≤ length pages → key_of names x ≡ Some key
    → placed key_count names (set pages x o) ≡ set (placed key_count names pages) (key_or_past names x) o
set-named names pages x key o a room e = rw (key-named names x key e) (placed-set key_count names pages x key o a e
    (let lt : x < length names = low_if_some names x (ap is_some e) in omega (arith, lt, room)))

-- ---- the steps, whoever has a key

pub dropped-by_keys : (names : List (Option ℕ)) (c : PageCache) (x : ℕ) → IsNamed names c
    → by_keys names (dropped c x) ≡ dropped (by_keys names c) (key_or_past names x)
dropped-by_keys names c x h = cache_is _ _ c.table.frames _ _
    (sym (forget-by (key_or_past names) key_count c.lists x (injective names h.apart)))
    (page-gone names c.table.pages x h.apart h.room)

pub held-by_keys : (names : List (Option ℕ)) (c : PageCache) (x key : ℕ) (b : Bool) → IsNamed names c → key_of names x ≡ Some key
    → placed key_count names (set c.table.pages x (pinned_to b (page_of c.table x)))
    ≡ set (placed key_count names c.table.pages) (key_or_past names x)
    (pinned_to b (page_of (by_keys names c).table (key_or_past names x)))
held-by_keys names c x key b h e = set-named names c.table.pages x key (pinned_to b (page_of c.table x)) h.apart h.room e
    ∙ ap (λ (o : Option Resident). set (placed key_count names c.table.pages) (key_or_past names x) (pinned_to b o))
    (sym (page-by names c x h))

-- ---- a page that stands in a frame is pinned

pub pin-by_keys : (names : List (Option ℕ)) (c : PageCache) (x key : ℕ) → IsNamed names c → key_of names x ≡ Some key
    → by_keys names (after_pin c x) ≡ after_pin (by_keys names c) (key_or_past names x)
pin-by_keys names c x key h e = cond-by_keys names (is_pinned c.table x) c fresh
    ∙ ap (λ (d : PageCache). cond (is_pinned c.table x) (by_keys names c) d) step
    ∙ ap (λ (b : Bool). cond b (by_keys names c) fresh') (sym (same_busy names c h x))
  where
    f : ℕ → ℕ
    f = key_or_past names

    fresh : PageCache
    fresh = record { lists = (asked c x).1; table = with_pinned c.table x true }

    fresh' : PageCache
    fresh' = record { lists = (asked (by_keys names c) (f x)).1; table = with_pinned (by_keys names c).table (f x) true }

    step : by_keys names fresh ≡ fresh'
    step = cache_is _ _ c.table.frames _ _
        (sym (request-by f key_count c.lists x (is_pinned c.table) (is_pinned (by_keys names c).table)
        (injective names h.apart) (same_busy names c h)))
        (held-by_keys names c x key true h e)

-- a hit loses no name
lost-hit : (s : FourLists) (x : ℕ) (answer : Answer) → is_some (place s x) ≡ true → lost_name s x answer ≡ None
lost-hit s x answer h = rw (ap not h) refl

pub place-hit : (s : FourLists) (x y : ℕ) (busy : ℕ → Bool) → IsWithinBounds s → is_cached s x ≡ true
    → is_some (place (request s x busy).1 y) ≡ is_some (place s y)
place-hit s x y busy b here =
    let hit : (request s x busy).0 ≡ Hit = (RequestAnswers-request s x busy b).hit.1 here in
    let named : is_some (place s x) ≡ true = cached-place s x here in
    let law : (is_named (request s x busy).1 y ≡ true → (y ≡ x) ⊎ ((is_named s y ≡ true) × (lost_name s x (request s x busy).0 ≢ Some y)))
    × ((y ≡ x) ⊎ ((is_named s y ≡ true) × (lost_name s x (request s x busy).0 ≢ Some y)) → is_named (request s x busy).1 y ≡ true) =
    instead-request s x busy b (λ e. cc) y in
    let lost : lost_name s x (request s x busy).0 ≡ None = lost-hit s x (request s x busy).0 named in
    same_bool _ _
    (λ k. elim (law.0 k) [
      | inl e ↦ ap (λ (i : ℕ). is_some (place s i)) e ∙ named
      | inr w ↦ w.0
    ])
    (λ k. law.1 (inr (k, λ e. cc)))

-- who stands is the same after a hit
pub stands-pin : (c : PageCache) (x y : ℕ) → IsSound c → is_some (page_of c.table x) ≡ true
    → stands (after_pin c x) y ≡ stands c y
stands-pin c x y s some = go (is_pinned c.table x) refl
  where
    go : (b : Bool) → is_pinned c.table x ≡ b
        → stands (cond b c (record { lists = (asked c x).1; table = with_pinned c.table x true })) y ≡ stands c y
    go true e = refl
    go false e = stands_same c (record { lists = (asked c x).1; table = with_pinned c.table x true }) y
        (place-hit c.lists x y (is_pinned c.table) s.bounds (s.together.unpinned_is_cached x some e))
        (some_pinned c.table x true y)

length-pin : (c : PageCache) (x : ℕ) → length (after_pin c x).table.pages ≡ length c.table.pages
length-pin c x = go (is_pinned c.table x)
  where
    go : (b : Bool) → length (cond b c (record { lists = (asked c x).1; table = with_pinned c.table x true })).table.pages
        ≡ length c.table.pages
    go true = refl
    go false = length-set c.table.pages x (pinned_to true (page_of c.table x))

pub keyed-pin : (names : List (Option ℕ)) (c d : PageCache) (x : ℕ) → IsKeyed names c → IsSound d
    → is_some (page_of c.table x) ≡ true → d ≡ after_pin c x → IsKeyed names d
keyed-pin names c d x k s some e = record {
  sound = s;
  one_to_one = k.one_to_one;
  below = k.below;
  room = omega (arith, k.room, size);
  fits = omega (arith, k.fits, size);
  spare = omega (arith, k.spare, size);
  named = λ y. k.named y ∙ sym (ap (λ (w : PageCache). stands w y) e ∙ stands-pin c x y k.sound some);
}
  where
    size : length d.table.pages ≡ length c.table.pages
    size = ap (λ (w : PageCache). length w.table.pages) e ∙ length-pin c x

-- ---- one name's page is another, or gone

-- what a call that changes the page and the place of one name owes
pub record OnlyOne (c d : PageCache) (x : ℕ) : Type 0 where
  pub others : (y : ℕ) → y ≢ x → stands d y ≡ stands c y
  pub size : length d.table.pages ≡ length c.table.pages

-- What holds after such a call once the name has lost its key, where it stands nowhere.
pub record IsAfter (names new : List (Option ℕ)) (d : PageCache) : Type 0 where
  pub keyed : IsKeyed new d
  pub same : by_keys new d ≡ by_keys names d
  pub taken : IsTaken names new d

pub named-one : (names : List (Option ℕ)) (c d : PageCache) (x key : ℕ) → IsKeyed names c → key_of names x ≡ Some key
    → OnlyOne c d x → IsNamed names d
named-one names c d x key k e o = record {
  apart = (named_of names c k).apart;
  room = omega (arith, k.room, o.size);
  named = λ y h. elim (cases_eq y x) [
    | inl same ↦ ap (λ (i : ℕ). is_some (key_of names i)) same ∙ ap is_some e
    | inr ne ↦ k.named y ∙ sym (o.others y ne) ∙ h
  ];
}

pub after-one : (names : List (Option ℕ)) (c d : PageCache) (x key : ℕ) → IsKeyed names c → IsSound d
    → key_of names x ≡ Some key → OnlyOne c d x → IsAfter names (unused_taken names d (Some x)) d
after-one names c d x key k s e o = record {
  keyed = keyed-end (unused_taken names d (Some x)) d (taken-named names (unused_taken names d (Some x)) d h t) s
      (omega (arith, k.fits, o.size)) (omega (arith, k.spare, o.size, t.size)) gone;
  same = taken-by_keys names (unused_taken names d (Some x)) d h t;
  taken = t;
}
  where
    h : IsNamed names d
    h = named-one names c d x key k e o

    t : IsTaken names (unused_taken names d (Some x)) d
    t = taken-unused names d (Some x)

    gone : (y : ℕ) → stands d y ≡ false → key_of (unused_taken names d (Some x)) y ≡ None
    gone y n = elim (cases_eq y x) [
      | inl same ↦ ap (key_of (unused_taken names d (Some x))) same ∙ gone-unused names d x (ap (stands d) (sym same) ∙ n)
      | inr ne ↦ none_fewer y (none_is (key_of names y) (k.named y ∙ sym (o.others y ne) ∙ n))
    ]
      where
        none_fewer : (y : ℕ) → key_of names y ≡ None → key_of (unused_taken names d (Some x)) y ≡ None
        none_fewer y f = go (key_of (unused_taken names d (Some x)) y) refl
          where
            go : (o : Option ℕ) → key_of (unused_taken names d (Some x)) y ≡ o → key_of (unused_taken names d (Some x)) y ≡ None
            go None g = g
            go (Some j) g = let n : None ≡ Some j = sym f ∙ t.fewer y j g in absurd (cc)

pub contains-without : (xs : List ℕ) (x y : ℕ) → y ≢ x → contains (without xs x) y ≡ contains xs y
contains-without [] x y ne = refl
contains-without (z ∷ zs) x y ne = elim (cases_eq z x) [
  | inl e ↦ ap (λ (b : Bool). contains (cond (not b) (z ∷ without zs x) (without zs x)) y) (eq-eqb z x e)
      ∙ contains-without zs x y ne
      ∙ sym (ap (λ (b : Bool). b || contains zs y) (ne_eqb z y (λ s. ne (sym s ∙ e))))
  | inr n ↦ ap (λ (b : Bool). contains (cond (not b) (z ∷ without zs x) (without zs x)) y) (ne_eqb z x n)
      ∙ ap (λ (b : Bool). eqb z y || b) (contains-without zs x y ne)
]

pub place-forget : (s : FourLists) (x y : ℕ) → y ≢ x → place (forget s x) y ≡ place s y
place-forget s x y ne = rw (
  contains-without s.t1 x y ne,
  contains-without s.t2 x y ne,
  contains-without s.b1 x y ne,
  contains-without s.b2 x y ne,
) refl

pub one-dropped : (c : PageCache) (x : ℕ) → OnlyOne c (dropped c x) x
one-dropped c x = record {
  others = λ y ne. stands_same c (dropped c x) y (ap is_some (place-forget c.lists x y ne))
      (ap is_some (page_there c.table x y None ne));
  size = length-set c.table.pages x None;
}

pub one-page : (c : PageCache) (x : ℕ) (o : Option Resident) → OnlyOne c (record c { table = with_page c.table x o }) x
one-page c x o = record {
  others = λ y ne. stands_same c (record c { table = with_page c.table x o }) y refl (ap is_some (page_there c.table x y o ne));
  size = length-set c.table.pages x o;
}

pub one-cond : (c d e : PageCache) (x : ℕ) (b : Bool) → OnlyOne c d x → OnlyOne c e x → OnlyOne c (cond b d e) x
one-cond c d e x true h k = h
one-cond c d e x false h k = k

pub one-none : (c : PageCache) (x : ℕ) → OnlyOne c c x
one-none c x = record { others = λ y ne. refl; size = refl }

-- ---- a page is unpinned

kept-or-gone : (c : PageCache) (x : ℕ) (b : Bool)
    → (let s : PageCache = record c { table = cond b (with_pinned c.table x false) (with_page c.table x None) } in s)
    ≡ cond b (record c { table = with_pinned c.table x false }) (record c { table = with_page c.table x None })
kept-or-gone c x true = refl
kept-or-gone c x false = refl

pub one-unpin : (c : PageCache) (x : ℕ) (discard : Bool) → OnlyOne c (after_unpin c x discard) x
one-unpin c x discard = one-cond c c _ x (not (is_pinned c.table x)) (one-none c x)
    (one-cond c (dropped c x) _ x discard (one-dropped c x)
    (subst (λ (d : PageCache). OnlyOne c d x) (sym (kept-or-gone c x (is_cached c.lists x)))
    (one-cond c _ _ x (is_cached c.lists x) (one-page c x (pinned_to false (page_of c.table x))) (one-page c x None))))

pub unpin-by_keys : (names : List (Option ℕ)) (c : PageCache) (x key : ℕ) (discard : Bool) → IsNamed names c
    → key_of names x ≡ Some key → by_keys names (after_unpin c x discard) ≡ after_unpin (by_keys names c) (key_or_past names x) discard
unpin-by_keys names c x key discard h e =
    rw (same_busy names c h x, is_cached-by f key_count c.lists x (injective names h.apart))
    (go (is_pinned c.table x) discard (is_cached c.lists x))
  where
    f : ℕ → ℕ
    f = key_or_past names

    go : (p d q : Bool)
        → by_keys names (cond (not p) c (cond d (dropped c x) (record c {
          table = cond q (with_pinned c.table x false) (with_page c.table x None);
        })))
        ≡ cond (not p) (by_keys names c) (cond d (dropped (by_keys names c) (f x)) (record (by_keys names c) {
          table = cond q (with_pinned (by_keys names c).table (f x) false) (with_page (by_keys names c).table (f x) None);
        }))
    go false d q = refl
    go true true q = dropped-by_keys names c x h
    go true false true = cache_is _ _ c.table.frames _ _ refl (held-by_keys names c x key false h e)
    go true false false = cache_is _ _ c.table.frames _ _ refl (page-gone names c.table.pages x h.apart h.room)
