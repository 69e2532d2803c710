-- What a key without a name is to the cache of keys, and what the clauses of calls follow from.
use Rattle.std.proofs.Common.{◌≡◌, ◌≢◌, ℕ, ◌+◌, ◌-◌, ◌<◌, ◌≤◌, max, Bool, true, false, not, cond, eqb, leb, List, length}
use Rattle.std.proofs.Common.{get_or, set, refl, ap, sym, subst, ◌∙◌, arith, inl, inr, eq-eqb, replicate, ◌++◌, length-append}
use Rattle.std.specs.Prelude.{Option, None, Some, IfSome, is_some, is_none, nat_lt, ◌||◌, Result, Ok, Err, IsOk, IsErr, ◌*◌, ◌/◌}
use Rattle.std.specs.Option.{option_map}
use Rattle.std.proofs.lemmas.Bool.{cases_lt, ne_eqb, ltb-false}
use Rattle.std.proofs.lemmas.List.{set-get_or, get_or_past, get_or_append_left, get_or-append_right, get_or-replicate, length-replicate}
use Rattle.std.proofs.lemmas.List.Sums.{sum_by-append}
use Rattle.std.proofs.lemmas.List.Folds.{sum_by-replicate}
use Rattle.pp_arc.specs.FourLists.{FourLists, place, is_cached}
use Rattle.pp_cache.specs.declared.resident.Resident.{Resident}
use Rattle.pp_cache.specs.Frames.{FrameMap, page_of, frame_of, is_pinned, with_page, with_pinned, with_free_frame}
use Rattle.pp_cache.specs.Cache.{PageCache, IsSound, dropped, after_unpin, after_rekey, moved_page, SamePages, with_key, grown, keys_for}
use Rattle.pp_cache.specs.Cache.{after_pin, may_bring_in, PinnedStay}
use Rattle.pp_cache.specs.declared.create.Create.{Create}
use Rattle.pp_cache.specs.declared.create.Create.TheVariants.{Never, IfRoom, Always}
use Rattle.pp_cache.proofs.CacheLemmas.{page_there}
use Rattle.pp_names.specs.Names.{key_of, IsUnnamed, named_count}
use Rattle.pp_keyed.specs.Renamed.{lists_by}
use Rattle.pp_keyed.specs.Keyed.{key_count, key_count-is, key_or_past, placed, by_keys, stands, keyed, IsKeyed, IsSpare, with_frame}
use Rattle.pp_keyed.proofs.PlacedLemmas.{IsApart, placed-same}
use Rattle.pp_keyed.proofs.ByKeysLemmas.{IsNamed, named_of, key-named, page-key, page-unnamed, bool_cases, Placed, placed-of, some_is}
use Rattle.pp_keyed.proofs.ByKeysLemmas.{stands-place, resident-by_keys, pinned-by_keys, lists_agree, key_agree, sound-by_keys, stay-by_keys}
use Rattle.pp_keyed.proofs.ByKeysLemmas.{absent-unnamed}
use Rattle.pp_keyed.proofs.TakenLemmas.{one_if}
use Rattle.pp_keyed.proofs.CallLemmas.{pin-by_keys, keyed-pin}
use Rattle.pp_keyed.proofs.RekeyLemmas.{NewKey, forget-absent}
use Rattle.pp_keyed.proofs.BringLemmas.{cache_of, map_of}

-- ---- frames by key

pub frame-none : (names : List (Option ℕ)) (c : PageCache) (key : ℕ) → IsUnnamed names key → frame_of (by_keys names c).table key ≡ None
frame-none names c key u = ap (option_map (λ (page : Resident). page.frame)) (page-unnamed names c key u)

pub frame-some : (names : List (Option ℕ)) (c : PageCache) (x key : ℕ) → IsNamed names c → key_of names x ≡ Some key
    → frame_of (by_keys names c).table key ≡ frame_of c.table x
frame-some names c x key h e = ap (option_map (λ (page : Resident). page.frame)) (page-key names c x key h e)

-- ---- a key without a name

pub place-none : (names : List (Option ℕ)) (c : PageCache) (key : ℕ) → IsNamed names c → IsUnnamed names key
    → is_some (place (by_keys names c).lists key) ≡ false
place-none names c key h u = elim (bool_cases (is_some (place (by_keys names c).lists key))) [
  | inr no' ↦ no'
  | inl some ↦
      let w : Placed names c.lists key = placed-of names c.lists key_count key some in
      let k : (k : ℕ) × (key_of names w.name ≡ Some k) =
      some_is (key_of names w.name) (h.named w.name (stands-place c w.name w.here)) in
      absurd (u w.name (k.1 ∙ ap Some (sym (key-named names w.name k.0 k.1) ∙ w.is)))
]

pub dropped-none : (names : List (Option ℕ)) (c : PageCache) (key : ℕ) → IsNamed names c → IsUnnamed names key
    → by_keys names c ≡ dropped (by_keys names c) key
dropped-none names c key h u = cache_of _ _ _ _
    (sym (forget-absent (by_keys names c).lists key (place-none names c key h u)))
    (map_of c.table.frames _ _ (same (by_keys names c).table.pages (page-unnamed names c key u)))
  where
    same : (pages : List (Option Resident)) → get_or pages key None ≡ None → pages ≡ set pages key None
    same pages e = sym (ap (set pages key) (sym e) ∙ set-get_or pages key None)

pub unpin-none : (s : PageCache) (key : ℕ) (discard : Bool) → page_of s.table key ≡ None → s ≡ after_unpin s key discard
unpin-none s key discard e = rw e refl

-- ---- other pages

pub others-dropped : (s : PageCache) (key other : ℕ) → other ≢ key → page_of (dropped s key).table other ≡ page_of s.table other
others-dropped s key other ne = page_there s.table key other None ne

pub others-unpin : (s : PageCache) (key other : ℕ) (discard : Bool) → other ≢ key
    → page_of (after_unpin s key discard).table other ≡ page_of s.table other
others-unpin s key other discard ne = go (is_pinned s.table key) discard (is_cached s.lists key)
  where
    go : (p d q : Bool)
        → page_of (cond (not p) s (cond d (dropped s key) (record s {
          table = cond q (with_pinned s.table key false) (with_page s.table key None);
        }))).table other ≡ page_of s.table other
    go false d q = refl
    go true true q = page_there s.table key other None ne
    go true false true = page_there s.table key other _ ne
    go true false false = page_there s.table key other None ne

-- ---- another key

pub rekey-moved : (s : PageCache) (old new : ℕ) → old ≢ new → is_some (page_of s.table old) ≡ true
    → after_rekey s old new ≡ moved_page s old new
rekey-moved s old new ne some = rw (ne_eqb old new ne, some) refl

pub rekey-same : (s : PageCache) (old new : ℕ) → old ≡ new → after_rekey s old new ≡ s
rekey-same s old new e = rw (eq-eqb old new e) refl

pub rekey-absent : (s : PageCache) (old new : ℕ) → page_of s.table old ≡ None → after_rekey s old new ≡ s
rekey-absent s old new e = go (eqb old new)
  where
    go : (b : Bool) → cond b s (cond (is_some (page_of s.table old)) (moved_page s old new) s) ≡ s
    go true = refl
    go false = ap (λ (o : Option Resident). cond (is_some o) (moved_page s old new) s) e

-- ---- more names

pub key-more : (names : List (Option ℕ)) (n x : ℕ) → key_of (names ++ replicate n None) x ≡ key_of names x
key-more names n x = elim (cases_lt x (length names)) [
  | inl lt ↦ get_or_append_left names (replicate n None) None x lt
  | inr le ↦ get_or-append_right names (replicate n None) (length names) x None refl le ∙ nothing (x - length names)
      ∙ sym (get_or_past names x None le)
]
  where
    nothing : (i : ℕ) → get_or (replicate n (let none : Option ℕ = None in none)) i None ≡ None
    nothing i = elim (cases_lt i n) [
      | inl lt ↦ get_or-replicate n i None None lt
      | inr past ↦ get_or_past (replicate n (let none : Option ℕ = None in none)) i None
          (omega (arith, past, length-replicate n (let none : Option ℕ = None in none)))
    ]

pub used-more : (names : List (Option ℕ)) (n : ℕ) → named_count (names ++ replicate n None) ≡ named_count names
used-more names n = omega (
  arith,
  sum_by-append (λ (x : Option ℕ). one_if (is_some x)) names (replicate n None),
  sum_by-replicate (λ (x : Option ℕ). one_if (is_some x)) n None,
)

-- ---- room for a key in the cache of names

pub frames-key : (s : PageCache) (key : ℕ) → (with_key s key).table.frames ≡ s.table.frames
frames-key s key = go (nat_lt key (length s.table.pages))
  where
    go : (b : Bool) → (cond b s (grown s (keys_for (length s.table.pages) key))).table.frames ≡ s.table.frames
    go true = refl
    go false = refl

pub fits-key : (s : PageCache) (key : ℕ) → length s.table.pages ≤ 4294967292 → length (with_key s key).table.pages ≤ 4294967292
fits-key s key fits = go (nat_lt key (length s.table.pages))
  where
    go : (b : Bool) → length (cond b s (grown s (keys_for (length s.table.pages) key))).table.pages ≤ 4294967292
    go true = fits
    go false = omega (
      arith,
      fits,
      length-append s.table.pages (replicate (keys_for (length s.table.pages) key - length s.table.pages) None),
      length-replicate (keys_for (length s.table.pages) key - length s.table.pages) (let none : Option Resident = None in none),
    )

pub more-key : (s : PageCache) (key : ℕ) → length s.table.pages ≤ length (with_key s key).table.pages
more-key s key = go (nat_lt key (length s.table.pages))
  where
    go : (b : Bool) → length s.table.pages ≤ length (cond b s (grown s (keys_for (length s.table.pages) key))).table.pages
    go true = omega arith
    go false = omega (
      arith,
      length-append s.table.pages (replicate (keys_for (length s.table.pages) key - length s.table.pages) None),
    )

-- there is room for no more than twice as many, or for 16
spare-grown : (n keys key more : ℕ) → n ≤ keys → IsSpare n keys → key ≡ max n 15 → keys ≤ key
    → more ≡ keys + (keys_for keys key - keys) → IsSpare n more
spare-grown n keys key more room spare is low e = elim (cases_lt 0 keys) [
  | inl some ↦ let least : 16 ≤ keys = spare.1 some in omega (arith, room, spare, is, low, e, least)
  | inr none ↦ omega (arith, room, spare, is, low, e, none)
]

pub spare-key : (s : PageCache) (key n : ℕ) → n ≤ length s.table.pages → IsSpare n (length s.table.pages) → key ≡ max n 15
    → IsSpare n (length (with_key s key).table.pages)
spare-key s key n room spare is = go (nat_lt key (length s.table.pages)) refl
  where
    go : (b : Bool) → nat_lt key (length s.table.pages) ≡ b
        → IsSpare n (length (cond b s (grown s (keys_for (length s.table.pages) key))).table.pages)
    go true e = spare
    go false e = spare-grown n (length s.table.pages) key
        (length (grown s (keys_for (length s.table.pages) key)).table.pages) room spare is
        (ltb-false key (length s.table.pages) e) (omega (
          arith,
          length-append s.table.pages (replicate (keys_for (length s.table.pages) key - length s.table.pages) None),
          length-replicate (keys_for (length s.table.pages) key - length s.table.pages) (let none : Option Resident = None in none),
        ))

-- What holds where there is room for more names, whether there are more or not.
pub record IsRoomier (names new : List (Option ℕ)) (c d : PageCache) : Type 0 where
  pub keyed : IsKeyed new d
  pub same : by_keys new d ≡ by_keys names c
  pub used : named_count new ≡ named_count names
  pub more : length names ≤ length new
  pub bounded : length new ≤ max (2 * length names) 16

pub roomier : (names new : List (Option ℕ)) (c d : PageCache) → IsKeyed names c → IsSound d → SamePages c d
    → d.table.frames ≡ c.table.frames → length new ≤ length d.table.pages
    → length d.table.pages ≤ 4294967292 → IsSpare (length new) (length d.table.pages) → length names ≤ length new
    → length new ≤ max (2 * length names) 16 → ((x : ℕ) → key_of new x ≡ key_of names x) → named_count new ≡ named_count names
    → IsRoomier names new c d
roomier names new c d k s same frames room fits spare more bounded keys used = record {
  keyed = record {
    sound = s;
    one_to_one = a.one;
    below = a.low;
    room = room;
    fits = fits;
    spare = spare;
    named = λ x. ap is_some (keys x) ∙ k.named x ∙ sym (stood x);
  };
  same = cache_of _ _ _ _ lists (table c.table d.table frames (placed-same key_count new names d.table.pages c.table.pages a
      (named_of names c k).apart same.pages (λ x some. keys x)));
  used = used;
  more = more;
  bounded = bounded;
}
  where
    a : IsApart key_count new
    a = record {
      one = λ p q key e f. k.one_to_one p q key (sym (keys p) ∙ e) (sym (keys q) ∙ f);
      low = λ x key e. k.below x key (sym (keys x) ∙ e);
    }

    stood : (x : ℕ) → stands d x ≡ stands c x
    stood x = ap (λ (l : FourLists). is_some (place l x) || is_some (page_of d.table x)) same.lists
        ∙ ap (λ (o : Option Resident). is_some (place c.lists x) || is_some o) (same.pages x)

    lists : lists_by (key_or_past new) key_count d.lists ≡ lists_by (key_or_past names) key_count c.lists
    lists = ap (lists_by (key_or_past new) key_count) same.lists
        ∙ lists_agree (key_or_past new) (key_or_past names) key_count c.lists (λ x some. key_agree new names x (keys x))

    table : (m n : FrameMap) → n.frames ≡ m.frames → placed key_count new n.pages ≡ placed key_count names m.pages
        → (let w : FrameMap = record { frames = n.frames; pages = placed key_count new n.pages } in w)
        ≡ record { frames = m.frames; pages = placed key_count names m.pages }
    table m n e f = rw (e, f) refl

-- ---- what holds of the cache of keys

pub keyed-sound : (names : List (Option ℕ)) (c : PageCache) → IsKeyed names c → IsSound (by_keys names c)
keyed-sound names c k = sound-by_keys names c (named_of names c k) k.sound

pub may-by_keys : (names : List (Option ℕ)) (c : PageCache) (create : Create) → IsNamed names c
    → may_bring_in (by_keys names c) create ≡ may_bring_in c create
may-by_keys names c Never h = refl
may-by_keys names c IfRoom h = ap (λ (n : ℕ). not (leb (c.lists.c * 9 / 10) n)) (pinned-by_keys names c h)
may-by_keys names c Always h = refl

-- ---- a page is pinned

some_frame : (o : Option Resident) (frame : ℕ) → Some frame ≡ option_map (λ (page : Resident). page.frame) o → is_some o ≡ true
some_frame None frame e = absurd (cc)
some_frame (Some r) frame e = refl

-- What holds once the page of a name was pinned, where it stands in a frame.
pub record IsPinned (names : List (Option ℕ)) (c d : PageCache) (key : ℕ) (r : Option ℕ) : Type 0 where
  pub holds : IsKeyed names d
  pub exact : keyed names d ≡ cond (is_some r) (record (keyed names c) { cache = after_pin (by_keys names c) key }) (keyed names c)
  pub stay : PinnedStay (by_keys names c).table (by_keys names d).table

pub pinned-key : (names : List (Option ℕ)) (c d : PageCache) (x key : ℕ) (r : Option ℕ) → IsKeyed names c → IsSound d
    → key_of names x ≡ Some key → r ≡ frame_of c.table x → d ≡ cond (is_some r) (after_pin c x) c → PinnedStay c.table d.table
    → IsPinned names c d key r
pinned-key names c d x key None k s e f is stay = record {
  holds = subst (IsKeyed names) (sym is) k;
  exact = ap (keyed names) is;
  stay = stay-by_keys names names c d (named_of names c k) (subst (IsNamed names) (sym is) (named_of names c k)) (λ y held. refl) stay;
}
pinned-key names c d x key (Some frame) k s e f is stay = record {
  holds = k';
  exact = ap (λ (w : PageCache). record (keyed names c) { cache = w })
      (ap (by_keys names) is ∙ pin-by_keys names c x key h e ∙ ap (after_pin (by_keys names c)) (key-named names x key e));
  stay = stay-by_keys names names c d h (named_of names d k') (λ y held. refl) stay;
}
  where
    h : IsNamed names c
    h = named_of names c k

    k' : IsKeyed names d
    k' = keyed-pin names c d x k s (some_frame (page_of c.table x) frame f) is

-- ---- a frame more

pub frame-by_keys : (names : List (Option ℕ)) (c : PageCache) → IsNamed names c
    → by_keys names (record c { table = with_free_frame c.table }) ≡ with_frame (by_keys names c)
frame-by_keys names c h =
    ap (λ (n : ℕ). record (by_keys names c) {
      table = record (by_keys names c).table { frames = cond (eqb n c.table.frames) (c.table.frames + 1) c.table.frames };
    })
    (sym (resident-by_keys names c h))

keyed-frame : (names : List (Option ℕ)) (c d : PageCache) → IsKeyed names c → IsSound d
    → d ≡ record c { table = with_free_frame c.table } → IsKeyed names d
keyed-frame names c d k s e = record {
  sound = s;
  one_to_one = k.one_to_one;
  below = k.below;
  room = omega (arith, k.room, size);
  fits = omega (arith, k.fits, size);
  spare = omega (arith, k.spare, size);
  named = λ x. k.named x ∙ sym (ap (λ (w : PageCache). stands w x) e);
}
  where
    size : length d.table.pages ≡ length c.table.pages
    size = ap (λ (w : PageCache). length w.table.pages) e

pub reserved-keyed : {T E : Type 0} (names : List (Option ℕ)) (c d : PageCache) (r : Result T E) → IsKeyed names c → IsSound d
    → (IsOk r → d ≡ record c { table = with_free_frame c.table }) → (IsErr r → d ≡ c) → IsKeyed names d
reserved-keyed names c d (Ok x) k s ok err = keyed-frame names c d k s (ok refl)
reserved-keyed names c d (Err x) k s ok err = subst (IsKeyed names) (sym (err refl)) k

-- ---- another key, and a new one

-- a key below 4294967292 is one
pub low-key : (key : ℕ) → key < 4294967292 → key < key_count
low-key key lt = omega (arith, lt, key_count-is)

pub new-key : (names : List (Option ℕ)) (c s : PageCache) (x old new : ℕ) → IsKeyed names c → by_keys names c ≡ s
    → key_of names x ≡ Some old → new < 4294967292 → page_of s.table new ≡ None → is_some (place s.lists new) ≡ false
    → NewKey names c x old new
new-key names c s x old new k e named low absent none = record {
  keyed = k;
  named = named;
  unnamed = absent-unnamed names c new k (ap (λ (w : PageCache). page_of w.table new) e ∙ absent) nowhere;
  nowhere = nowhere;
  low = low-key new low;
}
  where
    nowhere : is_some (place (by_keys names c).lists new) ≡ false
    nowhere = ap (λ (w : PageCache). is_some (place w.lists new)) e ∙ none

-- a page that stands in a frame has a key with a name
pub resident-unnamed : (names : List (Option ℕ)) (c s : PageCache) (key : ℕ) → by_keys names c ≡ s
    → is_some (page_of s.table key) ≡ true → IsUnnamed names key → ⊥
resident-unnamed names c s key e some u =
    let n : false ≡ true = sym (ap is_some (page-unnamed names c key u)) ∙ ap (λ (w : PageCache). is_some (page_of w.table key)) e
    ∙ some in cc

-- ---- room for one more name

pub grown-names : {T E : Type 0} (names new : List (Option ℕ)) (c d : PageCache) (key : ℕ) (r : Result T E) → IsKeyed names c
    → IsSound d → d ≡ with_key c key → SamePages c d → key ≡ max (length names) 15
    → (IsOk r → new ≡ names ++ replicate (length d.table.pages - length names) None) → (IsErr r → new ≡ names)
    → IsRoomier names new c d
grown-names names new c d key r k s e same is ok err = go r ok err
  where
    frames : d.table.frames ≡ c.table.frames
    frames = ap (λ (w : PageCache). w.table.frames) e ∙ frames-key c key

    more : length c.table.pages ≤ length d.table.pages
    more = omega (arith, ap (λ (w : PageCache). length w.table.pages) e, more-key c key)

    fits : length d.table.pages ≤ 4294967292
    fits = omega (arith, ap (λ (w : PageCache). length w.table.pages) e, fits-key c key k.fits)

    spare : IsSpare (length names) (length d.table.pages)
    spare = rw e (spare-key c key (length names) k.room k.spare is)

    n : ℕ
    n = length d.table.pages - length names

    size : length (names ++ replicate n None) ≡ length names + n
    size = length-append names (replicate n None) ∙ ap (λ (i : ℕ). length names + i) (length-replicate n None)

    longer : IsRoomier names (names ++ replicate n None) c d
    longer = roomier names (names ++ replicate n None) c d k s same frames (omega (arith, size, k.room, more)) fits
        (omega (arith, size, k.room, more), spare.1) (omega (arith, size)) (omega (arith, size, k.room, more, spare)) (key-more names n) (used-more names n)

    go : {T E : Type 0} (r : Result T E) → (IsOk r → new ≡ names ++ replicate n None) → (IsErr r → new ≡ names)
        → IsRoomier names new c d
    go (Ok x) ok err = subst (λ (w : List (Option ℕ)). IsRoomier names w c d) (sym (ok refl)) longer
    go (Err x) ok err = subst (λ (w : List (Option ℕ)). IsRoomier names w c d) (sym (err refl))
        (roomier names names c d k s same frames (omega (arith, k.room, more)) fits spare (omega arith) (omega arith) (λ x. refl) refl)

-- a page stands in a frame where its frame is known
pub some_page : (o : Option Resident) (r : Option ℕ) → r ≡ option_map (λ (page : Resident). page.frame) o → is_none r ≡ false
    → is_some o ≡ true
some_page (Some p) r e not_none = refl
some_page None r e not_none = let n : true ≡ false = sym (ap is_none e) ∙ not_none in absurd (cc)

-- ---- the lowest key

pub framed : (o : Option Resident) → is_some (option_map (λ (page : Resident). page.frame) o) ≡ is_some o
framed None = refl
framed (Some r) = refl

pub if_some : (P : ℕ → Type 0) (o : Option ℕ) → ((key : ℕ) → o ≡ Some key → P key) → IfSome o P
if_some P None h = tt
if_some P (Some key) h = h key refl
