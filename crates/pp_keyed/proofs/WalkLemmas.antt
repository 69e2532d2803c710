-- Walks over all names: one that drops the keys from a limit on, and one that looks for the lowest key.
use Rattle.std.proofs.Common.{◌≡◌, ◌⊎◌, ℕ, ◌+◌, ◌<◌, ◌≤◌, Bool, true, false, not, cond, eqb, ltb, leb, List, [], ◌∷◌}
use Rattle.std.proofs.Common.{length, refl, ap, sym, subst, ◌∙◌, arith, inl, inr}
use Rattle.std.specs.Prelude.{Option, None, Some, is_some, ◌||◌, ◌&&◌, IfSome}
use Rattle.std.specs.List.{filter}
use Rattle.std.proofs.lemmas.Bool.{cases_lt, cases_eq, eq-eqb, ne_eqb, lt-ltb, le-ltb, le-leb, lt-leb}
use Rattle.pp_arc.specs.Pages.{contains}
use Rattle.pp_arc.specs.FourLists.{FourLists, place}
use Rattle.pp_arc.proofs.VictimLemmas.{or_right}
use Rattle.pp_cache.specs.Frames.{page_of, with_page}
use Rattle.pp_cache.specs.Cache.{PageCache, IsSound, KeepsOnly, lists_where, dropped}
use Rattle.pp_cache.proofs.CacheLemmas.{contains-first, keeps_all, keeps_fewer, page_gone}
use Rattle.pp_names.specs.Names.{key_of, named_count}
use Rattle.pp_names.proofs.TableLemmas.{low_if_some}
use Rattle.pp_keyed.specs.Keyed.{key_count, by_keys, stands, IsKeyed, unused_taken, is_from, lower_key}
use Rattle.pp_keyed.proofs.ByKeysLemmas.{IsNamed, named_of, key-named, page-key, some-from, some_is, bool_cases}
use Rattle.pp_keyed.proofs.ByKeysLemmas.{stands-place, stands-page, Placed, placed-of, in-t1, in-t2, in-b1, in-b2}
use Rattle.pp_keyed.proofs.TakenLemmas.{count-taken, gone-unused}
use Rattle.pp_keyed.proofs.CallLemmas.{OnlyOne, IsAfter, after-one, one-dropped, dropped-by_keys, same_bool}
use Rattle.pp_keyed.proofs.RekeyLemmas.{gone-forget}
use Rattle.pp_keyed.proofs.ManyLemmas.{no_page}

-- ---- keys from a limit on are dropped

-- How far the walk has come: the cache of keys at the start lost some pages whose keys aren't below the limit, and
-- the names that were passed have keys below it, if any.
pub record IsTruncated (old : PageCache) (room used : ℕ) (limit i : ℕ) (names : List (Option ℕ)) (c : PageCache) : Type 0 where
  pub keyed : IsKeyed names c
  pub size : length names ≡ room
  pub fewer : named_count names ≤ used
  pub test : ℕ → Bool
  pub low : (key : ℕ) → ltb key limit ≡ true → test key ≡ true
  pub keeps : KeepsOnly test old (by_keys names c)
  pub passed : (name key : ℕ) → name < i → key_of names name ≡ Some key → ltb key limit ≡ true

pub truncated-start : (names : List (Option ℕ)) (c : PageCache) (limit : ℕ) → IsKeyed names c
    → IsTruncated (by_keys names c) (length names) (named_count names) limit 0 names c
truncated-start names c limit k = record {
  keyed = k;
  size = refl;
  fewer = omega arith;
  test = λ key. true;
  low = λ key h. refl;
  keeps = keeps_all (λ key. true) (by_keys names c) (λ key. refl);
  passed = λ name key lt e. absurd (omega arith);
}

-- a name whose key isn't from the limit on is passed
pub truncated-passed : (old : PageCache) (room used limit i : ℕ) (names : List (Option ℕ)) (c : PageCache)
    → IsTruncated old room used limit i names c → is_from limit (key_of names i) ≡ false
    → IsTruncated old room used limit (i + 1) names c
truncated-passed old room used limit i names c t not_from = record {
  keyed = t.keyed;
  size = t.size;
  fewer = t.fewer;
  test = t.test;
  low = t.low;
  keeps = t.keeps;
  passed = λ name key lt e. elim (cases_eq name i) [
    | inl same ↦ below key (ap (is_from limit) (sym e ∙ ap (key_of names) same) ∙ not_from)
    | inr ne ↦ t.passed name key (omega (arith, lt, ne)) e
  ];
}
  where
    below : (key : ℕ) → leb limit key ≡ false → ltb key limit ≡ true
    below key h = elim (cases_lt key limit) [
      | inl lt ↦ lt-ltb key limit lt
      | inr le ↦ let n : true ≡ false = sym (le-leb limit key le) ∙ h in absurd (cc)
    ]

stands-dropped : (c : PageCache) (x : ℕ) → stands (dropped c x) x ≡ false
stands-dropped c x = ap (λ (b : Bool). b || is_some (page_of (with_page c.table x None) x)) (gone-forget c.lists x)
    ∙ ap is_some (page_gone c.table x)

-- another name's page and key are dropped
pub truncated-dropped : (old : PageCache) (room used limit i : ℕ) (names : List (Option ℕ)) (c d : PageCache)
    → IsTruncated old room used limit i names c → is_from limit (key_of names i) ≡ true → d ≡ dropped c i → IsSound d
    → IsTruncated old room used limit (i + 1) (unused_taken names d (Some i)) d
truncated-dropped old room used limit i names c d t from e s = go (key_of names i) refl
  where
    h : IsNamed names c
    h = named_of names c t.keyed

    go : (o : Option ℕ) → key_of names i ≡ o → IsTruncated old room used limit (i + 1) (unused_taken names d (Some i)) d
    go None f = let n : false ≡ true = sym (ap (is_from limit) f) ∙ from in absurd (cc)
    go (Some k) f = record {
      keyed = a.keyed;
      size = a.taken.size ∙ t.size;
      fewer = omega (arith, count-taken names (unused_taken names d (Some i)) d a.taken, t.fewer);
      test = λ key. t.test key && not (eqb key k);
      low = λ key lt. ap (λ (b : Bool). b && not (eqb key k)) (t.low key lt)
          ∙ ap not (ne_eqb key k (λ same. let n : true ≡ false = sym lt ∙ ap (λ (x : ℕ). ltb x limit) same ∙ above in cc));
      keeps = keeps_fewer t.test (λ key. t.test key && not (eqb key k)) old (by_keys names c)
          (by_keys (unused_taken names d (Some i)) d) k t.keeps
          (a.same ∙ ap (by_keys names) e ∙ dropped-by_keys names c i h ∙ ap (dropped (by_keys names c)) (key-named names i k f))
          (λ key. refl);
      passed = λ name key lt g. elim (cases_eq name i) [
        | inl same ↦ let n : None ≡ Some key = sym gone ∙ ap (key_of (unused_taken names d (Some i))) (sym same) ∙ g in absurd (cc)
        | inr ne ↦ t.passed name key (omega (arith, lt, ne)) (a.taken.fewer name key g)
      ];
    }
      where
        a : IsAfter names (unused_taken names d (Some i)) d
        a = after-one names c d i k t.keyed s f (subst (λ (w : PageCache). OnlyOne c w i) (sym e) (one-dropped c i))

        above : ltb k limit ≡ false
        above = elim (cases_lt k limit) [
          | inl lt ↦ let n : false ≡ true = sym (lt-leb limit k lt) ∙ ap (is_from limit) (sym f) ∙ from in absurd (cc)
          | inr le ↦ le-ltb k limit le
        ]

        gone : key_of (unused_taken names d (Some i)) i ≡ None
        gone = gone-unused names d i (ap (λ (w : PageCache). stands w i) e ∙ stands-dropped c i)

contains-pass : (test : ℕ → Bool) (xs : List ℕ) (x : ℕ) → test x ≡ true → contains xs x ≡ true
    → contains (filter test xs) x ≡ true
contains-pass test [] x t h = h
contains-pass test (y ∷ ys) x t h = elim (cases_eq y x) [
  | inl e ↦ ap (λ (b : Bool). contains (cond b (y ∷ filter test ys) (filter test ys)) x) (ap test e ∙ t)
      ∙ ap (λ (b : Bool). b || contains (filter test ys) x) (eq-eqb y x e)
  | inr ne ↦ more (test y) (contains-pass test ys x t (sym (ap (λ (b : Bool). b || contains ys x) (ne_eqb y x ne)) ∙ h))
]
  where
    more : (b : Bool) → contains (filter test ys) x ≡ true
        → contains (cond b (y ∷ filter test ys) (filter test ys)) x ≡ true
    more true k = or_right (eqb y x) _ k
    more false k = k

filter_same : (p q : ℕ → Bool) (xs : List ℕ) → ((y : ℕ) → contains xs y ≡ true → p y ≡ q y) → filter p xs ≡ filter q xs
filter_same p q [] same = refl
filter_same p q (x ∷ xs) same =
    ap (λ (b : Bool). cond b (x ∷ filter p xs) (filter p xs)) (same x (contains-first x xs))
    ∙ ap (λ (ys : List ℕ). cond (q x) (x ∷ ys) ys)
    (filter_same p q xs (λ y h. same y (or_right (eqb x y) (contains xs y) h)))

-- once all names were passed, the pages and names below the limit are left
pub truncated-end : (old : PageCache) (room used limit i : ℕ) (names : List (Option ℕ)) (c : PageCache)
    → IsTruncated old room used limit i names c → length names ≤ i → KeepsOnly (λ key. ltb key limit) old (by_keys names c)
truncated-end old room used limit i names c t all = record {
  lists = t.keeps.lists ∙ rw (
    filter_same t.test (λ key. ltb key limit) old.lists.t1 (λ y h. agree y (λ k. in-t1 (lists_where t.test old.lists) y
        (contains-pass t.test old.lists.t1 y k h))),
    filter_same t.test (λ key. ltb key limit) old.lists.t2 (λ y h. agree y (λ k. in-t2 (lists_where t.test old.lists) y
        (contains-pass t.test old.lists.t2 y k h))),
    filter_same t.test (λ key. ltb key limit) old.lists.b1 (λ y h. agree y (λ k. in-b1 (lists_where t.test old.lists) y
        (contains-pass t.test old.lists.b1 y k h))),
    filter_same t.test (λ key. ltb key limit) old.lists.b2 (λ y h. agree y (λ k. in-b2 (lists_where t.test old.lists) y
        (contains-pass t.test old.lists.b2 y k h))),
  ) refl;
  pages = λ key. elim (bool_cases (ltb key limit)) [
    | inl lt ↦ t.keeps.pages key ∙ ap (λ (b : Bool). cond b (page_of old.table key) None) (t.low key lt ∙ sym lt)
    | inr ge ↦ gone key ge ∙ sym (ap (λ (b : Bool). cond b (page_of old.table key) None) ge)
  ];
  frames = t.keeps.frames;
}
  where
    named_low : (name key : ℕ) → key_of names name ≡ Some key → ltb key limit ≡ true
    named_low name key e =
        let lt : name < length names = low_if_some names name (ap is_some e) in
        t.passed name key (omega (arith, lt, all)) e

    placed_low : (y : ℕ) → is_some (place (by_keys names c).lists y) ≡ true → ltb y limit ≡ true
    placed_low y h =
        let w : Placed names c.lists y = placed-of names c.lists key_count y h in
        let k : (k : ℕ) × (key_of names w.name ≡ Some k) =
        some_is (key_of names w.name) (t.keyed.named w.name ∙ stands-place c w.name w.here) in
        ap (λ (x : ℕ). ltb x limit) (sym w.is ∙ key-named names w.name k.0 k.1) ∙ named_low w.name k.0 k.1

    agree : (y : ℕ) → (t.test y ≡ true → is_some (place (lists_where t.test old.lists) y) ≡ true) → t.test y ≡ ltb y limit
    agree y here = same_bool (t.test y) (ltb y limit)
        (λ h. placed_low y (ap (λ (l : FourLists). is_some (place l y)) t.keeps.lists ∙ here h)) (t.low y)

    gone : (key : ℕ) → ltb key limit ≡ false → page_of (by_keys names c).table key ≡ None
    gone key ge = elim (bool_cases (is_some (page_of (by_keys names c).table key))) [
      | inr none ↦ no_page (page_of (by_keys names c).table key) none
      | inl some ↦ let w : (name : ℕ) × (key_of names name ≡ Some key) = some-from names c key some in
          let n : true ≡ false = sym (named_low w.0 key w.1) ∙ ge in absurd (cc)
    ]

-- ---- the lowest key

-- What was found among the names that were passed.
pub record IsLowest (names : List (Option ℕ)) (c : PageCache) (from i : ℕ) (first : Option ℕ) : Type 0 where
  pub found : (key : ℕ) → first ≡ Some key → (from ≤ key) × (is_some (page_of (by_keys names c).table key) ≡ true)
  pub least : (name key : ℕ) → name < i → key_of names name ≡ Some key → is_some (page_of c.table name) ≡ true → from ≤ key
      → (l : ℕ) × (first ≡ Some l) × (l ≤ key)

pub lowest-start : (names : List (Option ℕ)) (c : PageCache) (from : ℕ) → IsLowest names c from 0 None
lowest-start names c from = record {
  found = λ key e. absurd (cc);
  least = λ name key lt e some le. absurd (omega arith);
}

-- a name whose page stands in no frame is passed
pub lowest-passed : (names : List (Option ℕ)) (c : PageCache) (from i : ℕ) (first : Option ℕ) → IsLowest names c from i first
    → is_some (page_of c.table i) ≡ false → IsLowest names c from (i + 1) first
lowest-passed names c from i first w none = record {
  found = w.found;
  least = λ name key lt e some le. elim (cases_eq name i) [
    | inl same ↦ let n : false ≡ true = sym none ∙ ap (λ (x : ℕ). is_some (page_of c.table x)) (sym same) ∙ some in absurd (cc)
    | inr ne ↦ w.least name key (omega (arith, lt, ne)) e some le
  ];
}

-- what the lower of two keys is
record IsLower (first : Option ℕ) (from k : ℕ) (lower : Option ℕ) : Type 0 where
  pub either : (key : ℕ) → lower ≡ Some key → (first ≡ Some key) ⊎ ((key ≡ k) × (from ≤ k))
  pub old : (l : ℕ) → first ≡ Some l → (m : ℕ) × (lower ≡ Some m) × (m ≤ l)
  pub new : from ≤ k → (m : ℕ) × (lower ≡ Some m) × (m ≤ k)

lower_is : (first : Option ℕ) (from k : ℕ) → IsLower first from k (lower_key first from (Some k))
lower_is None from k = elim (cases_lt k from) [
  | inl lt ↦ rw (lt-leb from k lt) (record {
    either = λ key e. absurd (cc);
    old = λ l e. absurd (cc);
    new = λ le. absurd (omega (arith, lt, le));
  })
  | inr le ↦ rw (le-leb from k le) (record {
    either = λ key e. inr (let s : k ≡ key = cc in sym s, le);
    old = λ l e. absurd (cc);
    new = λ le'. (k, refl, omega arith);
  })
]
lower_is (Some l) from k = elim (cases_lt k from) [
  | inl lt ↦ rw (lt-leb from k lt) (record {
    either = λ key e. inl e;
    old = λ m e. (l, refl, let s : l ≡ m = cc in omega (arith, s));
    new = λ le. absurd (omega (arith, lt, le));
  })
  | inr le ↦ elim (cases_lt k l) [
    | inl less ↦ rw (le-leb from k le, lt-ltb k l less) (record {
      either = λ key e. inr (let s : k ≡ key = cc in sym s, le);
      old = λ m e. (k, refl, let s : l ≡ m = cc in omega (arith, s, less));
      new = λ le'. (k, refl, omega arith);
    })
    | inr more ↦ rw (le-leb from k le, le-ltb k l more) (record {
      either = λ key e. inl e;
      old = λ m e. (l, refl, let s : l ≡ m = cc in omega (arith, s));
      new = λ le'. (l, refl, more);
    })
  ]
]

pub lowest-next : (names : List (Option ℕ)) (c : PageCache) (from i : ℕ) (first : Option ℕ) → IsKeyed names c
    → IsLowest names c from i first → is_some (page_of c.table i) ≡ true
    → IsLowest names c from (i + 1) (lower_key first from (key_of names i))
lowest-next names c from i first k w some = go (key_of names i) refl
  where
    h : IsNamed names c
    h = named_of names c k

    go : (o : Option ℕ) → key_of names i ≡ o → IsLowest names c from (i + 1) (lower_key first from o)
    go None e = let n : false ≡ true = sym (ap is_some e) ∙ h.named i (stands-page c i some) in absurd (cc)
    go (Some j) e = record {
      found = λ key f. elim (lw.either key f) [
        | inl s ↦ w.found key s
        | inr s ↦ (omega (arith, s.0, s.1), ap is_some (ap (page_of (by_keys names c).table) s.0 ∙ page-key names c i j h e) ∙ some)
      ];
      least = λ name key lt f there le. elim (cases_eq name i) [
        | inl same ↦ let s : j ≡ key = same_some j key (sym e ∙ ap (key_of names) (sym same) ∙ f) in
            let m : (m : ℕ) × (lower_key first from (Some j) ≡ Some m) × (m ≤ j) = lw.new (omega (arith, s, le)) in
            (m.0, m.1, omega (arith, m.2, s))
        | inr ne ↦
            let l : (l : ℕ) × (first ≡ Some l) × (l ≤ key) = w.least name key (omega (arith, lt, ne)) f there le in
            let m : (m : ℕ) × (lower_key first from (Some j) ≡ Some m) × (m ≤ l.0) = lw.old l.0 l.1 in
            (m.0, m.1, omega (arith, m.2, l.2))
      ];
    }
      where
        lw : IsLower first from j (lower_key first from (Some j))
        lw = lower_is first from j

        same_some : (a b : ℕ) → Some a ≡ Some b → a ≡ b
        same_some a b s = cc

pub lowest-end : (names : List (Option ℕ)) (c : PageCache) (from i : ℕ) (first : Option ℕ) (key : ℕ) → IsKeyed names c
    → IsLowest names c from i first → length names ≤ i → from ≤ key → IfSome first (λ l. key < l)
    → page_of (by_keys names c).table key ≡ None
lowest-end names c from i first key k w all le below = elim (bool_cases (is_some (page_of (by_keys names c).table key))) [
  | inr none ↦ no_page (page_of (by_keys names c).table key) none
  | inl some ↦
      let n : (name : ℕ) × (key_of names name ≡ Some key) = some-from names c key some in
      let lt : n.0 < length names = low_if_some names n.0 (ap is_some n.1) in
      let l : (l : ℕ) × (first ≡ Some l) × (l ≤ key) = w.least n.0 key (omega (arith, lt, all)) n.1
      (sym (ap is_some (page-key names c n.0 key (named_of names c k) n.1)) ∙ some) le in
      let less : key < l.0 = subst (λ (o : Option ℕ). IfSome o (λ l. key < l)) l.1 below in
      absurd (omega (arith, less, l.2))
]
