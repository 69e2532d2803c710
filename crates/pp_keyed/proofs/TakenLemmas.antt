-- Names that are given and taken: what has none, or loses it, stands nowhere, so that nobody sees it.
use Rattle.std.proofs.Common.{◌≡◌, ◌≢◌, ◌⊎◌, ℕ, zero, suc, ◌+◌, ◌*◌, ◌<◌, ◌≤◌, Bool, true, false, cond, List, [], ◌∷◌}
use Rattle.std.proofs.Common.{length, set, refl, ap, sym, subst, ◌∙◌, arith, inl, inr, length-set}
use Rattle.std.proofs.Common.{get_or-set_other, get_or-set_same}
use Rattle.std.specs.Prelude.{Option, None, Some, is_some}
use Rattle.std.proofs.lemmas.Bool.{cases_lt, cases_eq}
use Rattle.std.proofs.lemmas.List.{get_or_past}
use Rattle.std.proofs.lemmas.List.Sums.{sum_by-cons, sum_by-set}
use Rattle.pp_cache.specs.Cache.{PageCache, IsSound}
use Rattle.pp_names.specs.Names.{key_of, IsUnnamed, named_count}
use Rattle.pp_keyed.specs.Keyed.{key_count, by_keys, stands, IsKeyed, IsSpare, IsGiven, IsSwept, unused_taken}
use Rattle.pp_keyed.proofs.PlacedLemmas.{IsApart}
use Rattle.pp_keyed.proofs.ByKeysLemmas.{IsNamed, named_of, some_is, by_keys_agree, bool_cases}

-- Some names that stand nowhere have lost their keys.
pub record IsTaken (old new : List (Option ℕ)) (c : PageCache) : Type 0 where
  pub size : length new ≡ length old
  pub kept : (x : ℕ) → stands c x ≡ true → key_of new x ≡ key_of old x
  pub fewer : (x key : ℕ) → key_of new x ≡ Some key → key_of old x ≡ Some key

pub key-set : (names : List (Option ℕ)) (x y : ℕ) (o : Option ℕ) → y ≢ x → key_of (set names x o) y ≡ key_of names y
key-set names x y o ne = get_or-set_other names x y o None ne

pub key-taken : (names : List (Option ℕ)) (x : ℕ) → key_of (set names x None) x ≡ None
key-taken names x = elim (cases_lt x (length names)) [
  | inl lt ↦ get_or-set_same names x None None lt
  | inr le ↦ get_or_past (set names x None) x None (omega (arith, le, length-set names x (let n : Option ℕ = None in n)))
]

fewer-set : (names : List (Option ℕ)) (x y key : ℕ) → key_of (set names x None) y ≡ Some key → key_of names y ≡ Some key
fewer-set names x y key e = elim (cases_eq y x) [
  | inl same ↦ let n : None ≡ Some key = sym (ap (key_of (set names x None)) same ∙ key-taken names x) ∙ e in absurd (cc)
  | inr ne ↦ sym (key-set names x y None ne) ∙ e
]

pub taken-nothing : (names : List (Option ℕ)) (c : PageCache) → IsTaken names names c
taken-nothing names c = record { size = refl; kept = λ x h. refl; fewer = λ x key e. e }

pub taken-unused : (names : List (Option ℕ)) (c : PageCache) (o : Option ℕ) → IsTaken names (unused_taken names c o) c
taken-unused names c None = taken-nothing names c
taken-unused names c (Some x) = go (stands c x) refl
  where
    go : (b : Bool) → stands c x ≡ b → IsTaken names (cond b names (set names x None)) c
    go true e = taken-nothing names c
    go false e = record {
      size = length-set names x None;
      kept = λ y h. key-set names x y None (λ same.
          let n : true ≡ false = sym h ∙ ap (stands c) same ∙ e in cc);
      fewer = λ y key f. fewer-set names x y key f;
    }

-- the name has no key any more
pub gone-unused : (names : List (Option ℕ)) (c : PageCache) (x : ℕ) → stands c x ≡ false
    → key_of (unused_taken names c (Some x)) x ≡ None
gone-unused names c x e = rw e (key-taken names x)

pub taken-then : (a b d : List (Option ℕ)) (c : PageCache) → IsTaken a b c → IsTaken b d c → IsTaken a d c
taken-then a b d c h k = record {
  size = k.size ∙ h.size;
  kept = λ x s. k.kept x s ∙ h.kept x s;
  fewer = λ x key e. h.fewer x key (k.fewer x key e);
}

pub taken-swept : (old new : List (Option ℕ)) (c : PageCache) → IsSwept old new c → IsTaken old new c
taken-swept old new c h = record {
  size = h.size;
  kept = λ x s. h.each x ∙ ap (λ (b : Bool). cond b (key_of old x) None) s;
  fewer = λ x key e. go (stands c x) x key (sym (h.each x) ∙ e);
}
  where
    go : (b : Bool) (x key : ℕ) → cond b (key_of old x) None ≡ Some key → key_of old x ≡ Some key
    go true x key e = e
    go false x key e = absurd (cc)

pub gone-swept : (old new : List (Option ℕ)) (c : PageCache) (x : ℕ) → IsSwept old new c → stands c x ≡ false
    → key_of new x ≡ None
gone-swept old new c x h e = h.each x ∙ ap (λ (b : Bool). cond b (key_of old x) None) e

-- ---- nobody sees it

apart_fewer : (old new : List (Option ℕ)) (c : PageCache) → IsApart key_count old → IsTaken old new c → IsApart key_count new
apart_fewer old new c a t = record {
  one = λ p q key e f. a.one p q key (t.fewer p key e) (t.fewer q key f);
  low = λ x key e. a.low x key (t.fewer x key e);
}

pub taken-named : (old new : List (Option ℕ)) (c : PageCache) → IsNamed old c → IsTaken old new c → IsNamed new c
taken-named old new c h t = record {
  apart = apart_fewer old new c h.apart t;
  room = omega (arith, h.room, t.size);
  named = λ x s. ap is_some (t.kept x s) ∙ h.named x s;
}

pub taken-by_keys : (old new : List (Option ℕ)) (c : PageCache) → IsNamed old c → IsTaken old new c → by_keys new c ≡ by_keys old c
taken-by_keys old new c h t = by_keys_agree new old c (apart_fewer old new c h.apart t) h.apart t.kept

-- the names are as they should be where those that stand nowhere have no keys
pub keyed-end : (names : List (Option ℕ)) (c : PageCache) → IsNamed names c → IsSound c → length c.table.pages ≤ 4294967292
    → IsSpare (length names) (length c.table.pages) → ((x : ℕ) → stands c x ≡ false → key_of names x ≡ None)
    → IsKeyed names c
keyed-end names c h sound fits spare gone = record {
  sound = sound;
  one_to_one = h.apart.one;
  below = h.apart.low;
  room = h.room;
  fits = fits;
  spare = spare;
  named = λ x. elim (bool_cases (stands c x)) [
    | inl s ↦ h.named x s ∙ sym s
    | inr n ↦ ap is_some (gone x n) ∙ sym n
  ];
}

-- ---- how many have keys

abbrev pub one_if : Bool → ℕ
one_if b = cond b 1 0

pub if_more : (a b : Bool) → (a ≡ true → b ≡ true) → one_if a ≤ one_if b
if_more false b h = omega arith
if_more true b h = let e : one_if b ≡ 1 = ap one_if (h refl) in omega (arith, e)

pub count-fewer : (old new : List (Option ℕ)) → length new ≡ length old
    → ((x : ℕ) → is_some (key_of new x) ≡ true → is_some (key_of old x) ≡ true) → named_count new ≤ named_count old
count-fewer [] [] size h = omega arith
count-fewer [] (o ∷ new) size h = absurd (omega arith)
count-fewer (o ∷ old) [] size h = absurd (omega arith)
count-fewer (o ∷ old) (p ∷ new) size h =
    omega (
      arith,
      sum_by-cons (λ x. one_if (is_some x)) o old,
      sum_by-cons (λ x. one_if (is_some x)) p new,
      if_more (is_some p) (is_some o) (h zero),
      count-fewer old new (omega arith) (λ x. h (suc x)),
    )

some_fewer : (old new : List (Option ℕ)) (c : PageCache) (x : ℕ) → IsTaken old new c → is_some (key_of new x) ≡ true
    → is_some (key_of old x) ≡ true
some_fewer old new c x t h =
    let k : (k : ℕ) × (key_of new x ≡ Some k) = some_is (key_of new x) h in ap is_some (t.fewer x k.0 k.1)

pub count-taken : (old new : List (Option ℕ)) (c : PageCache) → IsTaken old new c → named_count new ≤ named_count old
count-taken old new c t = count-fewer old new t.size (λ x h. some_fewer old new c x t h)

-- ---- a name is given

pub apart_given : (names : List (Option ℕ)) (x key : ℕ) → IsApart key_count names → key < key_count → IsUnnamed names key
    → IsApart key_count (set names x (Some key))
apart_given names x key a lt none = record {
  one = λ p q k e f. one p q k e f;
  low = λ p k e. elim (cases_eq p x) [
    | inl same ↦ let s : k ≡ key = here p k same e in omega (arith, s, lt)
    | inr ne ↦ a.low p k (sym (key-set names x p (Some key) ne) ∙ e)
  ];
}
  where
    here : (p k : ℕ) → p ≡ x → key_of (set names x (Some key)) p ≡ Some k → k ≡ key
    here p k same e = elim (cases_lt x (length names)) [
      | inl lt ↦ let s : Some k ≡ Some key = sym e ∙ ap (key_of (set names x (Some key))) same
          ∙ get_or-set_same names x (Some key) None lt in cc
      | inr le ↦ let s : Some k ≡ None = sym e ∙ ap (key_of (set names x (Some key))) same
          ∙ get_or_past (set names x (Some key)) x None (omega (arith, le, length-set names x (Some key))) in absurd (cc)
    ]

    one : (p q k : ℕ) → key_of (set names x (Some key)) p ≡ Some k → key_of (set names x (Some key)) q ≡ Some k → p ≡ q
    one p q k e f = elim (cases_eq p x) [
      | inl i ↦ elim (cases_eq q x) [
        | inl j ↦ i ∙ sym j
        | inr m ↦ absurd (none q (sym (key-set names x q (Some key) m) ∙ f ∙ ap Some (here p k i e)))
      ]
      | inr n ↦ elim (cases_eq q x) [
        | inl j ↦ absurd (none p (sym (key-set names x p (Some key) n) ∙ e ∙ ap Some (here q k j f)))
        | inr m ↦ a.one p q k (sym (key-set names x p (Some key) n) ∙ e) (sym (key-set names x q (Some key) m) ∙ f)
      ]
    ]

-- What is known once a key has a name: the cache is as before, though the name may stand nowhere yet.
pub record IsReady (old new : List (Option ℕ)) (c : PageCache) (key x : ℕ) : Type 0 where
  pub named : IsNamed new c
  pub same : by_keys new c ≡ by_keys old c
  pub size : length new ≡ length old
  pub others : (y : ℕ) → y ≢ x → key_of new y ≡ key_of old y

pub ready : (old new : List (Option ℕ)) (c : PageCache) (key x : ℕ) → IsKeyed old c → key < key_count
    → IsGiven old new key x → IsReady old new c key x
ready old new c key x k lt g = go g.way
  where
    h : IsNamed old c
    h = named_of old c k

    go : (new ≡ old) ⊎ ((key_of old x ≡ None) × IsUnnamed old key × (new ≡ set old x (Some key))) → IsReady old new c key x
    go (inl e) = record {
      named = subst (λ (w : List (Option ℕ)). IsNamed w c) (sym e) h;
      same = ap (λ (w : List (Option ℕ)). by_keys w c) e;
      size = ap length e;
      others = λ y ne. ap (λ (w : List (Option ℕ)). key_of w y) e;
    }
    go (inr w) =
        let a : IsApart key_count (set old x (Some key)) = apart_given old x key h.apart lt w.1 in
        let agree : (y : ℕ) → stands c y ≡ true → key_of (set old x (Some key)) y ≡ key_of old y =
        λ y s. key-set old x y (Some key) (λ same.
        let n : false ≡ true = sym (ap is_some w.0) ∙ k.named x ∙ ap (stands c) (sym same) ∙ s in cc) in
        record {
          named = subst (λ (v : List (Option ℕ)). IsNamed v c) (sym w.2) (record {
            apart = a;
            room = omega (arith, h.room, length-set old x (Some key));
            named = λ y s. ap is_some (agree y s) ∙ h.named y s;
          });
          same = ap (λ (v : List (Option ℕ)). by_keys v c) w.2 ∙ by_keys_agree (set old x (Some key)) old c a h.apart agree;
          size = ap length w.2 ∙ length-set old x (Some key);
          others = λ y ne. ap (λ (v : List (Option ℕ)). key_of v y) w.2 ∙ key-set old x y (Some key) ne;
        }

-- at most one name more has a key
pub count-given : (old new : List (Option ℕ)) (key x : ℕ) → IsGiven old new key x → named_count new ≤ named_count old + 1
count-given old new key x g = go g.way
  where
    go : (new ≡ old) ⊎ ((key_of old x ≡ None) × IsUnnamed old key × (new ≡ set old x (Some key)))
        → named_count new ≤ named_count old + 1
    go (inl e) = omega (arith, ap named_count e)
    go (inr w) = omega (
      arith,
      ap named_count w.2,
      sum_by-set (λ (o : Option ℕ). one_if (is_some o)) old x (Some key) None g.low,
    )
