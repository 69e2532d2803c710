-- Lemmas on a table: what its keys say in a caller's words, and what stays true where a key comes and goes.
use Rattle.std.proofs.Common.{◌≡◌, ◌≢◌, ℕ, ◌+◌, ◌*◌, ◌<◌, ◌≤◌, List, length, ◌-◌, ◌++◌, set, replicate, Bool, true, false, cond, ltb, length-append}
use Rattle.std.proofs.Common.{arith, ap, sym, refl, ◌∙◌, inl, inr, get_or-set_other, get_or-set_same}
use Rattle.std.specs.Prelude.{Option, None, Some, is_some, count_by}
use Rattle.std.proofs.Math.ListN.{get_or-map}
use Rattle.std.proofs.lemmas.Bool.{cases_eq, cases_lt, ne_eqb, eq-eqb, lt-ltb, le-ltb}
use Rattle.std.proofs.lemmas.List.{map-set, length-map, length-replicate, get_or-replicate, ext_get_or, get_or_past, get_or_append_left, get_or-append_right}
use Rattle.std.proofs.lemmas.List.Folds.{sum_by-replicate}
use Rattle.pp_names.specs.Names.{key_of, IsUnnamed, IsOneToOne}
use Rattle.pp_names.specs.Slots.{none, at, is_full, IsTable}
use Rattle.pp_names.specs.Kept.{as_key, keys_of, IsKept}
use Rattle.pp_names.proofs.SlotLemmas.{at_blank, one_for, full-false}

-- ---- keys in a caller's words

pub as_key-none : (k : ℕ) → k ≡ none → as_key k ≡ None
as_key-none k e = ap (λ (b : Bool). cond b None (Some k)) (eq-eqb k none e)

pub as_key-some : (k : ℕ) → k ≢ none → as_key k ≡ Some k
as_key-some k f = ap (λ (b : Bool). cond b None (Some k)) (ne_eqb k none f)

pub key_of-keys : (keys : List ℕ) (n : ℕ) → key_of (keys_of keys) n ≡ as_key (at keys n)
key_of-keys keys n = get_or-map as_key keys n none

pub named_key : (keys : List ℕ) (n key : ℕ) → key_of (keys_of keys) n ≡ Some key → (at keys n ≡ key) × (key ≢ none)
named_key keys n key e = elim (cases_eq (at keys n) none) [
  | inl is ↦ let z : Some key ≡ None = sym e ∙ key_of-keys keys n ∙ as_key-none (at keys n) is in absurd (cc)
  | inr ne ↦
      let s : Some (at keys n) ≡ Some key = sym (as_key-some (at keys n) ne) ∙ sym (key_of-keys keys n) ∙ e in
      let same : at keys n ≡ key = cc in
      (same, λ z. ne (same ∙ z))
]

pub named_as : (keys : List ℕ) (n key : ℕ) → at keys n ≡ key → key ≢ none → key_of (keys_of keys) n ≡ Some key
named_as keys n key e f =
    key_of-keys keys n ∙ as_key-some (at keys n) (λ z. f (sym e ∙ z)) ∙ ap (λ (k : ℕ). Some k) e

pub unused_at : (keys : List ℕ) (n : ℕ) → key_of (keys_of keys) n ≡ None → at keys n ≡ none
unused_at keys n e = elim (cases_eq (at keys n) none) [
  | inl is ↦ is
  | inr ne ↦ let s : Some (at keys n) ≡ None = sym (as_key-some (at keys n) ne) ∙ sym (key_of-keys keys n) ∙ e in
      absurd (cc)
]

pub used_at : (keys : List ℕ) (n key : ℕ) → key_of (keys_of keys) n ≡ Some key → at keys n ≢ none
used_at keys n key e = let k = named_key keys n key e in λ z. k.1 (sym k.0 ∙ z)

pub set_key : (keys : List ℕ) (n key : ℕ) → key ≢ none → keys_of (set keys n key) ≡ set (keys_of keys) n (Some key)
set_key keys n key f = map-set as_key keys n key ∙ ap (set (keys_of keys) n) (as_key-some key f)

pub set_none : (keys : List ℕ) (n : ℕ) → keys_of (set keys n none) ≡ set (keys_of keys) n None
set_none keys n = map-set as_key keys n none ∙ ap (set (keys_of keys) n) (as_key-none none refl)

pub one_to_one : (keys slots : List ℕ) → IsKept keys slots → IsOneToOne (keys_of keys)
one_to_one keys slots k = λ p q key e f.
    let a = named_key keys p key e in
    let b = named_key keys q key f in
    k.apart p q (used_at keys p key e) (a.0 ∙ sym b.0)

-- ---- a name is found

pub found : (keys slots : List ℕ) (r : Option ℕ) (key n : ℕ) → IsKept keys slots
    → ((m : ℕ) → r ≡ Some m → (at keys m ≡ key) × (key ≢ none))
    → (r ≡ None → (m : ℕ) → key ≢ none → at keys m ≢ key)
    → key_of (keys_of keys) n ≡ Some key → r ≡ Some n
found keys slots None key n k some nothing e =
    let a = named_key keys n key e in absurd (nothing refl n a.1 a.0)
found keys slots (Some m) key n k some nothing e =
    let a = named_key keys n key e in
    let b = some m refl in
    ap (λ (i : ℕ). Some i) (k.apart m n (λ z. b.1 (sym b.0 ∙ z)) (b.0 ∙ sym a.0))

pub unnamed : (keys : List ℕ) (r : Option ℕ) (key : ℕ) → (r ≡ None → (m : ℕ) → key ≢ none → at keys m ≢ key)
    → r ≡ None → IsUnnamed (keys_of keys) key
unnamed keys r key nothing e = λ m f. let a = named_key keys m key f in nothing e m a.1 a.0

-- ---- a key comes, and goes

pub low_if_some : (names : List (Option ℕ)) (n : ℕ) → is_some (key_of names n) ≡ true → n < length names
low_if_some names n e = elim (cases_lt n (length names)) [
  | inl lt ↦ lt
  | inr le ↦ let z : false ≡ true = sym (ap is_some (get_or_past names n None le)) ∙ e in absurd (cc)
]

pub kept_insert : (keys slots slots' : List ℕ) (n key : ℕ) → IsKept keys slots → n < length keys → key < none
    → IsUnnamed (keys_of keys) key → IsTable (set keys n key) slots' → IsKept (set keys n key) slots'
kept_insert keys slots slots' n key k low fits new t = record {
  table = t;
  low = λ i. elim (cases_eq i n) [ inl is ↦ omega (arith, mine i is, fits) | inr ne ↦ omega (arith, other i ne, k.low i) ];
  apart = λ p q f e. elim (cases_eq p n) [
    | inl ps ↦ elim (cases_eq q n) [
      | inl qs ↦ ps ∙ sym qs
      | inr nq ↦ absurd (new q (named_as keys q key (sym (other q nq) ∙ sym e ∙ mine p ps) (omega arith)))
    ]
    | inr np ↦ elim (cases_eq q n) [
      | inl qs ↦ absurd (new p (named_as keys p key (sym (other p np) ∙ e ∙ mine q qs) (omega arith)))
      | inr nq ↦ k.apart p q (λ z. f (other p np ∙ z)) (sym (other p np) ∙ e ∙ other q nq)
    ]
  ];
}
  where
    mine : (i : ℕ) → i ≡ n → at (set keys n key) i ≡ key
    mine i is = ap (at (set keys n key)) is ∙ get_or-set_same keys n key none low

    other : (i : ℕ) → i ≢ n → at (set keys n key) i ≡ at keys i
    other i ne = get_or-set_other keys n i key none ne

pub kept_remove : (keys slots slots' : List ℕ) (n : ℕ) → IsKept keys slots → n < length keys
    → IsTable (set keys n none) slots' → IsKept (set keys n none) slots'
kept_remove keys slots slots' n k low t = record {
  table = t;
  low = λ i. elim (cases_eq i n) [ inl is ↦ omega (arith, mine i is) | inr ne ↦ omega (arith, other i ne, k.low i) ];
  apart = λ p q f e. elim (cases_eq p n) [
    | inl ps ↦ absurd (f (mine p ps))
    | inr np ↦ elim (cases_eq q n) [
      | inl qs ↦ absurd (f (e ∙ mine q qs))
      | inr nq ↦ k.apart p q (λ z. f (other p np ∙ z)) (sym (other p np) ∙ e ∙ other q nq)
    ]
  ];
}
  where
    mine : (i : ℕ) → i ≡ n → at (set keys n none) i ≡ none
    mine i is = ap (at (set keys n none)) is ∙ get_or-set_same keys n none none low

    other : (i : ℕ) → i ≢ n → at (set keys n none) i ≡ at keys i
    other i ne = get_or-set_other keys n i none none ne

-- ---- more names

pub unnamed_yet : (names larger : List (Option ℕ)) (i key : ℕ)
    → ((n : ℕ) → key_of larger n ≡ cond (ltb n i) (key_of names n) None) → IsOneToOne names → Some key ≡ key_of names i
    → IsUnnamed larger key
unnamed_yet names larger i key keys one e = λ m is. elim (cases_lt m i) [
  | inl lt ↦
      let old : key_of larger m ≡ key_of names m = keys m ∙ ap (λ (b : Bool). cond b (key_of names m) None) (lt-ltb m i lt) in
      absurd (omega (arith, lt, one m i key (sym old ∙ is) (sym e)))
  | inr ge ↦
      let none : key_of larger m ≡ None = keys m ∙ ap (λ (b : Bool). cond b (key_of names m) None) (le-ltb m i ge) in
      absurd (cc)
]

pub all_grown : (names larger : List (Option ℕ)) (i n : ℕ) → length larger ≡ n → length names ≤ n → i ≡ length names
    → ((m : ℕ) → key_of larger m ≡ cond (ltb m i) (key_of names m) None)
    → larger ≡ names ++ replicate (n - length names) None
all_grown names larger i n size le all keys = ext_get_or nobody larger (names ++ replicate (n - length names) nobody)
    (omega (
      arith,
      size,
      length-append names (replicate (n - length names) nobody),
      length-replicate (n - length names) nobody,
    ))
    (λ m lt. elim (cases_lt m (length names)) [
      | inl lo ↦ keys m ∙ ap (λ (b : Bool). cond b (key_of names m) None) (lt-ltb m i (omega (arith, all)))
          ∙ sym (get_or_append_left names (replicate (n - length names) nobody) nobody m lo)
      | inr ge ↦ keys m ∙ ap (λ (b : Bool). cond b (key_of names m) None) (le-ltb m i (omega (arith, all)))
          ∙ sym (get_or-append_right names (replicate (n - length names) nobody) (length names) m nobody refl ge
          ∙ get_or-replicate (n - length names) (m - length names) nobody nobody (omega (arith, lt, size)))
    ])
  where
    nobody : Option ℕ
    nobody = None

-- ---- no key

pub no_keys : (n : ℕ) → keys_of (replicate n none) ≡ replicate n None
no_keys n = ext_get_or nobody (keys_of (replicate n none)) (replicate n nobody)
    (length-map (replicate n none) as_key ∙ length-replicate n none ∙ sym (length-replicate n nobody))
    (λ i lt. key_of-keys (replicate n none) i ∙ as_key-none (at (replicate n none) i) (at_blank n i)
    ∙ sym (get_or-replicate n i nobody nobody (omega (
      arith,
      lt,
      length-map (replicate n none) as_key,
      length-replicate n none,
    ))))
  where
    nobody : Option ℕ
    nobody = None

pub blank_count : (n : ℕ) → count_by is_full (replicate n none) ≡ 0
blank_count n =
    let z : one_for (is_full none) ≡ 0 = ap one_for (full-false none refl) in
    sum_by-replicate (λ y. one_for (is_full y)) n none ∙ omega (arith, ap (λ (m : ℕ). n * m) z)

pub kept_new : (n m : ℕ) → n < none → m ≡ 2 * n + 1 → IsKept (replicate n none) (replicate m none)
kept_new n m fits size = record {
  table = record {
    size = omega (arith, length-replicate n none, length-replicate m none, size);
    fits = omega (arith, length-replicate n none, fits);
    count = blank_count m ∙ sym (blank_count n);
    laid = record {
      named = λ i f. absurd (f (at_blank m i));
      no_gap = λ i j f low near. absurd (f (at_blank m i));
      once = λ i j f e. absurd (f (at_blank m i));
      placed = λ name f. absurd (f (at_blank n name));
    };
  };
  low = λ i. omega (arith, at_blank n i);
  apart = λ p q f e. absurd (f (at_blank n p));
}
