-- Lemmas on slots: a name is found, comes, and goes.
use Rattle.std.proofs.Common.{◌≡◌, ◌≢◌, ℕ, suc, ◌+◌, ◌-◌, ◌*◌, ◌%◌, ◌^◌, ◌<◌, ◌≤◌, List, [], ◌∷◌, length, get_or, set, replicate}
use Rattle.std.proofs.Common.{Bool, true, false, not, cond, arith, ap, sym, refl, subst, ◌∙◌, inl, inr, ◌⊎◌}
use Rattle.std.proofs.Common.{get_or-set_other, get_or-set_same, length-set}
use Rattle.std.specs.Prelude.{count_by}
use Rattle.std.proofs.Math.Nat.{mul-le-mul_right}
use Rattle.std.proofs.lemmas.Bool.{cases_eq, cases_lt, ne_eqb, eq-eqb, lt-ltb, le-ltb}
use Rattle.std.proofs.lemmas.List.{get_or_past, get_or_default, get_or-replicate, length-replicate}
use Rattle.std.proofs.lemmas.List.Sums.{sum_by-set, sum_by-cons, count_by-le-length}
use Rattle.pp_names.specs.Slots.{none, at, is_full, home_of, next_of, distance_of, IsLaid, IsTable}

-- ---- what stands at a place

pub within : (xs : List ℕ) (i : ℕ) → at xs i ≢ none → i < length xs
within xs i f = elim (cases_lt i (length xs)) [ inl lt ↦ lt | inr le ↦ absurd (f (get_or_past xs i none le)) ]

pub none_past : (xs : List ℕ) → length xs < none → at xs none ≡ none
none_past xs fits = get_or_past xs none none (omega arith)

pub full-true : (x : ℕ) → x ≢ none → is_full x ≡ true
full-true x f = ap not (ne_eqb x none f)

pub full-false : (x : ℕ) → x ≡ none → is_full x ≡ false
full-false x e = ap not (eq-eqb x none e)

abbrev pub one_for : Bool → ℕ
one_for b = cond b 1 0

pub count-set : (xs : List ℕ) (i x : ℕ) → i < length xs
    → count_by is_full (set xs i x) + one_for (is_full (at xs i)) ≡ count_by is_full xs + one_for (is_full x)
count-set xs i x lt = sum_by-set (λ y. one_for (is_full y)) xs i x none lt

-- a number more, one fewer, and one for another
pub count_more : (xs : List ℕ) (i x : ℕ) → i < length xs → at xs i ≡ none → x ≢ none
    → count_by is_full (set xs i x) ≡ count_by is_full xs + 1
count_more xs i x lt e f =
    omega (arith, count-set xs i x lt, ap one_for (full-false (at xs i) e), ap one_for (full-true x f))

pub count_fewer : (xs : List ℕ) (i : ℕ) → i < length xs → at xs i ≢ none
    → count_by is_full (set xs i none) + 1 ≡ count_by is_full xs
count_fewer xs i lt f =
    omega (arith, count-set xs i none lt, ap one_for (full-true (at xs i) f), ap one_for (full-false none refl))

pub count_same : (xs : List ℕ) (i x : ℕ) → i < length xs → at xs i ≢ none → x ≢ none
    → count_by is_full (set xs i x) ≡ count_by is_full xs
count_same xs i x lt e f =
    omega (arith, count-set xs i x lt, ap one_for (full-true (at xs i) e), ap one_for (full-true x f))

-- where all places are full, as many are as there are
pub all_full : (xs : List ℕ) → ((j : ℕ) → j < length xs → at xs j ≢ none) → length xs ≤ count_by is_full xs
all_full [] f = omega arith
all_full (x ∷ xs) f = omega (
  arith,
  sum_by-cons (λ y. one_for (is_full y)) x xs,
  ap one_for (full-true x (f 0 (omega arith))),
  all_full xs (λ j lt. f (suc j) (omega arith)),
)

-- ---- the way round

pub home_low : (names key : ℕ) → home_of names key ≤ 2 * names
home_low names key = omega (arith, mul-le-mul_right names (low (key * 2654435769)))
  where
    low : (n : ℕ) → n % 2 ^ 32 ≤ 2 ^ 32
    low n = omega arith

pub next_is : (size place : ℕ) → place < size
    → ((place + 1 < size) × (next_of size place ≡ place + 1)) ⊎ ((place + 1 ≡ size) × (next_of size place ≡ 0))
next_is size place low = elim (cases_lt (place + 1) size) [
  | inl lt ↦ inl (lt, ap (λ (b : Bool). cond b (place + 1) 0) (lt-ltb (place + 1) size lt))
  | inr le ↦ inr (omega arith, ap (λ (b : Bool). cond b (place + 1) 0) (le-ltb (place + 1) size le))
]

pub distance_is : (size from to : ℕ) → from < size
    → ((from ≤ to) × (distance_of size from to + from ≡ to)) ⊎ ((to < from) × (distance_of size from to + from ≡ to + size))
distance_is size from to low = elim (cases_lt to from) [
  | inl lt ↦ inr (lt, omega (arith, low, lt, ap (λ (b : Bool). cond b (size - from + to) (to - from)) (lt-ltb to from lt)))
  | inr le ↦ inl (le, omega (arith, low, le, ap (λ (b : Bool). cond b (size - from + to) (to - from)) (le-ltb to from le)))
]

-- a slot b on the way from a to c parts the way
pub by_way : (size a b c : ℕ) → a < size → b < size → c < size → distance_of size a b ≤ distance_of size a c
    → distance_of size a c ≡ distance_of size a b + distance_of size b c
by_way size a b c al bl cl le =
    omega (arith, al, bl, cl, le, distance_is size a b al, distance_is size a c al, distance_is size b c bl)

pub by_way' : (size a b c : ℕ) → a < size → b < size → c < size → distance_of size b c ≤ distance_of size a c
    → distance_of size a c ≡ distance_of size a b + distance_of size b c
by_way' size a b c al bl cl le =
    omega (arith, al, bl, cl, le, distance_is size a b al, distance_is size a c al, distance_is size b c bl)

-- no two slots are as far from one
pub apart : (size a b c : ℕ) → a < size → b < size → c < size → b ≢ c → distance_of size a b ≢ distance_of size a c
apart size a b c al bl cl ne = omega (arith, al, bl, cl, ne, distance_is size a b al, distance_is size a c al)

abbrev pub IsFull : List ℕ → ℕ → Type 0
IsFull slots j = at slots j ≢ none

-- a full slot with a name of another key
abbrev pub IsOther : List ℕ → List ℕ → ℕ → ℕ → Type 0
IsOther keys slots key j = (at slots j ≢ none) × (at keys (at slots j) ≢ key)

-- All slots from one on to a place have been passed, and of each something holds.
pub record IsPassed (size : ℕ) (P : ℕ → Type 0) (start place : ℕ) : Type 0 where
  pub from : start < size
  pub low : place < size
  pub all : (j : ℕ) → j < size → distance_of size start j < distance_of size start place → P j

pub passed_first : (size : ℕ) (P : ℕ → Type 0) (start : ℕ) → start < size → IsPassed size P start start
passed_first size P start low = record {
  from = low;
  low = low;
  all = λ j lj lt. absurd (omega (arith, lt, distance_is size start start low));
}

pub passed_as : (size : ℕ) (P Q : ℕ → Type 0) (start place : ℕ) → ((j : ℕ) → j < size → P j → Q j)
    → IsPassed size P start place → IsPassed size Q start place
passed_as size P Q start place f h = record { from = h.from; low = h.low; all = λ j lj lt. f j lj (h.all j lj lt) }

-- what does not hold of all slots isn't passed all the way round
pub distance_next : (size : ℕ) (P : ℕ → Type 0) (start place : ℕ) → IsPassed size P start place → P place
    → (((j : ℕ) → j < size → P j) → ⊥)
    → distance_of size start (next_of size place) ≡ distance_of size start place + 1
distance_next size P start place h here ends = elim (cases_eq (distance_of size start place + 1) size) [
  | inl round ↦ absurd (ends (λ j lj. elim (cases_eq j place) [
    | inl is ↦ subst P (sym is) here
    | inr ne ↦ h.all j lj (omega (
      arith,
      round,
      lj,
      h.from,
      distance_is size start j h.from,
      apart size start j place h.from lj h.low ne,
    ))
  ]))
  | inr ne ↦ omega (
    arith,
    ne,
    h.from,
    h.low,
    next_is size place h.low,
    distance_is size start place h.from,
    distance_is size start (next_of size place) h.from,
  )
]

pub passed_next : (size : ℕ) (P : ℕ → Type 0) (start place : ℕ) → IsPassed size P start place → P place
    → (((j : ℕ) → j < size → P j) → ⊥) → IsPassed size P start (next_of size place)
passed_next size P start place h here ends = record {
  from = h.from;
  low = omega (arith, h.low, next_is size place h.low);
  all = λ j lj lt. elim (cases_eq j place) [
    | inl is ↦ subst P (sym is) here
    | inr ne ↦ h.all j lj (omega (
      arith,
      lt,
      distance_next size P start place h here ends,
      apart size start j place h.from lj h.low ne,
    ))
  ];
}

-- the search ends: fewer steps are left
pub less_next : (size size' : ℕ) (P : ℕ → Type 0) (start place next : ℕ) → IsPassed size P start place → P place
    → (((j : ℕ) → j < size → P j) → ⊥) → size' ≡ size → next ≡ next_of size' place
    → size' - distance_of size' start next < size - distance_of size start place
less_next size size' P start place next h here ends same is = rw (is, same) (omega (
  arith,
  h.from,
  h.low,
  distance_next size P start place h here ends,
  distance_is size start place h.from,
))

-- one slot is always empty
pub not_all : (keys slots : List ℕ) → length slots ≡ 2 * length keys + 1 → count_by is_full slots ≡ count_by is_full keys
    → ((j : ℕ) → j < length slots → at slots j ≢ none) → ⊥
not_all keys slots size count full = omega (arith, size, count, all_full slots full, count_by-le-length is_full keys)

pub home_slot : (keys slots : List ℕ) (key : ℕ) → length slots ≡ 2 * length keys + 1
    → home_of (length keys) key < length slots
home_slot keys slots key size = omega (arith, size, home_low (length keys) key)

-- ---- a name is found

-- what is read in a slot, and then of its name's key
pub read_slot : (slots : List ℕ) (place : ℕ) → place < length slots → get_or slots place 0 ≡ at slots place
read_slot slots place low = get_or_default slots place 0 none low

pub read_full : (slots : List ℕ) (place : ℕ) → place < length slots → get_or slots place 0 ≢ none → IsFull slots place
read_full slots place low full = λ z. full (read_slot slots place low ∙ z)

pub read_empty : (slots : List ℕ) (place : ℕ) → place < length slots → get_or slots place 0 ≡ none → at slots place ≡ none
read_empty slots place low empty = sym (read_slot slots place low) ∙ empty

pub record IsRead (keys slots : List ℕ) (place : ℕ) : Type 0 where
  pub below : get_or slots place 0 < length keys
  pub key : get_or keys (get_or slots place 0) 0 ≡ at keys (at slots place)
  pub used : at keys (at slots place) ≢ none

pub read_key : (keys slots : List ℕ) (place : ℕ)
    → ((i : ℕ) → at slots i ≢ none → at keys (at slots i) ≢ none) → place < length slots
    → get_or slots place 0 ≢ none → IsRead keys slots place
read_key keys slots place named low full =
    let e : get_or slots place 0 ≡ at slots place = read_slot slots place low in
    let used : at keys (at slots place) ≢ none = named place (λ z. full (e ∙ z)) in
    let there : at slots place < length keys = within keys (at slots place) used in
    record {
      below = omega (arith, e, there);
      key = ap (λ (n : ℕ). get_or keys n 0) e ∙ get_or_default keys (at slots place) 0 none there;
      used = used;
    }

-- where a name stands that has a key
pub record IsPlaced (keys slots : List ℕ) (name : ℕ) : Type 0 where
  pub place : ℕ
  pub is : at slots place ≡ name
  pub full : at slots place ≢ none
  pub low : place < length slots

pub place_of : (keys slots : List ℕ) (name : ℕ) → IsTable keys slots → at keys name ≢ none → IsPlaced keys slots name
place_of keys slots name t used =
    let low : name < length keys = within keys name used in
    let there : (i : ℕ) × (at slots i ≡ name) = t.laid.placed name used in
    let full : at slots there.0 ≢ none = λ z.
    let n : name ≡ none = sym there.1 ∙ z in omega (arith, n, low, t.fits) in
    record { place = there.0; is = there.1; full = full; low = within slots there.0 full }

-- not all slots are without a name that has a key
pub not_without : (keys slots : List ℕ) (name : ℕ) → IsTable keys slots → at keys name ≢ none
    → ((j : ℕ) → j < length slots → at slots j ≢ name) → ⊥
not_without keys slots name t used all =
    let there : IsPlaced keys slots name = place_of keys slots name t used in all there.place there.low there.is

-- a name of another key is passed
pub read_other : (keys slots : List ℕ) (key place : ℕ) → IsTable keys slots → place < length slots
    → get_or slots place 0 ≢ none → get_or keys (get_or slots place 0) 0 ≢ key → IsOther keys slots key place
read_other keys slots key place t low full other =
    (read_full slots place low full, λ z. other ((read_key keys slots place t.laid.named low full).key ∙ z))

-- the empty slot ends the search
pub not_found : (keys slots : List ℕ) (key place : ℕ) → IsTable keys slots → at slots place ≡ none
    → IsPassed (length slots) (IsOther keys slots key) (home_of (length keys) key) place
    → (name : ℕ) → key ≢ none → at keys name ≢ key
not_found keys slots key place t empty h name kn e =
    let there : IsPlaced keys slots name = place_of keys slots name t (λ z. kn (sym e ∙ z)) in
    let same : at keys (at slots there.place) ≡ key = ap (at keys) there.is ∙ e in
    elim (cases_lt (distance_of (length slots) (home_of (length keys) key) there.place)
    (distance_of (length slots) (home_of (length keys) key) place)) [
      | inl lt ↦ (h.all there.place there.low lt).1 same
      | inr le ↦ t.laid.no_gap there.place place there.full h.low
          (subst (λ (k : ℕ). distance_of (length slots) (home_of (length keys) k) place
          ≤ distance_of (length slots) (home_of (length keys) k) there.place) (sym same) le) empty
    ]

-- ---- a name comes

pub laid_more : (size : ℕ) (home key slot key' slot' : ℕ → ℕ) (name k place : ℕ) → IsLaid size home key slot
    → key none ≡ none → key name ≡ none → k ≢ none → name ≢ none → slot place ≡ none
    → slot' place ≡ name → ((i : ℕ) → i ≢ place → slot' i ≡ slot i)
    → key' name ≡ k → ((n : ℕ) → n ≢ name → key' n ≡ key n)
    → IsPassed size (λ j. slot j ≢ none) (home k) place → IsLaid size home key' slot'
laid_more size home key slot key' slot' name k place l past unused kn nn empty sp so kp ko h = record {
  named = λ i f. elim (cases_eq i place) [
    | inl is ↦ λ z. kn (sym (mine i is) ∙ z)
    | inr ne ↦ λ z. l.named i (was i ne f) (sym (same i ne f) ∙ z)
  ];
  no_gap = λ i j f lj near. elim (cases_eq j place) [
    | inl js ↦ λ z. nn (sym sp ∙ ap slot' (sym js) ∙ z)
    | inr nj ↦ elim (cases_eq i place) [
      | inl is ↦
          let near' : distance_of size (home k) j ≤ distance_of size (home k) place =
          subst (λ (m : ℕ). distance_of size (home k) j ≤ distance_of size (home k) m) is
          (subst (λ (m : ℕ). distance_of size (home m) j ≤ distance_of size (home m) i) (mine i is) near) in
          λ z. h.all j lj (omega (arith, near', apart size (home k) j place h.from lj h.low nj)) (sym (so j nj) ∙ z)
      | inr ne ↦ λ z. l.no_gap i j (was i ne f) lj
          (subst (λ (m : ℕ). distance_of size (home m) j ≤ distance_of size (home m) i) (same i ne f) near)
          (sym (so j nj) ∙ z)
    ]
  ];
  once = λ i j f e. elim (cases_eq i place) [
    | inl is ↦ elim (cases_eq j place) [
      | inl js ↦ is ∙ sym js
      | inr nj ↦
          let there : slot j ≡ name = sym (so j nj) ∙ sym e ∙ ap slot' is ∙ sp in
          absurd (other j (λ z. nn (sym there ∙ z)) there)
    ]
    | inr ne ↦ elim (cases_eq j place) [
      | inl js ↦ absurd (other i (was i ne f) (sym (so i ne) ∙ e ∙ ap slot' js ∙ sp))
      | inr nj ↦ l.once i j (was i ne f) (sym (so i ne) ∙ e ∙ so j nj)
    ]
  ];
  placed = λ n f. elim (cases_eq n name) [
    | inl is ↦ (place, sp ∙ sym is)
    | inr ne ↦ found n ne (λ z. f (ko n ne ∙ z))
  ];
}
  where
    mine : (i : ℕ) → i ≡ place → key' (slot' i) ≡ k
    mine i is = ap (λ (m : ℕ). key' (slot' m)) is ∙ ap key' sp ∙ kp

    was : (i : ℕ) → i ≢ place → slot' i ≢ none → slot i ≢ none
    was i ne f = λ z. f (so i ne ∙ z)

    other : (i : ℕ) → slot i ≢ none → slot i ≢ name
    other i f = λ e. l.named i f (ap key e ∙ unused)

    same : (i : ℕ) → i ≢ place → slot' i ≢ none → key' (slot' i) ≡ key (slot i)
    same i ne f = ap key' (so i ne) ∙ ko (slot i) (other i (was i ne f))

    found : (n : ℕ) → n ≢ name → key n ≢ none → (i : ℕ) × (slot' i ≡ n)
    found n ne f =
        let there : (i : ℕ) × (slot i ≡ n) = l.placed n f in
        let away : there.0 ≢ place = λ z.
        let gone : n ≡ none = sym there.1 ∙ ap slot z ∙ empty in f (ap key gone ∙ past) in
        (there.0, so there.0 away ∙ there.1)

pub table_more : (keys slots : List ℕ) (name key place : ℕ) → IsTable keys slots → name < length keys
    → at keys name ≡ none → key < none → at slots place ≡ none
    → IsPassed (length slots) (IsFull slots) (home_of (length keys) key) place
    → IsTable (set keys name key) (set slots place name)
table_more keys slots name key place t low unused fits empty h = record {
  size = omega (arith, t.size, length-set slots place name, length-set keys name key);
  fits = omega (arith, t.fits, length-set keys name key);
  count = omega (
    arith,
    t.count,
    count_more slots place name h.low empty (omega (arith, t.fits)),
    count_more keys name key low unused (omega arith),
  );
  laid = rw (length-set slots place name, length-set keys name key)
      (laid_more (length slots) (home_of (length keys)) (at keys) (at slots) (at (set keys name key)) (at (set slots place name))
      name key place t.laid (none_past keys t.fits) unused (omega arith) (omega (arith, t.fits)) empty
      (get_or-set_same slots place name none h.low) (λ i ne. get_or-set_other slots place i name none ne)
      (get_or-set_same keys name key none low) (λ n ne. get_or-set_other keys name n key none ne) h);
}

-- ---- a name goes

-- A slot between the hole and the place that is looked at is full, and its name may not move into the hole.
abbrev pub Stays : ℕ → (ℕ → ℕ) → (ℕ → ℕ) → (ℕ → ℕ) → ℕ → ℕ → Type 0
Stays size home key slot hole j =
    (slot j ≢ none) × (j ≢ hole → distance_of size (home (key (slot j))) j < distance_of size hole j)

-- While the gap is closed: the slots are as if the name that goes, `gone`, stood in the hole, whatever stands there.
pub record IsHoled (size : ℕ) (home key slot : ℕ → ℕ) (gone hole place : ℕ) : Type 0 where
  pub named : (i : ℕ) → slot i ≢ none → key (slot i) ≢ none
  pub no_gap : (i j : ℕ) → slot i ≢ none → j < size
      → distance_of size (home (key (slot i))) j ≤ distance_of size (home (key (slot i))) i → slot j ≢ none
  pub passed : IsPassed size (Stays size home key slot hole) hole place
  pub ahead : place ≢ hole
  pub once : (i j : ℕ) → i ≢ hole → j ≢ hole → slot i ≢ none → slot i ≡ slot j → i ≡ j
  pub placed : (name : ℕ) → key name ≢ none → name ≢ gone → (i : ℕ) × (i ≢ hole) × (slot i ≡ name)
  pub away : (i : ℕ) → i ≢ hole → slot i ≢ gone

hole_full : (size : ℕ) (home key slot : ℕ → ℕ) (gone hole place : ℕ) → IsHoled size home key slot gone hole place
    → slot hole ≢ none
hole_full size home key slot gone hole place h = (h.passed.all hole h.passed.from (omega (
  arith,
  h.passed.from,
  h.ahead,
  distance_is size hole hole h.passed.from,
  distance_is size hole place h.passed.from,
))).0

-- the place behind a hole is another one
ahead_of : (size : ℕ) (P : ℕ → Type 0) (hole place : ℕ) → IsPassed size P hole place → P place
    → (((j : ℕ) → j < size → P j) → ⊥) → next_of size place ≢ hole
ahead_of size P hole place h here ends =
    omega (arith, h.from, distance_next size P hole place h here ends, distance_is size hole (next_of size place) h.from)

pub holed_first : (size : ℕ) (home key slot : ℕ → ℕ) (start : ℕ) → IsLaid size home key slot → start < size
    → slot start ≢ none → (((j : ℕ) → j < size → slot j ≢ none) → ⊥)
    → IsHoled size home key slot (slot start) start (next_of size start)
holed_first size home key slot start l low full ends = record {
  named = l.named;
  no_gap = l.no_gap;
  passed = passed_next size (Stays size home key slot start) start start first (full, λ ne. absurd (ne refl)) no;
  ahead = ahead_of size (Stays size home key slot start) start start first (full, λ ne. absurd (ne refl)) no;
  once = λ i j ni nj f e. l.once i j f e;
  placed = λ name f ne.
      let there : (i : ℕ) × (slot i ≡ name) = l.placed name f in
      (there.0, λ z. ne (sym there.1 ∙ ap slot z), there.1);
  away = λ i ne e. ne (sym (l.once start i full (sym e)));
}
  where
    first : IsPassed size (Stays size home key slot start) start start
    first = passed_first size (Stays size home key slot start) start low

    no : ((j : ℕ) → j < size → Stays size home key slot start j) → ⊥
    no all = ends (λ j lj. (all j lj).0)

-- the name that is looked at stays
pub holed_keep : (size : ℕ) (home key slot : ℕ → ℕ) (gone hole place : ℕ) → IsHoled size home key slot gone hole place
    → slot place ≢ none → distance_of size (home (key (slot place))) place < distance_of size hole place
    → (((j : ℕ) → j < size → slot j ≢ none) → ⊥) → IsHoled size home key slot gone hole (next_of size place)
holed_keep size home key slot gone hole place h full stays ends = record {
  named = h.named;
  no_gap = h.no_gap;
  passed = passed_next size (Stays size home key slot hole) hole place h.passed (full, λ ne. stays) no;
  ahead = ahead_of size (Stays size home key slot hole) hole place h.passed (full, λ ne. stays) no;
  once = h.once;
  placed = h.placed;
  away = h.away;
}
  where
    no : ((j : ℕ) → j < size → Stays size home key slot hole j) → ⊥
    no all = ends (λ j lj. (all j lj).0)

-- it moves into the hole, and leaves one
pub holed_move : (size : ℕ) (home key slot slot' : ℕ → ℕ) (gone hole place : ℕ)
    → IsHoled size home key slot gone hole place → ((k : ℕ) → home k < size)
    → slot place ≢ none → distance_of size hole place ≤ distance_of size (home (key (slot place))) place
    → (((j : ℕ) → j < size → slot j ≢ none) → ⊥)
    → slot' hole ≡ slot place → ((i : ℕ) → i ≢ hole → slot' i ≡ slot i)
    → IsHoled size home key slot' gone place (next_of size place)
holed_move size home key slot slot' gone hole place h slots full moves ends sp so = record {
  named = λ i f. elim (cases_eq i hole) [
    | inl is ↦ λ z. h.named place full (sym (ap key (mine i is)) ∙ z)
    | inr ne ↦ λ z. h.named i (was i ne f) (sym (ap key (so i ne)) ∙ z)
  ];
  no_gap = λ i j f lj near. elim (cases_eq j hole) [
    | inl js ↦ λ z. full (sym (mine j js) ∙ z)
    | inr nj ↦ elim (cases_eq i hole) [
      | inl is ↦ λ z. h.no_gap place j full lj (omega (
        arith,
        moves,
        subst (λ (m : ℕ). distance_of size (home (key (slot place))) j ≤ distance_of size (home (key (slot place))) m) is
            (subst (λ (m : ℕ). distance_of size (home (key m)) j ≤ distance_of size (home (key m)) i) (mine i is) near),
        by_way' size (home (key (slot place))) hole place (slots (key (slot place))) h.passed.from h.passed.low moves,
      )) (sym (so j nj) ∙ z)
      | inr ne ↦ λ z. h.no_gap i j (was i ne f) lj
          (subst (λ (m : ℕ). distance_of size (home (key m)) j ≤ distance_of size (home (key m)) i) (so i ne) near)
          (sym (so j nj) ∙ z)
    ]
  ];
  passed = passed_next size (Stays size home key slot' place) place place first (now, λ ne. absurd (ne refl)) no;
  ahead = ahead_of size (Stays size home key slot' place) place place first (now, λ ne. absurd (ne refl)) no;
  once = λ i j ni nj f e. elim (cases_eq i hole) [
    | inl is ↦ elim (cases_eq j hole) [
      | inl js ↦ is ∙ sym js
      | inr aj ↦ absurd (nj (sym (h.once place j h.ahead aj full (sym (mine i is) ∙ e ∙ so j aj))))
    ]
    | inr ai ↦ elim (cases_eq j hole) [
      | inl js ↦ absurd (ni (h.once i place ai h.ahead (was i ai f) (sym (so i ai) ∙ e ∙ mine j js)))
      | inr aj ↦ h.once i j ai aj (was i ai f) (sym (so i ai) ∙ e ∙ so j aj)
    ]
  ];
  placed = λ name f ne. found name (h.placed name f ne);
  away = λ i ni e. elim (cases_eq i hole) [
    | inl is ↦ h.away place h.ahead (sym (mine i is) ∙ e)
    | inr ai ↦ h.away i ai (sym (so i ai) ∙ e)
  ];
}
  where
    now : slot' place ≢ none
    now z = full (sym (so place h.ahead) ∙ z)

    first : IsPassed size (Stays size home key slot' place) place place
    first = passed_first size (Stays size home key slot' place) place h.passed.low

    no : ((j : ℕ) → j < size → Stays size home key slot' place j) → ⊥
    no all = ends (λ j lj. elim (cases_eq j hole) [
      | inl is ↦ λ z. hole_full size home key slot gone hole place h (ap slot (sym is) ∙ z)
      | inr ne ↦ λ z. (all j lj).0 (so j ne ∙ z)
    ])

    mine : (i : ℕ) → i ≡ hole → slot' i ≡ slot place
    mine i is = ap slot' is ∙ sp

    was : (i : ℕ) → i ≢ hole → slot' i ≢ none → slot i ≢ none
    was i ne f = λ z. f (so i ne ∙ z)

    found : (name : ℕ) → (i : ℕ) × (i ≢ hole) × (slot i ≡ name) → (i : ℕ) × (i ≢ place) × (slot' i ≡ name)
    found name there = elim (cases_eq there.0 place) [
      | inl is ↦ (hole, λ z. h.ahead (sym z), sp ∙ ap slot (sym is) ∙ there.2)
      | inr ne ↦ (there.0, ne, so there.0 there.1 ∙ there.2)
    ]

-- an empty slot ends the run: the hole is emptied
pub holed_last : (size : ℕ) (home key slot key' slot' : ℕ → ℕ) (gone hole place : ℕ)
    → IsHoled size home key slot gone hole place → ((k : ℕ) → home k < size) → ((i : ℕ) → slot i ≢ none → i < size)
    → slot place ≡ none → slot' hole ≡ none → ((i : ℕ) → i ≢ hole → slot' i ≡ slot i)
    → key' gone ≡ none → ((n : ℕ) → n ≢ gone → key' n ≡ key n) → IsLaid size home key' slot'
holed_last size home key slot key' slot' gone hole place h slots within empty sp so kp ko = record {
  named = λ i f z. h.named i (was i f) (sym (same i f) ∙ z);
  no_gap = λ i j f lj near.
      let near' : distance_of size (home (key (slot i))) j ≤ distance_of size (home (key (slot i))) i =
      subst (λ (m : ℕ). distance_of size (home m) j ≤ distance_of size (home m) i) (same i f) near in
      elim (cases_eq j hole) [
        | inl js ↦ absurd (shut i f (subst
            (λ (m : ℕ). distance_of size (home (key (slot i))) m ≤ distance_of size (home (key (slot i))) i) js near'))
        | inr nj ↦ λ z. h.no_gap i j (was i f) lj near' (sym (so j nj) ∙ z)
      ];
  once = λ i j f e.
      let nj : j ≢ hole = λ js. f (e ∙ ap slot' js ∙ sp) in
      h.once i j (apart i f) nj (was i f) (sym (so i (apart i f)) ∙ e ∙ so j nj);
  placed = λ n f.
      let ne : n ≢ gone = λ is. f (ap key' is ∙ kp) in
      let there : (i : ℕ) × (i ≢ hole) × (slot i ≡ n) = h.placed n (λ z. f (ko n ne ∙ z)) ne in
      (there.0, so there.0 there.1 ∙ there.2);
}
  where
    apart : (i : ℕ) → slot' i ≢ none → i ≢ hole
    apart i f = λ is. f (ap slot' is ∙ sp)

    was : (i : ℕ) → slot' i ≢ none → slot i ≢ none
    was i f = λ z. f (so i (apart i f) ∙ z)

    same : (i : ℕ) → slot' i ≢ none → key' (slot' i) ≡ key (slot i)
    same i f = ap key' (so i (apart i f)) ∙ ko (slot i) (h.away i (apart i f))

    shut : (i : ℕ) → slot' i ≢ none
        → distance_of size (home (key (slot i))) hole ≤ distance_of size (home (key (slot i))) i → ⊥
    shut i f near =
        let start : home (key (slot i)) < size = slots (key (slot i)) in
        let low : i < size = within i (was i f) in
        let way : distance_of size (home (key (slot i))) i
        ≡ distance_of size (home (key (slot i))) hole + distance_of size hole i =
        by_way size (home (key (slot i))) hole i start h.passed.from low near in
        elim (cases_lt (distance_of size hole i) (distance_of size hole place)) [
          | inl lt ↦ omega (arith, way, (h.passed.all i low lt).1 (apart i f))
          | inr le ↦ h.no_gap i place (was i f) h.passed.low (omega (
            arith,
            way,
            by_way size hole place i h.passed.from h.passed.low low le,
            by_way' size (home (key (slot i))) place i start h.passed.low low (omega (
              arith,
              way,
              by_way size hole place i h.passed.from h.passed.low low le,
            )),
          )) empty
        ]

-- what the loop knows, and what it leaves
pub record IsClosing (keys slots : List ℕ) (gone start hole place : ℕ) : Type 0 where
  pub size : length slots ≡ 2 * length keys + 1
  pub count : count_by is_full slots ≡ count_by is_full keys
  pub passed : IsPassed (length slots) (IsFull slots) start place
  pub holed : IsHoled (length slots) (home_of (length keys)) (at keys) (at slots) gone hole place

pub closing_first : (keys slots : List ℕ) (start : ℕ) → IsTable keys slots → at slots start ≢ none
    → IsClosing keys slots (at slots start) start start (next_of (length slots) start)
closing_first keys slots start t full = record {
  size = t.size;
  count = t.count;
  passed = passed_next (length slots) (IsFull slots) start start
      (passed_first (length slots) (IsFull slots) start (within slots start full)) full
      (not_all keys slots t.size t.count);
  holed = holed_first (length slots) (home_of (length keys)) (at keys) (at slots) start t.laid (within slots start full) full
      (not_all keys slots t.size t.count);
}

pub closing_keep : (keys slots : List ℕ) (gone start hole place : ℕ) → IsClosing keys slots gone start hole place
    → at slots place ≢ none
    → distance_of (length slots) (home_of (length keys) (at keys (at slots place))) place
    < distance_of (length slots) hole place → IsClosing keys slots gone start hole (next_of (length slots) place)
closing_keep keys slots gone start hole place h full stays = record {
  size = h.size;
  count = h.count;
  passed = passed_next (length slots) (IsFull slots) start place h.passed full (not_all keys slots h.size h.count);
  holed = holed_keep (length slots) (home_of (length keys)) (at keys) (at slots) gone hole place h.holed full stays
      (not_all keys slots h.size h.count);
}

pub closing_move : (keys slots : List ℕ) (gone start hole place : ℕ) → IsClosing keys slots gone start hole place
    → at slots place ≢ none
    → distance_of (length slots) hole place
    ≤ distance_of (length slots) (home_of (length keys) (at keys (at slots place))) place
    → IsClosing keys (set slots hole (at slots place)) gone start place (next_of (length slots) place)
closing_move keys slots gone start hole place h full moves = record {
  size = omega (arith, h.size, length-set slots hole (at slots place));
  count = count_same slots hole (at slots place) h.holed.passed.from
      (hole_full (length slots) (home_of (length keys)) (at keys) (at slots) gone hole place h.holed) full ∙ h.count;
  passed = rw (length-set slots hole (at slots place))
      (passed_as (length slots) (IsFull slots) (IsFull (set slots hole (at slots place))) start
      (next_of (length slots) place)
      (λ j lj f. elim (cases_eq j hole) [
        | inl is ↦ λ z. full (sym (ap (at (set slots hole (at slots place))) is
            ∙ get_or-set_same slots hole (at slots place) none h.holed.passed.from) ∙ z)
        | inr ne ↦ λ z. f (sym (get_or-set_other slots hole j (at slots place) none ne) ∙ z)
      ])
      (passed_next (length slots) (IsFull slots) start place h.passed full (not_all keys slots h.size h.count)));
  holed = rw (length-set slots hole (at slots place))
      (holed_move (length slots) (home_of (length keys)) (at keys) (at slots) (at (set slots hole (at slots place))) gone hole
      place h.holed (λ k. home_slot keys slots k h.size) full moves (not_all keys slots h.size h.count)
      (get_or-set_same slots hole (at slots place) none h.holed.passed.from)
      (λ i ne. get_or-set_other slots hole i (at slots place) none ne));
}

pub closing_last : (keys slots : List ℕ) (gone start hole place : ℕ) → IsClosing keys slots gone start hole place
    → length keys < none → at keys gone ≢ none → at slots place ≡ none
    → IsTable (set keys gone none) (set slots hole none)
closing_last keys slots gone start hole place h fits used empty =
    let there : gone < length keys = within keys gone used in
    record {
      size = omega (arith, h.size, length-set slots hole none, length-set keys gone none);
      fits = omega (arith, fits, length-set keys gone none);
      count = omega (
        arith,
        h.count,
        count_fewer slots hole h.holed.passed.from
            (hole_full (length slots) (home_of (length keys)) (at keys) (at slots) gone hole place h.holed),
        count_fewer keys gone there used,
      );
      laid = rw (length-set slots hole none, length-set keys gone none)
          (holed_last (length slots) (home_of (length keys)) (at keys) (at slots) (at (set keys gone none))
          (at (set slots hole none)) gone hole place h.holed (λ k. home_slot keys slots k h.size) (within slots) empty
          (get_or-set_same slots hole none none h.holed.passed.from)
          (λ i ne. get_or-set_other slots hole i none none ne)
          (get_or-set_same keys gone none none there) (λ n ne. get_or-set_other keys gone n none none ne));
    }

-- the steps, as the code takes them
pub closing_kept : (keys slots slots' : List ℕ) (gone start hole hole' place first from to : ℕ)
    → IsClosing keys slots gone start hole place → get_or slots place 0 ≢ none
    → first ≡ home_of (length keys) (get_or keys (get_or slots place 0) 0) → from ≡ distance_of (length slots) hole place
    → to ≡ distance_of (length slots) first place → to < from → slots' ≡ slots → hole' ≡ hole
    → IsClosing keys slots' gone start hole' (next_of (length slots') place)
closing_kept keys slots slots' gone start hole hole' place first from to h full home fs ts stays ss hh =
    let read : IsRead keys slots place = read_key keys slots place h.holed.named h.passed.low full in
    let e : first ≡ home_of (length keys) (at keys (at slots place)) = home ∙ ap (home_of (length keys)) read.key in
    rw (ss, hh) (closing_keep keys slots gone start hole place h (read_full slots place h.passed.low full)
    (omega (arith, fs, ts, ap (λ (m : ℕ). distance_of (length slots) m place) e, stays)))

pub closing_moved : (keys slots slots' : List ℕ) (gone start hole hole' place first from to : ℕ)
    → IsClosing keys slots gone start hole place → get_or slots place 0 ≢ none
    → first ≡ home_of (length keys) (get_or keys (get_or slots place 0) 0) → from ≡ distance_of (length slots) hole place
    → to ≡ distance_of (length slots) first place → from ≤ to → slots' ≡ set slots hole (get_or slots place 0)
    → hole' ≡ place → IsClosing keys slots' gone start hole' (next_of (length slots') place)
closing_moved keys slots slots' gone start hole hole' place first from to h full home fs ts moves ss hh =
    let read : IsRead keys slots place = read_key keys slots place h.holed.named h.passed.low full in
    let e : first ≡ home_of (length keys) (at keys (at slots place)) = home ∙ ap (home_of (length keys)) read.key in
    let s : slots' ≡ set slots hole (at slots place) = ss ∙ ap (set slots hole) (read_slot slots place h.passed.low) in
    rw (s, hh, length-set slots hole (at slots place))
    (closing_move keys slots gone start hole place h (read_full slots place h.passed.low full)
    (omega (arith, fs, ts, ap (λ (m : ℕ). distance_of (length slots) m place) e, moves)))

-- ---- a table without a key

pub at_blank : (n i : ℕ) → at (replicate n none) i ≡ none
at_blank n i = elim (cases_lt i n) [
  | inl lt ↦ get_or-replicate n i none none lt
  | inr le ↦ get_or_past (replicate n none) i none (omega (arith, length-replicate n none))
]
