-- Lists that differ in one place.
use Rattle.std.proofs.Common.{◌≡◌, ℕ, zero, suc, ◌+◌, ◌<◌, ◌≤◌, Bool, true, false, cond, ◌&&◌, Some, None, List, []}
use Rattle.std.proofs.Common.{◌∷◌, ◌++◌, length, get_or, take, drop, refl, sym, ap, ◌∙◌, arith, add-one, one-add}
use Rattle.std.proofs.lemmas.List.{take_all, drop_all}
use Rattle.std.proofs.lemmas.Bool.Decides.{nat_tests}
use Rattle.std.specs.Prelude.{position, nat_lt, if◌then◌else◌, not}
use Rattle.std.specs.List.{position_or_len, prefix_len}
use Rattle.std.specs.Cmp.Lexicographic.{pointwise}
use Rattle.pp_cert.specs.declared.note.Entry.{Entry}
use Rattle.pp_cert.specs.declared.note.Held.{Held}
use Rattle.pp_cert.specs.Slots.{slot_insert}
use Rattle.pp_cert.specs.Notes.{Entries, entry_slot, is_slot, entry_as, noted_as, same_entry, same_note}

and_assoc : (a b c : Bool) → ((a && b) && c) ≡ (a && (b && c))
and_assoc true b c = refl
and_assoc false b c = refl

and_false : (a : Bool) → (a && false) ≡ false
and_false true = refl
and_false false = refl

-- comparing with a joined list is comparing with its parts
pub pointwise-append : {A : Type 0} (same : A → A → Bool) (xs ys zs : List A)
    → pointwise same xs (ys ++ zs)
    ≡ (pointwise same (take (length ys) xs) ys && pointwise same (drop (length ys) xs) zs)
pointwise-append same [] [] zs = refl
pointwise-append same [] (y ∷ ys) zs = refl
pointwise-append same (x ∷ xs) [] zs = refl
pointwise-append same (x ∷ xs) (y ∷ ys) zs =
    ap (λ b. same x y && b) (pointwise-append same xs ys zs)
    ∙ sym (and_assoc (same x y) (pointwise same (take (length ys) xs) ys) (pointwise same (drop (length ys) xs) zs))

-- a list that is shorter than the first part isn't the joined list
pointwise-short : {A : Type 0} (same : A → A → Bool) (xs ys zs : List A) → length xs < length ys
    → pointwise same xs (ys ++ zs) ≡ false
pointwise-short same xs [] zs h = absurd (omega (arith, h))
pointwise-short same [] (y ∷ ys) zs h = refl
pointwise-short same (x ∷ xs) (y ∷ ys) zs h =
    rw (pointwise-short same xs ys zs (omega (arith, h))) (and_false (same x y))

pub joined : (whole front middle back : Entries)
    → same_note whole (front ++ (middle ++ back))
    ≡ (same_note (take (length front) whole) front && same_note (take (length middle) (drop (length front) whole))
    middle && same_note (drop (length middle) (drop (length front) whole)) back)
joined whole front middle back =
    rw (
      pointwise-append same_entry whole front (middle ++ back),
      pointwise-append same_entry (drop (length front) whole) middle back,
    )
    (sym (and_assoc (same_note (take (length front) whole) front)
    (same_note (take (length middle) (drop (length front) whole)) middle)
    (same_note (drop (length middle) (drop (length front) whole)) back)))

pub front_short : (whole front back : Entries) → length whole < length front → same_note whole (front ++ back) ≡ false
front_short whole front back h = pointwise-short same_entry whole front back h

pub middle_short : (whole front middle back : Entries) → length (drop (length front) whole) < length middle
    → same_note whole (front ++ (middle ++ back)) ≡ false
middle_short whole front middle back h =
    rw (
      pointwise-append same_entry whole front (middle ++ back),
      pointwise-short same_entry (drop (length front) whole) middle back h,
    )
    (and_false (same_note (take (length front) whole) front))

pub ruleset joins = (joined, front_short, middle_short)

take-next : {A : Type 0} (n : ℕ) (y : A) (ys : List A) → take (1 + n) (y ∷ ys) ≡ y ∷ take n ys
take-next n y ys = rw one-add refl

drop-next : {A : Type 0} (n : ℕ) (y : A) (ys : List A) → drop (1 + n) (y ∷ ys) ≡ drop n ys
drop-next n y ys = rw one-add refl

get_or-next : {A : Type 0} (n : ℕ) (y : A) (ys : List A) (d : A) → get_or (y ∷ ys) (1 + n) d ≡ get_or ys n d
get_or-next n y ys d = rw one-add refl

drop_one : {A : Type 0} (n : ℕ) (ys : List A) → drop 1 (drop n ys) ≡ drop (n + 1) ys
drop_one zero ys = refl
drop_one (suc n) [] = rw add-one refl
drop_one (suc n) (y ∷ ys) = rw add-one (drop_one n ys ∙ rw add-one refl)

-- an element is put before the first of a greater slot
pub slot_insert_splits : {A : Type 0} (slot_of : A → ℕ) (x : A) (ys : List A)
    → slot_insert slot_of x ys ≡ take (position_or_len (λ y. nat_lt (slot_of x) (slot_of y)) ys) ys
    ++ (x ∷ drop (position_or_len (λ y. nat_lt (slot_of x) (slot_of y)) ys) ys)
slot_insert_splits slot_of x [] = refl
slot_insert_splits {A = A} slot_of x (y ∷ ys) =
    let n : ℕ = position_or_len (λ z. nat_lt (slot_of x) (slot_of z)) ys in
    elim (nat_lt (slot_of x) (slot_of y)) as (λ b. (if b then x ∷ y ∷ ys else y ∷ slot_insert slot_of x ys)
    ≡ take (cond (not b) (1 + n) 0) (y ∷ ys) ++ (x ∷ drop (cond (not b) (1 + n) 0) (y ∷ ys))) [
      | true ↦ refl
      | false ↦ rw (take-next n y ys, drop-next n y ys) (ap (λ zs. y ∷ zs) (slot_insert_splits slot_of x ys))
    ]

-- the first page of the slot is held so
noted_as_splits : (held : Held) (s : ℕ) (ys : Entries) (d : Entry) → position_or_len (is_slot s) ys < length ys
    → noted_as held s ys ≡ take (position_or_len (is_slot s) ys) ys
    ++ (entry_as held (get_or ys (position_or_len (is_slot s) ys) d) ∷ drop 1
    (drop (position_or_len (is_slot s) ys) ys))
noted_as_splits held s [] d = λ h. absurd (omega (arith, h))
noted_as_splits held s (y ∷ ys) d =
    let n : ℕ = position_or_len (is_slot s) ys in
    elim (is_slot s y) as (λ b. cond (not b) (1 + n) 0 < suc (length ys)
    → (if b then entry_as held y ∷ ys else y ∷ noted_as held s ys) ≡ take (cond (not b) (1 + n) 0) (y ∷ ys)
    ++ (entry_as held (get_or (y ∷ ys) (cond (not b) (1 + n) 0) d) ∷ drop 1
    (drop (cond (not b) (1 + n) 0) (y ∷ ys)))) [
      | true ↦ λ h. refl
      | false ↦ λ h. rw (take-next n y ys, drop-next n y ys, get_or-next n y ys d)
          (ap (λ zs. y ∷ zs) (noted_as_splits held s ys d (omega (arith, h))))
    ]

-- a page that isn't there isn't changed
noted_as_absent : (held : Held) (s : ℕ) (ys : Entries) → length ys ≤ position_or_len (is_slot s) ys
    → noted_as held s ys ≡ ys
noted_as_absent held s [] = λ h. refl
noted_as_absent held s (y ∷ ys) =
    let n : ℕ = position_or_len (is_slot s) ys in
    elim (is_slot s y) as (λ b. suc (length ys) ≤ cond (not b) (1 + n) 0
    → (if b then entry_as held y ∷ ys else y ∷ noted_as held s ys) ≡ y ∷ ys) [
      | true ↦ λ h. absurd (omega (arith, h))
      | false ↦ λ h. ap (λ zs. y ∷ zs) (noted_as_absent held s ys (omega (arith, h)))
    ]

prefix_len-le : {A : Type 0} (p : A → Bool) (ys : List A) → prefix_len p ys ≤ length ys
prefix_len-le p [] = omega arith
prefix_len-le p (y ∷ ys) =
    elim (p y) as (λ b. cond b (1 + prefix_len p ys) 0 ≤ suc (length ys))
    [ true ↦ omega (arith, prefix_len-le p ys) | false ↦ omega arith ]

-- ---- by the place that `position` gives

some_injective : {A : Type 0} (a b : A) → Some a ≡ Some b → a ≡ b
some_injective a b e = cc

at_some : (n m i : ℕ) → cond (nat_lt n m) (Some n) None ≡ Some i → (n ≡ i) × (i < m)
at_some n m i = elim (nat_lt n m) as (λ b. nat_lt n m ≡ b → cond b (Some n) None ≡ Some i → (n ≡ i) × (i < m)) [
  | true ↦ λ t e. let same : n ≡ i = some_injective n i e in (same, grind (arith, nat_tests))
  | false ↦ λ t e. absurd (cc)
] refl

at_none : (n m : ℕ) → cond (nat_lt n m) (Some n) None ≡ None → m ≤ n
at_none n m = elim (nat_lt n m) as (λ b. nat_lt n m ≡ b → cond b (Some n) None ≡ None → m ≤ n) [
  | true ↦ λ t e. absurd (cc)
  | false ↦ λ t e. grind (arith, nat_tests)
] refl

pub insert_within : (s : ℕ) (ys : Entries) (i : ℕ) → position (λ y. nat_lt s (entry_slot y)) ys ≡ Some i → i < length ys
insert_within s ys i h = (at_some (position_or_len (λ y. nat_lt s (entry_slot y)) ys) (length ys) i h).1

pub slot_within : (s : ℕ) (ys : Entries) (i : ℕ) → position (is_slot s) ys ≡ Some i → i < length ys
slot_within s ys i h = (at_some (position_or_len (is_slot s) ys) (length ys) i h).1

pub insert_at : (e : Entry) (s : ℕ) (ys : Entries) (i : ℕ) → s ≡ entry_slot e
    → position (λ y. nat_lt s (entry_slot y)) ys ≡ Some i → slot_insert entry_slot e ys ≡ take i ys ++ (e ∷ drop i ys)
insert_at e s ys i is h =
    let at = at_some (position_or_len (λ y. nat_lt s (entry_slot y)) ys) (length ys) i h in
    rw (slot_insert_splits entry_slot e ys, ← is, at.0) refl

pub insert_last : (e : Entry) (s : ℕ) (ys : Entries) → s ≡ entry_slot e
    → position (λ y. nat_lt s (entry_slot y)) ys ≡ None → slot_insert entry_slot e ys ≡ ys ++ (e ∷ [])
insert_last e s ys is h =
    let past = at_none (position_or_len (λ y. nat_lt s (entry_slot y)) ys) (length ys) h in
    rw (
      slot_insert_splits entry_slot e ys,
      ← is,
      take_all (position_or_len (λ y. nat_lt s (entry_slot y)) ys) ys past,
      drop_all (position_or_len (λ y. nat_lt s (entry_slot y)) ys) ys past,
    ) refl

pub update_at : (held : Held) (s : ℕ) (ys : Entries) (i : ℕ) (d : Entry) → position (is_slot s) ys ≡ Some i
    → noted_as held s ys ≡ take i ys ++ (entry_as held (get_or ys i d) ∷ drop (i + 1) ys)
update_at held s ys i d h =
    let n : ℕ = position_or_len (is_slot s) ys in
    let at : (n ≡ i) × (i < length ys) = at_some n (length ys) i h in
    let splits = noted_as_splits held s ys d (omega (arith, at.0, at.1)) in
    rw (splits, at.0) (ap (λ zs. take i ys ++ (entry_as held (get_or ys i d) ∷ zs)) (drop_one i ys))

pub update_absent : (held : Held) (s : ℕ) (ys : Entries) → position (is_slot s) ys ≡ None → noted_as held s ys ≡ ys
update_absent held s ys h =
    noted_as_absent held s ys (at_none (position_or_len (is_slot s) ys) (length ys) h)

pub ruleset updates = (update_at, update_absent)
