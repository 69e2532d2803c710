-- Lemmas on which pages are cached after a request, and on what never changes.
use Rattle.std.proofs.Common.{◌≡◌, ◌≢◌, ◌⊎◌, ℕ, ◌+◌, ◌*◌, ◌≤◌, Bool, true, false, cond, eqb, ltb, length, refl, arith}
use Rattle.std.proofs.Common.{sym, subst, ap, inl, inr, eq-eqb}
use Rattle.std.specs.Prelude.{Option, Some, None}
use Rattle.std.proofs.lemmas.Bool.{cases_Bool}
use Rattle.std.proofs.lemmas.Bool.Decides.{eqb_tells}
use Rattle.pp_arc.specs.declared.answer.Answer.{Answer}
use Rattle.pp_arc.specs.declared.answer.Answer.TheVariants.{Hit, Free, Evict, AllBusy}
use Rattle.pp_arc.specs.declared.list.List.{List as ListName}
use Rattle.pp_arc.specs.declared.list.List.TheVariants.{T1, T2, B1, B2}
use Rattle.pp_arc.specs.Pages.{contains, times_in}
use Rattle.pp_arc.specs.FourLists.{FourLists, recent_count, total_count, is_cached, place}
use Rattle.pp_arc.specs.Bounds.{IsWithinBounds}
use Rattle.pp_arc.specs.Figure.{forget, bring_back, with_front_of_t1, with_front_of_t2, with_remembered, replacement}
use Rattle.pp_arc.specs.Figure.{after_replace, replace, after_replace_in_t1, replace_in_t1, without_last_of_b1}
use Rattle.pp_arc.specs.Figure.{without_last_of_b2, room_for_new, cases, is_all_busy, request, raised_target}
use Rattle.pp_arc.specs.Figure.{lowered_target}
use Rattle.pp_arc.specs.Laws.{CachesInstead, CachesWithout, CachesAgain}
use Rattle.pp_arc.proofs.PageLemmas.{times_in-without_same, times_in-without_other, times_in-contains}
use Rattle.pp_arc.proofs.PageLemmas.{times_in-contains_not}
use Rattle.pp_arc.proofs.BoundLemmas.{from_t1, from_t2}
use Rattle.pp_arc.proofs.StepLemmas.{times_in-cached, times_in-not_cached}

-- how often a page stands in T1 and T2 together
abbrev pub times_cached : FourLists → ℕ → ℕ
times_cached s q = times_in s.t1 q + times_in s.t2 q

pub is_cached-times : (s : FourLists) (q : ℕ) → 1 ≤ times_cached s q → is_cached s q ≡ true
is_cached-times s q n =
    elim (cases_Bool (is_cached s q)) [ inl e ↦ e | inr e ↦ absurd (omega (arith, times_in-not_cached s q e)) ]

-- whether an answer names this page
evicts : (answer : Answer) (q : ℕ) → (answer ≡ Evict q) ⊎ (answer ≢ Evict q)
evicts Hit q = inr (λ e. cc)
evicts Free q = inr (λ e. cc)
evicts AllBusy q = inr (λ e. cc)
evicts (Evict v) q =
    elim (eqb_tells v q) [ inl t ↦ inl (ap Evict t.1) | inr t ↦ inr (λ e. t.1 (cc)) ]

-- the page of an answer has left the cache, and nothing else has
pub Leaves : FourLists → FourLists → Answer → Type 0
Leaves s t answer = (q : ℕ) → (answer ≡ Evict q → times_cached t q ≡ 0) ×
    (answer ≢ Evict q → times_cached t q ≡ times_cached s q)

-- a page was put into the cache, and nothing else was
pub Puts : FourLists → FourLists → ℕ → Type 0
Puts s t x = (q : ℕ) → (x ≡ q → 1 ≤ times_cached t q) × (x ≢ q → times_cached t q ≡ times_cached s q)

CachesInstead-puts : (s r t : FourLists) (x : ℕ) (answer : Answer) → Leaves s r answer → Puts r t x
    → CachesInstead s t x answer
unfolding Leaves Puts
CachesInstead-puts s r t x answer left put q = (forth, back)
  where
    forth : is_cached t q ≡ true → (q ≡ x) ⊎ ((is_cached s q ≡ true) × (answer ≢ Evict q))
    forth here =
        elim (eqb_tells x q) [
          | inl k ↦ inl (sym k.1)
          | inr k ↦ elim (evicts answer q) [
            | inl e ↦ absurd (omega (arith, times_in-cached t q here, (put q).1 k.1, (left q).0 e))
            | inr e ↦ inr (
              is_cached-times s q (omega (arith, times_in-cached t q here, (put q).1 k.1, (left q).1 e)),
              e,
            )
          ]
        ]

    back : (q ≡ x) ⊎ ((is_cached s q ≡ true) × (answer ≢ Evict q)) → is_cached t q ≡ true
    back (inl e) = is_cached-times t q ((put q).0 (sym e))
    back (inr k) =
        elim (eqb_tells x q) [
          | inl j ↦ is_cached-times t q ((put q).0 j.1)
          | inr j ↦ is_cached-times t q (omega (arith, times_in-cached s q k.0, (put q).1 j.1, (left q).1 k.1))
        ]

Puts-with_front_of_t2 : (s : FourLists) (x : ℕ) → Puts s (with_front_of_t2 s x) x
unfolding Puts
Puts-with_front_of_t2 s x q = (
  λ e. rw (eq-eqb x q e) (omega arith),
  λ ne. elim (eqb_tells x q) [
    | inl t ↦ absurd (ne t.1)
    | inr t ↦ rw t.0 (omega (arith, times_in-without_other s.t1 x q ne, times_in-without_other s.t2 x q ne))
  ],
)

Puts-with_front_of_t1 : (s : FourLists) (x : ℕ) → Puts s (with_front_of_t1 s x) x
unfolding Puts
Puts-with_front_of_t1 s x q = (
  λ e. rw (eq-eqb x q e) (omega arith),
  λ ne. elim (eqb_tells x q) [
    | inl t ↦ absurd (ne t.1)
    | inr t ↦ rw t.0 (omega arith)
  ],
)

-- who leaves the cache
Leaves-forget : (s : FourLists) (v : ℕ) → Leaves s (forget s v) (Evict v)
unfolding Leaves
Leaves-forget s v q = (
  λ e. let same : v ≡ q = cc in rw (← same) (omega (arith, times_in-without_same s.t1 v, times_in-without_same s.t2 v)),
  λ ne. let other : v ≢ q = λ same. ne (ap Evict same) in omega
      (arith, times_in-without_other s.t1 v q other, times_in-without_other s.t2 v q other),
)

Leaves-from_t1 : (s : FourLists) (v : ℕ) → times_in s.t2 v ≡ 0 → Leaves s (from_t1 s v) (Evict v)
unfolding Leaves
Leaves-from_t1 s v none q = (
  λ e. let same : v ≡ q = cc in rw (← same) (omega (arith, times_in-without_same s.t1 v, none)),
  λ ne. let other : v ≢ q = λ same. ne (ap Evict same) in omega (arith, times_in-without_other s.t1 v q other),
)

Leaves-from_t2 : (s : FourLists) (v : ℕ) → times_in s.t1 v ≡ 0 → Leaves s (from_t2 s v) (Evict v)
unfolding Leaves
Leaves-from_t2 s v none q = (
  λ e. let same : v ≡ q = cc in rw (← same) (omega (arith, times_in-without_same s.t2 v, none)),
  λ ne. let other : v ≢ q = λ same. ne (ap Evict same) in omega (arith, times_in-without_other s.t2 v q other),
)

Leaves-with_remembered : (s : FourLists) (v : ℕ) → times_cached s v ≤ 1 → Leaves s (with_remembered s v) (Evict v)
Leaves-with_remembered s v once = go (contains s.t1 v) refl
  where
    go : (b : Bool) → contains s.t1 v ≡ b → Leaves s (cond b (from_t1 s v) (from_t2 s v)) (Evict v)
    go true e = Leaves-from_t1 s v (omega (arith, times_in-contains s.t1 v e))
    go false e = Leaves-from_t2 s v (times_in-contains_not s.t1 v e)

nobody_leaves : (s : FourLists) (answer : Answer) → ((v : ℕ) → answer ≢ Evict v) → Leaves s s answer
unfolding Leaves
nobody_leaves s answer none q = (λ e. absurd (none q e), λ ne. refl)

Leaves-after_replace : (s : FourLists) (answer : Answer) → ((q : ℕ) → times_cached s q ≤ 1)
    → Leaves s (after_replace s answer) answer
Leaves-after_replace s Hit once = nobody_leaves s Hit (λ v e. cc)
Leaves-after_replace s Free once = nobody_leaves s Free (λ v e. cc)
Leaves-after_replace s AllBusy once = nobody_leaves s AllBusy (λ v e. cc)
Leaves-after_replace s (Evict v) once = Leaves-with_remembered s v (once v)

Leaves-after_replace_in_t1 : (s : FourLists) (answer : Answer) → Leaves s (after_replace_in_t1 s answer) answer
Leaves-after_replace_in_t1 s Hit = nobody_leaves s Hit (λ v e. cc)
Leaves-after_replace_in_t1 s Free = nobody_leaves s Free (λ v e. cc)
Leaves-after_replace_in_t1 s AllBusy = nobody_leaves s AllBusy (λ v e. cc)
Leaves-after_replace_in_t1 s (Evict v) = Leaves-forget s v

Leaves-room_for_new : (s : FourLists) (busy : ℕ → Bool) → ((q : ℕ) → times_cached s q ≤ 1)
    → Leaves s (room_for_new s busy).1 (room_for_new s busy).0
unfolding Leaves
Leaves-room_for_new s busy once = go (eqb (recent_count s) s.c) (ltb (length s.t1) s.c) (eqb (total_count s) (2 * s.c))
  where
    go : (a b d : Bool) →
        let room = cond a (cond b (replace (without_last_of_b1 s) false busy) (replace_in_t1 s busy))
        (replace (cond d (without_last_of_b2 s) s) false busy) in
        Leaves s room.1 room.0
    go true true d = Leaves-after_replace (without_last_of_b1 s) (replacement (without_last_of_b1 s) false busy) once
    go true false d = Leaves-after_replace_in_t1 s (replace_in_t1 s busy).0
    go false b true = Leaves-after_replace (without_last_of_b2 s) (replacement (without_last_of_b2 s) false busy) once
    go false b false = Leaves-after_replace s (replacement s false busy) once

CachesInstead-cases : (list : Option ListName) (s : FourLists) (x : ℕ) (busy : ℕ → Bool)
    → ((q : ℕ) → times_cached s q ≤ 1) → CachesInstead s (cases list s x busy).1 x (cases list s x busy).0
unfolding Leaves
CachesInstead-cases (Some T1) s x busy once = CachesInstead-puts s s (with_front_of_t2 s x) x Hit
    (nobody_leaves s Hit (λ v e. cc)) (Puts-with_front_of_t2 s x)
CachesInstead-cases (Some T2) s x busy once = CachesInstead-puts s s (with_front_of_t2 s x) x Hit
    (nobody_leaves s Hit (λ v e. cc)) (Puts-with_front_of_t2 s x)
CachesInstead-cases (Some B1) s x busy once =
    let t : FourLists = record s { target = raised_target s } in
    let answer : Answer = replacement t false busy in
    CachesInstead-puts s (after_replace t answer) (with_front_of_t2 (after_replace t answer) x) x answer
    (Leaves-after_replace t answer once) (Puts-with_front_of_t2 (after_replace t answer) x)
CachesInstead-cases (Some B2) s x busy once =
    let t : FourLists = record s { target = lowered_target s } in
    let answer : Answer = replacement t true busy in
    CachesInstead-puts s (after_replace t answer) (with_front_of_t2 (after_replace t answer) x) x answer
    (Leaves-after_replace t answer once) (Puts-with_front_of_t2 (after_replace t answer) x)
CachesInstead-cases None s x busy once =
    let room : Answer × FourLists = room_for_new s busy in
    CachesInstead-puts s room.1 (with_front_of_t1 room.1 x) x room.0 (Leaves-room_for_new s busy once)
    (Puts-with_front_of_t1 room.1 x)

not_all_busy : (answer : Answer) → answer ≢ AllBusy → is_all_busy answer ≡ false
not_all_busy Hit ne = refl
not_all_busy Free ne = refl
not_all_busy (Evict v) ne = refl
not_all_busy AllBusy ne = absurd (ne refl)

pub CachesInstead-request : (s : FourLists) (x : ℕ) (busy : ℕ → Bool) → IsWithinBounds s
    → (request s x busy).0 ≢ AllBusy → CachesInstead s (request s x busy).1 x (request s x busy).0
CachesInstead-request s x busy h ne =
    let P : Bool → Type 0 = λ b. CachesInstead s (cond b s (cases (place s x) s x busy).1) x
    (cases (place s x) s x busy).0 in
    subst P (sym (not_all_busy (cases (place s x) s x busy).0 ne))
    (CachesInstead-cases (place s x) s x busy (λ q. omega (arith, h.once q)))

-- the sizes that a directory is made with never change
abbrev pub SameSizes : FourLists → FourLists → Type 0
SameSizes s t = (t.c ≡ s.c) × (t.pages ≡ s.pages)

SameSizes-with_remembered : (s : FourLists) (v : ℕ) → SameSizes s (with_remembered s v)
SameSizes-with_remembered s v = go (contains s.t1 v)
  where
    go : (b : Bool) → SameSizes s (cond b (from_t1 s v) (from_t2 s v))
    go true = (refl, refl)
    go false = (refl, refl)

SameSizes-after_replace : (s : FourLists) (answer : Answer) → SameSizes s (after_replace s answer)
SameSizes-after_replace s Hit = (refl, refl)
SameSizes-after_replace s Free = (refl, refl)
SameSizes-after_replace s AllBusy = (refl, refl)
SameSizes-after_replace s (Evict v) = SameSizes-with_remembered s v

SameSizes-after_replace_in_t1 : (s : FourLists) (answer : Answer) → SameSizes s (after_replace_in_t1 s answer)
SameSizes-after_replace_in_t1 s Hit = (refl, refl)
SameSizes-after_replace_in_t1 s Free = (refl, refl)
SameSizes-after_replace_in_t1 s AllBusy = (refl, refl)
SameSizes-after_replace_in_t1 s (Evict v) = (refl, refl)

SameSizes-room_for_new : (s : FourLists) (busy : ℕ → Bool) → SameSizes s (room_for_new s busy).1
SameSizes-room_for_new s busy = go (eqb (recent_count s) s.c) (ltb (length s.t1) s.c) (eqb (total_count s) (2 * s.c))
  where
    go : (a b d : Bool) → SameSizes s (cond a (cond b (replace (without_last_of_b1 s) false busy)
        (replace_in_t1 s busy)) (replace (cond d (without_last_of_b2 s) s) false busy)).1
    go true true d = SameSizes-after_replace (without_last_of_b1 s) (replacement (without_last_of_b1 s) false busy)
    go true false d = SameSizes-after_replace_in_t1 s (replace_in_t1 s busy).0
    go false b true = SameSizes-after_replace (without_last_of_b2 s) (replacement (without_last_of_b2 s) false busy)
    go false b false = SameSizes-after_replace s (replacement s false busy)

SameSizes-cases : (list : Option ListName) (s : FourLists) (x : ℕ) (busy : ℕ → Bool)
    → SameSizes s (cases list s x busy).1
SameSizes-cases (Some T1) s x busy = (refl, refl)
SameSizes-cases (Some T2) s x busy = (refl, refl)
SameSizes-cases (Some B1) s x busy = SameSizes-after_replace (record s { target = raised_target s })
    (replacement (record s { target = raised_target s }) false busy)
SameSizes-cases (Some B2) s x busy = SameSizes-after_replace (record s { target = lowered_target s })
    (replacement (record s { target = lowered_target s }) true busy)
SameSizes-cases None s x busy = SameSizes-room_for_new s busy

pub SameSizes-request : (s : FourLists) (x : ℕ) (busy : ℕ → Bool) → SameSizes s (request s x busy).1
SameSizes-request s x busy = go (is_all_busy (cases (place s x) s x busy).0)
  where
    go : (b : Bool) → SameSizes s (cond b s (cases (place s x) s x busy).1)
    go true = (refl, refl)
    go false = SameSizes-cases (place s x) s x busy

-- what is cached once a page was forgotten
pub CachesWithout-forget : (s : FourLists) (x : ℕ) → CachesWithout s (forget s x) x
unfolding Leaves
CachesWithout-forget s x q = (forth, back)
  where
    forth : is_cached (forget s x) q ≡ true → (is_cached s q ≡ true) × (q ≢ x)
    forth here =
        elim (eqb_tells x q) [
          | inl t ↦ absurd (omega (arith, times_in-cached (forget s x) q here, (Leaves-forget s x q).0 (ap Evict t.1)))
          | inr t ↦
              let other : Evict x ≢ Evict q = λ e. t.1 (cc) in (
                is_cached-times s q (omega (arith, times_in-cached (forget s x) q here, (Leaves-forget s x q).1 other)),
                λ e. t.1 (sym e),
              )
        ]

    back : (is_cached s q ≡ true) × (q ≢ x) → is_cached (forget s x) q ≡ true
    back k =
        let other : Evict x ≢ Evict q = λ e. k.1 (cc) in
        is_cached-times (forget s x) q (omega (arith, times_in-cached s q k.0, (Leaves-forget s x q).1 other))

-- what is cached once a victim was brought back
pub CachesAgain-bring_back : (s : FourLists) (x v : ℕ) → CachesAgain s (bring_back s x v) x v
CachesAgain-bring_back s x v q = (forth, back)
  where
    instead : CachesInstead s (bring_back s x v) v (Evict x)
    instead = CachesInstead-puts s (forget s x) (bring_back s x v) v (Evict x) (Leaves-forget s x)
        (Puts-with_front_of_t2 (forget s x) v)

    forth : is_cached (bring_back s x v) q ≡ true → (q ≡ v) ⊎ ((is_cached s q ≡ true) × (q ≢ x))
    forth here = elim ((instead q).0 here) [ inl e ↦ inl e | inr k ↦ inr (k.0, λ e. k.1 (ap Evict (sym e))) ]

    back : (q ≡ v) ⊎ ((is_cached s q ≡ true) × (q ≢ x)) → is_cached (bring_back s x v) q ≡ true
    back (inl e) = (instead q).1 (inl e)
    back (inr k) = let other : Evict x ≢ Evict q = λ e. k.1 (cc) in (instead q).1 (inr (k.0, other))

-- a page that is given up
CachesWithout-leaves : (s t : FourLists) (v : ℕ) → Leaves s t (Evict v) → CachesWithout s t v
unfolding Leaves
CachesWithout-leaves s t v left q = (forth, back)
  where
    forth : is_cached t q ≡ true → (is_cached s q ≡ true) × (q ≢ v)
    forth here = elim (evicts (Evict v) q) [
      | inl e ↦ absurd (omega (arith, times_in-cached t q here, (left q).0 e))
      | inr ne ↦ (
        is_cached-times s q (omega (arith, times_in-cached t q here, (left q).1 ne)),
        λ same. ne (ap Evict (sym same)),
      )
    ]

    back : (is_cached s q ≡ true) × (q ≢ v) → is_cached t q ≡ true
    back k = let other : Evict v ≢ Evict q = λ e. k.1 (cc) in
        is_cached-times t q (omega (arith, times_in-cached s q k.0, (left q).1 other))

pub CachesWithout-with_remembered : (s : FourLists) (v : ℕ) → IsWithinBounds s → CachesWithout s (with_remembered s v) v
CachesWithout-with_remembered s v h =
    CachesWithout-leaves s (with_remembered s v) v (Leaves-with_remembered s v (omega (arith, h.once v)))
