-- Lemmas on the names after a request: the page asked for is one, and one other is lost at most.
use Rattle.std.proofs.Common.{◌≡◌, ◌≢◌, ◌⊎◌, ℕ, ◌*◌, ◌+◌, ◌≤◌, Bool, true, false, cond, eqb, ltb, List, [], ◌∷◌, length, refl, arith}
use Rattle.std.proofs.Common.{sym, ◌∙◌, subst, ap, inl, inr, eq-eqb}
use Rattle.std.specs.Prelude.{Option, Some, None, is_some, is_none, ◌&&◌, IsTrue}
use Rattle.std.proofs.lemmas.Bool.{eqb-true, eqb-false, ltb-true, ltb-false}
use Rattle.std.proofs.lemmas.Bool.Decides.{eqb_tells}
use Rattle.pp_arc.specs.declared.answer.Answer.{Answer}
use Rattle.pp_arc.specs.declared.answer.Answer.TheVariants.{Hit, Free, Evict, AllBusy}
use Rattle.pp_arc.specs.declared.list.List.{List as ListName}
use Rattle.pp_arc.specs.declared.list.List.TheVariants.{T1, T2, B1, B2}
use Rattle.pp_arc.specs.Pages.{times_in, last_page, without_last}
use Rattle.pp_arc.specs.FourLists.{FourLists, recent_count, total_count, times_named, is_cached, place}
use Rattle.pp_arc.specs.Bounds.{IsWithinBounds}
use Rattle.pp_arc.specs.Figure.{forget, with_front_of_t1, with_front_of_t2, replacement, after_replace, replace}
use Rattle.pp_arc.specs.Figure.{after_replace_in_t1, replace_in_t1, without_last_of_b1, without_last_of_b2}
use Rattle.pp_arc.specs.Figure.{room_for_new, cases, is_all_busy, request, raised_target, lowered_target}
use Rattle.pp_arc.proofs.PageLemmas.{times_in-without_other}
use Rattle.pp_arc.proofs.BoundLemmas.{times_named-forget_same, bounds-without_last_of_b1, bounds-without_last_of_b2}
use Rattle.pp_arc.proofs.StepLemmas.{Demotes-with_remembered, StandsIn, StandsIn-place, place-times_named, bounds-at_target}
use Rattle.pp_arc.proofs.LawLemmas.{Answers-replacement}
use Rattle.pp_arc.proofs.SizeLemmas.{last-none, times_in-last, times_in-one}
use Rattle.pp_cache.specs.Names.{is_named, victim_of, lost_name, NamesInstead}

-- ---- a name stands in one of the lists

named-times : (s : FourLists) (q : ℕ) → 1 ≤ times_named s q → is_named s q ≡ true
named-times s q n = go (place s q) (StandsIn-place s q)
  where
    go : (list : Option ListName) → StandsIn list s q → is_some list ≡ true
    go (Some l) here = refl
    go None here = absurd (omega (arith, n, here.1))

times-named : (s : FourLists) (q : ℕ) → is_named s q ≡ true → 1 ≤ times_named s q
times-named s q here = elim (eqb_tells (times_named s q) 0) [
  | inl t ↦ let n : false ≡ true = sym (ap is_some (place-times_named s q t.1)) ∙ here in absurd (cc)
  | inr t ↦ omega (arith, t.1)
]

-- whether this is the name that was lost
loses : (lost : Option ℕ) (q : ℕ) → (lost ≡ Some q) ⊎ (lost ≢ Some q)
loses None q = inr (λ e. cc)
loses (Some v) q = elim (eqb_tells v q) [ inl t ↦ inl (ap Some t.1) | inr t ↦ inr (λ e. t.1 (cc)) ]

-- one name was lost, and nothing else has changed
pub Loses : FourLists → FourLists → Option ℕ → Type 0
Loses s t lost = (q : ℕ) → (lost ≡ Some q → times_named t q ≡ 0) × (lost ≢ Some q → times_named t q ≡ times_named s q)

-- a name has come, and nothing else has changed
pub Gains : FourLists → FourLists → ℕ → Type 0
Gains s t x = (q : ℕ) → (x ≡ q → 1 ≤ times_named t q) × (x ≢ q → times_named t q ≡ times_named s q)

instead : (s r t : FourLists) (x : ℕ) (lost : Option ℕ) → Loses s r lost → Gains r t x → NamesInstead s t x lost
unfolding Loses Gains
instead s r t x lost left put q = (forth, back)
  where
    forth : is_named t q ≡ true → (q ≡ x) ⊎ ((is_named s q ≡ true) × (lost ≢ Some q))
    forth here =
        elim (eqb_tells x q) [
          | inl k ↦ inl (sym k.1)
          | inr k ↦ elim (loses lost q) [
            | inl e ↦ absurd (omega (arith, times-named t q here, (put q).1 k.1, (left q).0 e))
            | inr e ↦ inr (named-times s q (omega (arith, times-named t q here, (put q).1 k.1, (left q).1 e)), e)
          ]
        ]

    back : (q ≡ x) ⊎ ((is_named s q ≡ true) × (lost ≢ Some q)) → is_named t q ≡ true
    back (inl e) = named-times t q ((put q).0 (sym e))
    back (inr k) =
        elim (eqb_tells x q) [
          | inl j ↦ named-times t q ((put q).0 j.1)
          | inr j ↦ named-times t q (omega (arith, times-named s q k.0, (put q).1 j.1, (left q).1 k.1))
        ]

-- the others are named as before where one is forgotten
times-forget_other : (s : FourLists) (x q : ℕ) → x ≢ q → times_named (forget s x) q ≡ times_named s q
times-forget_other s x q ne = omega (
  arith,
  times_in-without_other s.t1 x q ne,
  times_in-without_other s.t2 x q ne,
  times_in-without_other s.b1 x q ne,
  times_in-without_other s.b2 x q ne,
)

-- ---- a name comes

Gains-front_of_t2 : (s : FourLists) (x : ℕ) → Gains s (with_front_of_t2 s x) x
unfolding Gains
Gains-front_of_t2 s x q = (
  λ e. rw (eq-eqb x q e) (omega arith),
  λ ne. elim (eqb_tells x q) [
    | inl t ↦ absurd (ne t.1)
    | inr t ↦ rw t.0 (omega (arith, times-forget_other s x q ne))
  ],
)

Gains-front_of_t1 : (s : FourLists) (x : ℕ) → Gains s (with_front_of_t1 s x) x
unfolding Gains
Gains-front_of_t1 s x q = (
  λ e. rw (eq-eqb x q e) (omega arith),
  λ ne. elim (eqb_tells x q) [
    | inl t ↦ absurd (ne t.1)
    | inr t ↦ rw t.0 (omega arith)
  ],
)

-- ---- a name is lost

none_lost : (s t : FourLists) → ((q : ℕ) → times_named t q ≡ times_named s q) → Loses s t None
unfolding Loses
none_lost s t same q = (λ e. absurd (cc), λ ne. same q)

then_same : (s r t : FourLists) (lost : Option ℕ) → Loses s r lost
    → ((q : ℕ) → times_named t q ≡ times_named r q) → Loses s t lost
unfolding Loses
then_same s r t lost left same q = (λ e. same q ∙ (left q).0 e, λ ne. same q ∙ (left q).1 ne)

Loses-forget : (s : FourLists) (v : ℕ) → Loses s (forget s v) (Some v)
unfolding Loses
Loses-forget s v q = (
  λ e. let same : v ≡ q = cc in rw (← same) (times_named-forget_same s v),
  λ ne. times-forget_other s v q (λ same. ne (ap Some same)),
)

-- one name alone
times-other : (p q : ℕ) → p ≢ q → times_in (p ∷ []) q ≡ 0
times-other p q ne = elim (eqb_tells p q) [ inl t ↦ absurd (ne t.1) | inr t ↦ rw t.0 refl ]

-- the last of a list is lost, and the others are named as before
Loses-last : (s t : FourLists) (l : List ℕ) (others : ℕ → ℕ) → ((q : ℕ) → times_named s q ≤ 1)
    → ((q : ℕ) → times_named s q ≡ others q + times_in l q)
    → ((q : ℕ) → times_named t q ≡ others q + times_in (without_last l) q) → Loses s t (last_page l)
unfolding Loses
Loses-last s t l others once before now = go (last_page l) refl
  where
    go : (last : Option ℕ) → last_page l ≡ last → Loses s t last
    go None e q = (
      λ w. absurd (cc),
      λ ne. let same : without_last l ≡ l = rw (last-none l e) refl in
          now q ∙ ap (λ xs. others q + times_in xs q) same ∙ sym (before q),
    )
    go (Some p) e q = (
      λ w. let same : p ≡ q = cc in rw (← same)
          (omega (arith, before p, now p, times_in-last l p p e, times_in-one p, once p)),
      λ ne. let other : p ≢ q = λ same. ne (ap Some same) in
          omega (arith, before q, now q, times_in-last l p q e, times-other p q other),
    )

Loses-last_of_b1 : (s : FourLists) → IsWithinBounds s → Loses s (without_last_of_b1 s) (last_page s.b1)
Loses-last_of_b1 s h = Loses-last s (without_last_of_b1 s) s.b1
    (λ q. times_in s.t1 q + times_in s.t2 q + times_in s.b2 q) h.once (λ q. omega arith) (λ q. omega arith)

Loses-last_of_b2 : (s : FourLists) → IsWithinBounds s → Loses s (without_last_of_b2 s) (last_page s.b2)
Loses-last_of_b2 s h = Loses-last s (without_last_of_b2 s) s.b2
    (λ q. times_in s.t1 q + times_in s.t2 q + times_in s.b1 q) h.once (λ q. omega arith) (λ q. omega arith)

-- REPLACE remembers its victim, so no name is lost
times-after_replace : (s : FourLists) (answer : Answer) → IsWithinBounds s
    → ((v : ℕ) → answer ≡ Evict v → IsTrue (is_cached s v))
    → (q : ℕ) → times_named (after_replace s answer) q ≡ times_named s q
times-after_replace s Hit h cached q = refl
times-after_replace s Free h cached q = refl
times-after_replace s AllBusy h cached q = refl
times-after_replace s (Evict v) h cached q = (Demotes-with_remembered s v h (cached v refl)).times q

times-replace : (s : FourLists) (in_b2 : Bool) (busy : ℕ → Bool) → IsWithinBounds s
    → (q : ℕ) → times_named (after_replace s (replacement s in_b2 busy)) q ≡ times_named s q
times-replace s in_b2 busy h = times-after_replace s (replacement s in_b2 busy) h
    (Answers-replacement s in_b2 busy h.cached).cached

-- where T1 is all of the cache, its victim is remembered nowhere
Loses-replace_in_t1 : (s : FourLists) (answer : Answer) → Loses s (after_replace_in_t1 s answer) (victim_of answer)
Loses-replace_in_t1 s Hit = none_lost s s (λ q. refl)
Loses-replace_in_t1 s Free = none_lost s s (λ q. refl)
Loses-replace_in_t1 s AllBusy = none_lost s s (λ q. refl)
Loses-replace_in_t1 s (Evict v) = Loses-forget s v

-- ---- the cases of the figure

-- what is lost where the page stands in this list
abbrev lost_of : Option ListName → FourLists → Answer → Option ℕ
lost_of list s answer =
    cond (is_none list && eqb (length s.t1) s.c) (victim_of answer)
    (cond (is_none list) (cond (eqb (recent_count s) s.c) (last_page s.b1)
    (cond (eqb (total_count s) (2 * s.c)) (last_page s.b2) None)) None)

-- what is lost for a page that stands in no list, by what the tests say
abbrev lost_new : FourLists → Answer → Bool → Bool → Bool → Option ℕ
lost_new s answer is_all a d = cond is_all (victim_of answer) (cond a (last_page s.b1) (cond d (last_page s.b2) None))

abbrev room : FourLists → (ℕ → Bool) → Bool → Bool → Bool → Answer × FourLists
room s busy a b d =
    cond a (cond b (replace (without_last_of_b1 s) false busy) (replace_in_t1 s busy))
    (replace (cond d (without_last_of_b2 s) s) false busy)

Loses-room : (s : FourLists) (busy : ℕ → Bool) → IsWithinBounds s
    → Loses s (room_for_new s busy).1 (lost_of None s (room_for_new s busy).0)
Loses-room s busy h =
    go (eqb (length s.t1) s.c) (eqb (recent_count s) s.c) (ltb (length s.t1) s.c) (eqb (total_count s) (2 * s.c))
    refl refl refl
  where
    go : (is_all a b d : Bool) → eqb (length s.t1) s.c ≡ is_all → eqb (recent_count s) s.c ≡ a
        → ltb (length s.t1) s.c ≡ b
        → Loses s (room s busy a b d).1 (lost_new s (room s busy a b d).0 is_all a d)
    go true true true d ei ea eb = absurd (omega (arith, eqb-true (length s.t1) s.c ei, ltb-true (length s.t1) s.c eb))
    go true true false d ei ea eb = Loses-replace_in_t1 s (replace_in_t1 s busy).0
    go true false b d ei ea eb =
        let other : recent_count s ≢ s.c = eqb-false (recent_count s) s.c ea in
        absurd (omega (arith, other, eqb-true (length s.t1) s.c ei, h.recent))
    go false true true d ei ea eb =
        let m : FourLists = without_last_of_b1 s in
        then_same s m (after_replace m (replacement m false busy)) (last_page s.b1) (Loses-last_of_b1 s h)
        (times-replace m false busy (bounds-without_last_of_b1 s h))
    go false true false d ei ea eb =
        let other : length s.t1 ≢ s.c = eqb-false (length s.t1) s.c ei in
        absurd (omega (arith, other, ltb-false (length s.t1) s.c eb, h.recent))
    go false false b true ei ea eb =
        let m : FourLists = without_last_of_b2 s in
        then_same s m (after_replace m (replacement m false busy)) (last_page s.b2) (Loses-last_of_b2 s h)
        (times-replace m false busy (bounds-without_last_of_b2 s h))
    go false false b false ei ea eb =
        none_lost s (after_replace s (replacement s false busy)) (times-replace s false busy h)

instead-cases : (list : Option ListName) (s : FourLists) (x : ℕ) (busy : ℕ → Bool) → IsWithinBounds s
    → NamesInstead s (cases list s x busy).1 x (lost_of list s (cases list s x busy).0)
instead-cases (Some T1) s x busy h = instead s s (with_front_of_t2 s x) x None (none_lost s s (λ q. refl))
    (Gains-front_of_t2 s x)
instead-cases (Some T2) s x busy h = instead s s (with_front_of_t2 s x) x None (none_lost s s (λ q. refl))
    (Gains-front_of_t2 s x)
instead-cases (Some B1) s x busy h =
    let t : FourLists = record s { target = raised_target s } in
    let r : FourLists = after_replace t (replacement t false busy) in
    instead s r (with_front_of_t2 r x) x None
    (none_lost s r (times-replace t false busy (bounds-at_target s (raised_target s) h (omega arith))))
    (Gains-front_of_t2 r x)
instead-cases (Some B2) s x busy h =
    let t : FourLists = record s { target = lowered_target s } in
    let r : FourLists = after_replace t (replacement t true busy) in
    instead s r (with_front_of_t2 r x) x None
    (none_lost s r (times-replace t true busy (bounds-at_target s (lowered_target s) h (omega (arith, h.aimed)))))
    (Gains-front_of_t2 r x)
instead-cases None s x busy h =
    let done : Answer × FourLists = room_for_new s busy in
    instead s done.1 (with_front_of_t1 done.1 x) x (lost_of None s done.0) (Loses-room s busy h)
    (Gains-front_of_t1 done.1 x)

not_all_busy : (answer : Answer) → answer ≢ AllBusy → is_all_busy answer ≡ false
not_all_busy Hit ne = refl
not_all_busy Free ne = refl
not_all_busy (Evict v) ne = refl
not_all_busy AllBusy ne = absurd (ne refl)

pub instead-request : (s : FourLists) (x : ℕ) (busy : ℕ → Bool) → IsWithinBounds s → (request s x busy).0 ≢ AllBusy
    → NamesInstead s (request s x busy).1 x (lost_name s x (request s x busy).0)
instead-request s x busy h ne =
    let P : Bool → Type 0 = λ b. NamesInstead s (cond b s (cases (place s x) s x busy).1) x
    (lost_of (place s x) s (cases (place s x) s x busy).0) in
    subst P (sym (not_all_busy (cases (place s x) s x busy).0 ne)) (instead-cases (place s x) s x busy h)
