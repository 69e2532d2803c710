-- A certificate that fails a test of what the plan does fails the test that what is made fails, where no run gathers more pages
-- than are counted.
use Rattle.std.proofs.Common.{◌≡◌, ℕ, zero, suc, ◌+◌, ◌*◌, ◌<◌, ◌≤◌, min, Bool, true, false, cond, Some, None, List, [], ◌∷◌}
use Rattle.std.proofs.Common.{◌++◌, length, refl, sym, ap, subst, ◌∙◌, arith, inl, inr}
use Rattle.std.specs.Prelude.{◌==◌, ◌&&◌, ◌||◌, ◌⊎◌, not, nat_lt, is_some, if◌then◌else◌, option_map, unwrap_or, slice_get}
use Rattle.std.specs.Prelude.{All}
use Rattle.std.specs.List.{list_all}
use Rattle.std.proofs.lemmas.List.{append_assoc}
use Rattle.std.proofs.lemmas.Bool.{and_parts, eqb-true, ltb-true, lt-ltb}
use Rattle.std.proofs.lemmas.Bool.Decides.{nat_tests}
use Rattle.pp_settings.specs.Layout.{Geometry}
use Rattle.pp_settings.specs.Limits.{most_slots}
use Rattle.pp_plan.specs.Tree.{Step, fix, unfix, latch, unlatch, gather, scatter, Statement, step, loop, choice}
use Rattle.pp_plan.specs.Tree.{Sequence, skip, andthen, Alternatives, none, either, scatters, statement_scatters}
use Rattle.pp_plan.specs.Tree.{step_scatters, branches_scatter}
use Rattle.pp_plan.specs.Rules.{IsStatement, IsSequence, AreAlternatives, uses_bundle}
use Rattle.pp_plan.specs.Terms.{Terms, IsPlan}
use Rattle.pp_cert.specs.declared.check_error.CheckError.{CheckError}
use Rattle.pp_cert.specs.declared.note.Entry.TheVariants.{Slot, Bundle}
use Rattle.pp_cert.specs.Limits.{most_counted}
use Rattle.pp_cert.specs.Held.{is_latched, is_latched_page}
use Rattle.pp_cert.specs.Notes.{Entries, entry_slot, entry_held, entry_at, noted_at, bundle_at, bound_at, plain_part, is_bundle}
use Rattle.pp_cert.specs.Notes.{entry_pins, same_note, is_in_form, entry_class, slot_class, is_above_latched, is_begun}
use Rattle.pp_cert.specs.Notes.{is_back, all_bundles, begins_turns, ends_as_begun}
use Rattle.pp_cert.specs.Longest.{sequence_longest}
use Rattle.pp_cert.specs.Walk.{Claims, note_at, Expectation, empty, same, expected_note, outcome, Test, same_settings}
use Rattle.pp_cert.specs.Walk.{there, as_expected, may_begin, within_peak, slot_unused, slot_fixed, slot_unlatched}
use Rattle.pp_cert.specs.Walk.{slot_latched, slot_in_order, bundle_gathered, loop_keeps, loop_grows, branch_agrees}
use Rattle.pp_cert.specs.Walk.{holds_nothing, no_more_notes, steps_allowed, steps_enough, peak_allowed, passes, fault_of}
use Rattle.pp_cert.specs.Walk.{first_fault, note_tests, turn_tests, step_tests, statement_tests, sequence_tests}
use Rattle.pp_cert.specs.Walk.{later_tests, tests, statement_end, sequence_end}
use Rattle.pp_cert.proofs.Slots.{same_number}
use Rattle.pp_cert.proofs.Faults.{past_first, in_first}
use Rattle.pp_cert.proofs.Passing.{first_passes, both_pass, note_passes, turn_passes, note_same, note_itself}
use Rattle.pp_cert.proofs.SlotKinds.{KeepsKinds, StatementKeeps, IsOfKinds, BranchesKeep, or_left, or_right}
use Rattle.pp_annotate.specs.Growth.{growth, rise, first_note, statement_gathers, sequence_gathers, branches_gather}
use Rattle.pp_annotate.specs.Made.{after_statement, after_sequence, statement_notes, sequence_notes, branches_notes}
use Rattle.pp_annotate.specs.Made.{made_notes, made}
use Rattle.pp_annotate.specs.Annotation.{counted_tests, IsBeforeLimits, first_failed, IsOfPlan, HasOwnBundles, IsWall}
use Rattle.pp_annotate.proofs.Alike.{alike}
use Rattle.pp_annotate.proofs.Forms.{Forms}
use Rattle.pp_annotate.proofs.Low.{Low}
use Rattle.pp_annotate.proofs.Bundles.{sequence_few, bundles_few, own_kinds}
use Rattle.pp_annotate.proofs.Stands.{Stand, stand_split, stand_itself, statement_places, sequence_places, is_at, ends_at}
use Rattle.pp_annotate.proofs.Begins.{begins, note_none, turn_none, all_from}
use Rattle.pp_annotate.proofs.Faults.{expected_is}
use Rattle.pp_annotate.proofs.Writable.{rises_forms}
use Rattle.pp_annotate.proofs.Exact.{statement_to, sequence_to, sequence_still, rise_scattered, plain_to, plain_rise}
use Rattle.pp_annotate.proofs.Exact.{first_made, statement_made, sequence_made, statement_walked, sequence_walked}
use Rattle.pp_annotate.proofs.Exact.{turn_room, statement_room, sequence_room}
use Rattle.pp_annotate.proofs.Beside.{Pages, entries_same, turn_pages, statement_pages, sequence_pages}

-- ---- numbers

same_is : (a b : ℕ) → a ≡ b → (a == b) ≡ true
same_is a b e = grind (arith, nat_tests)

counted_zero : (stop x y : ℕ) → x ≡ min y stop → y ≡ 0 → x ≡ 0
counted_zero stop x y e z = omega (arith, e, z)

zero_counted : (stop x y : ℕ) → 1 ≤ stop → x ≡ min y stop → x ≡ 0 → y ≡ 0
zero_counted stop x y some e z = omega (arith, some, e, z)

some_counted : (stop x y : ℕ) → 1 ≤ stop → x ≡ min y stop → nat_lt 0 y ≡ nat_lt 0 x
some_counted stop x y some e =
    elim (nat_lt 0 y) as (λ b. nat_lt 0 y ≡ b → b ≡ nat_lt 0 x) [
      | true ↦ λ h. sym (lt-ltb 0 x (omega (arith, some, e, ltb-true 0 y h)))
      | false ↦ λ h. sym (none_less x (counted_zero stop x y e (no_less y h)))
    ] refl
  where
    no_less : (y : ℕ) → nat_lt 0 y ≡ false → y ≡ 0
    no_less y h = grind (arith, nat_tests)

    none_less : (x : ℕ) → x ≡ 0 → nat_lt 0 x ≡ false
    none_less x h = ap (λ z. nat_lt 0 z) h

counted_back : (stop x y u v : ℕ) → x ≡ min u stop → y ≡ min v stop → u ≤ stop → v ≤ stop
    → x ≡ y → u ≡ v
counted_back stop x y u v a b l m e = omega (arith, a, b, l, m, e)

counted_same : (stop x y u v : ℕ) → x ≡ min u stop → y ≡ min v stop → u ≡ v → x ≡ y
counted_same stop x y u v a b e = omega (arith, a, b, e)

moved : (x y g h : ℕ) → x + g ≡ x + h → y + g ≡ y + h
moved x y g h e = omega (arith, e)

contrary : (a b : Bool) → (a ≡ true → b ≡ true) → b ≡ false → a ≡ false
contrary true b h e = absurd (let is = h refl in cc (is, e))
contrary false b h e = refl

-- ---- bundles, slot by slot

by_entries : (P : ℕ → Bool) (n : Entries) (s : ℕ) → all_bundles P n ≡ true → (P s ≡ true) ⊎ (bound_at n s ≡ 0)
by_entries P [] s h = inr refl
by_entries P (Slot t r i ∷ n) s h = by_entries P n s h
by_entries P (Bundle t k ∷ n) s h =
    let p = and_parts (P t) (all_bundles P n) h in
    elim (t == s) as (λ b. (t == s) ≡ b
    → (P s ≡ true) ⊎ (unwrap_or (option_map entry_pins (cond b (Some (Bundle t k)) (bundle_at n s))) 0 ≡ 0)) [
      | true ↦ λ e. inl (subst (λ x. P x ≡ true) (eqb-true t s e) p.0)
      | false ↦ λ e. by_entries P n s p.1
    ] refl

-- what is tested of the bundles of two notes holds of each slot
of_both : (P : ℕ → Bool) (m n : Entries) (s : ℕ) → all_bundles P m ≡ true → all_bundles P n ≡ true
    → (bound_at m s ≡ 0 → bound_at n s ≡ 0 → P s ≡ true) → P s ≡ true
of_both P m n s h k nothing =
    elim (by_entries P m s h) [
      | inl a ↦ a
      | inr a ↦ elim (by_entries P n s k) [ inl b ↦ b | inr b ↦ nothing a b ]
    ]

-- a bundle that a body scatters begins it with the bound before the loop
begins_same : (b : Sequence) (before first : Entries) (t : ℕ) → begins_turns (scatters b) before first ≡ true
    → scatters b t ≡ true → bound_at first t ≡ bound_at before t
begins_same b before first t h is =
    let P : ℕ → Bool = λ s. is_begun (scatters b s) (bound_at before s) (bound_at first s) in
    let p =
    and_parts (is_in_form first)
    (same_note (plain_part first) (plain_part before) && (all_bundles P before && all_bundles P first)) h in
    let q =
    and_parts (same_note (plain_part first) (plain_part before)) (all_bundles P before && all_bundles P first) p.1 in
    let r = and_parts (all_bundles P before) (all_bundles P first) q.1 in
    let at : P t ≡ true = of_both P before first t r.0 r.1 (λ a c.
    (λ i. is_begun (is i) (bound_at before t) (bound_at first t)) ∙ same_is (bound_at first t) (bound_at before t) (c ∙ sym a)) in
    eqb-true (bound_at first t) (bound_at before t) ((λ i. is_begun (sym is i) (bound_at before t) (bound_at first t)) ∙ at)

-- one note begins and another ends a body as two others do
ends_same : (b : Sequence) (n m u v : Entries) → plain_part n ≡ plain_part u → plain_part m ≡ plain_part v
    → ((t : ℕ) → scatters b t ≡ true → bound_at m t ≡ bound_at n t → bound_at v t ≡ bound_at u t)
    → ends_as_begun (scatters b) n m ≡ true → ends_as_begun (scatters b) u v ≡ true
ends_same b n m u v p q w h =
    let Q : ℕ → Bool = λ s. is_back (scatters b s) (bound_at n s) (bound_at m s) in
    let R : ℕ → Bool = λ s. is_back (scatters b s) (bound_at u s) (bound_at v s) in
    let x = and_parts (same_note (plain_part m) (plain_part n)) (all_bundles Q n && all_bundles Q m) h in
    let y = and_parts (all_bundles Q n) (all_bundles Q m) x.1 in
    let each : (t : ℕ) → R t ≡ true = λ t.
    elim (scatters b t) as (λ s. scatters b t ≡ s → is_back s (bound_at u t) (bound_at v t) ≡ true) [
      | true ↦ λ e.
          let at : Q t ≡ true = of_both Q n m t y.0 y.1 (λ a c.
          (λ i. is_back (e i) (bound_at n t) (bound_at m t)) ∙ same_is (bound_at m t) (bound_at n t) (c ∙ sym a)) in
          let is : bound_at m t ≡ bound_at n t =
          eqb-true (bound_at m t) (bound_at n t) ((λ i. is_back (sym e i) (bound_at n t) (bound_at m t)) ∙ at) in
          same_is (bound_at v t) (bound_at u t) (w t e is)
      | false ↦ λ e. refl
    ] refl in
    let pages : same_note (plain_part v) (plain_part u) ≡ true =
    (λ i. same_note (sym q i) (sym p i)) ∙ x.0 in
    let here : all_bundles R u ≡ true = all_from R u each in
    let there_ : all_bundles R v ≡ true = all_from R v each in
    (λ i. pages i && (here i && there_ i))

-- two notes are the same where two others are
notes_same : (kind : ℕ → Bool) (n m u v : Entries) → Forms kind 0 u → Forms kind 0 v → plain_part n ≡ plain_part u
    → plain_part m ≡ plain_part v → ((t : ℕ) → bound_at n t ≡ bound_at m t → bound_at u t ≡ bound_at v t)
    → same_note n m ≡ true → same_note u v ≡ true
notes_same kind n m u v f k p q w h =
    let e = note_same n m h in
    let is : u ≡ v = alike kind 0 u v f k (sym p ∙ ap plain_part e ∙ q) (λ t. w t (ap (λ x. bound_at x t) e)) in
    ap (λ x. same_note x v) is ∙ note_itself v

-- ---- what is latched, by the pages alone

all_part : (g : Geometry) (w : ℕ) (n : Entries)
    → list_all (λ e. not (is_latched (entry_held e)) || nat_lt (entry_class g e) w) n
    ≡ list_all (λ e. not (is_latched (entry_held e)) || nat_lt (entry_class g e) w) (plain_part n)
all_part g w [] = refl
all_part g w (Slot s r h ∷ n) =
    ap (λ b. (not (is_latched h) || nat_lt (entry_class g (Slot s r h)) w) && b) (all_part g w n)
all_part g w (Bundle s k ∷ n) = all_part g w n

above_same : (g : Geometry) (n m : Entries) (s : ℕ) → plain_part n ≡ plain_part m → entry_at n s ≡ entry_at m s
    → is_above_latched g n s ≡ is_above_latched g m s
above_same g n m s p e =
    let class : slot_class g n s ≡ slot_class g m s = ap (λ o. unwrap_or (option_map (entry_class g) o) 0) e in
    all_part g (slot_class g n s) n
    ∙ (λ i. list_all (λ x. not (is_latched (entry_held x)) || nat_lt (entry_class g x) (class i)) (p i))
    ∙ sym (all_part g (slot_class g m s) m)

-- ---- the first test that fails

module _ (g : Geometry) (d : Claims) where
  fails_after : (xs ys : List Test) → first_fault g d xs ≡ None → first_failed g d (xs ++ ys) ≡ first_failed g d ys
  fails_after [] ys = λ h. refl
  fails_after (x ∷ xs) ys =
      elim (passes g d x) as (λ b. (if b then first_fault g d xs else Some (fault_of x)) ≡ None
      → (if b then first_failed g d (xs ++ ys) else Some x) ≡ first_failed g d ys) [
        | true ↦ λ h. fails_after xs ys h
        | false ↦ λ h. absurd (cc)
      ]

  fails_first : (xs ys : List Test) (t : Test) → first_failed g d xs ≡ Some t → first_failed g d (xs ++ ys) ≡ Some t
  fails_first [] ys t = λ h. absurd (cc)
  fails_first (x ∷ xs) ys t =
      elim (passes g d x) as (λ b. (if b then first_failed g d xs else Some x) ≡ Some t
      → (if b then first_failed g d (xs ++ ys) else Some x) ≡ Some t) [
        | true ↦ λ h. fails_first xs ys t h
        | false ↦ λ h. h
      ]

  fails_none : (xs : List Test) → first_failed g d xs ≡ None → first_fault g d xs ≡ None
  fails_none [] = λ h. refl
  fails_none (x ∷ xs) =
      elim (passes g d x) as (λ b. (if b then first_failed g d xs else Some x) ≡ None
      → (if b then first_fault g d xs else Some (fault_of x)) ≡ None) [
        | true ↦ λ h. fails_none xs h
        | false ↦ λ h. absurd (cc)
      ]

module _ (g : Geometry) (d c : Claims) (Few : Type 0) where
  -- Where the first of these tests that `d` fails is one of what the plan does, `c` fails it first of those.
  abbrev Owns : (xs us : List Test) → Type 0
  Owns xs us =
      Few → (t : Test) → first_failed g d xs ≡ Some t → IsOfPlan t → first_fault g c us ≡ Some (fault_of t)

  -- As far as `d` passes these tests, `c` passes those of what the plan does.
  abbrev pub Tracks : List Test → Type 0
  Tracks [] = Unit {0}
  Tracks (t ∷ ts) = passes g d t ≡ true → (IsOfPlan t → passes g c t ≡ true) × Tracks ts

  -- And where `d` fails none, `c` fails none.
  abbrev Same : (xs us : List Test) → Type 0
  Same xs us = (first_fault g d xs ≡ None → first_fault g c us ≡ None) × Owns xs us × Tracks xs

  tracks_then : (xs ys : List Test) → Tracks xs → (first_fault g d xs ≡ None → Tracks ys) → Tracks (xs ++ ys)
  tracks_then [] ys a b = b refl
  tracks_then (x ∷ xs) ys a b = λ e.
      let p = a e in
      (p.0, tracks_then xs ys p.1 (λ h. b (ap (λ z. if z then first_fault g d xs else Some (fault_of x)) e ∙ h)))

  -- a test that `d` comes to and passes
  tracked : (xs ys : List Test) (t : Test) → Tracks (xs ++ t ∷ ys) → first_fault g d (xs ++ t ∷ []) ≡ None
      → IsOfPlan t → passes g c t ≡ true
  tracked [] ys t a h own = (a (first_passes g d t [] h).0).0 own
  tracked (x ∷ xs) ys t a h own =
      let p = first_passes g d x (xs ++ t ∷ []) h in
      tracked xs ys t (a p.0).1 p.1 own

  owns_then : (xs us ys vs : List Test) → Same xs us → (first_fault g d xs ≡ None → Owns ys vs)
      → Owns (xs ++ ys) (us ++ vs)
  owns_then xs us ys vs a b = λ low t h own.
      elim (first_failed g d xs) as (λ o. first_failed g d xs ≡ o → first_fault g c (us ++ vs) ≡ Some (fault_of t)) [
        | None ↦ λ e.
            let passed = fails_none g d xs e in
            past_first g c us vs (a.0 passed) ∙ b passed low t (sym (fails_after g d xs ys passed) ∙ h) own
        | Some other ↦ λ e.
            let is : other ≡ t = let w = fails_first g d xs ys other e in cc in
            in_first g c us vs (fault_of t) (a.1 low t (e ∙ ap Some is) own)
      ] refl

  same_then : (xs us ys vs : List Test) → Same xs us → (first_fault g d xs ≡ None → Same ys vs)
      → Same (xs ++ ys) (us ++ vs)
  same_then xs us ys vs a b = (
    λ h. let p = both_pass g d xs ys h in past_first g c us vs (a.0 p.0) ∙ (b p.0).0 p.1,
    owns_then xs us ys vs a (λ h. (b h).1),
    tracks_then xs ys a.2 (λ h. (b h).2),
  )

  same_none : Same [] []
  same_none = (λ h. h, λ low t h own. absurd (cc), tt)

  -- a test that `c` passes where `d` does; and the other way round, where no run gathers more than is counted
  owns_cons : (t : Test) (ts us : List Test) → (passes g d t ≡ true → passes g c t ≡ true)
      → (Few → passes g c t ≡ true → passes g d t ≡ true) → Owns ts us → Owns (t ∷ ts) (t ∷ us)
  owns_cons t ts us to back rest = λ low test.
      elim (passes g d t) as (λ b. passes g d t ≡ b → (if b then first_failed g d ts else Some t) ≡ Some test
      → IsOfPlan test → first_fault g c (t ∷ us) ≡ Some (fault_of test)) [
        | true ↦ λ e h own.
            ap (λ b. if b then first_fault g c us else Some (fault_of t)) (to e) ∙ rest low test h own
        | false ↦ λ e h own.
            let is : t ≡ test = cc in
            let fails : passes g c t ≡ false = contrary (passes g c t) (passes g d t) (back low) e in
            ap (λ b. if b then first_fault g c us else Some (fault_of t)) fails ∙ ap (λ x. Some (fault_of x)) is
      ] refl

  same_cons : (t : Test) (ts us : List Test) → (passes g d t ≡ true → passes g c t ≡ true)
      → (Few → passes g c t ≡ true → passes g d t ≡ true) → Same ts us → Same (t ∷ ts) (t ∷ us)
  same_cons t ts us to back rest = (
    λ h.
        let p = first_passes g d t ts h in
        ap (λ b. if b then first_fault g c us else Some (fault_of t)) (to p.0) ∙ rest.0 p.1,
    owns_cons t ts us to back rest.1,
    λ e. (λ own. to e, rest.2),
  )

  same_test : (t : Test) (ts us : List Test) → passes g d t ≡ passes g c t → Same ts us → Same (t ∷ ts) (t ∷ us)
  same_test t ts us e rest = same_cons t ts us (λ h. sym e ∙ h) (λ low h. e ∙ h) rest

  -- ---- tests that are none of what the plan does

  abbrev Never : List Test → Type 0
  Never ts = ((t : Test) → first_failed g d ts ≡ Some t → IsOfPlan t → ⊥) × Tracks ts

  never_none : Never []
  never_none = (λ t h own. absurd (cc), tt)

  never_first : (t : Test) (ts : List Test) → (IsOfPlan t → ⊥) → Never ts → (test : Test)
      → first_failed g d (t ∷ ts) ≡ Some test → IsOfPlan test → ⊥
  never_first t ts not_own a test =
      elim (passes g d t) as (λ b. (if b then first_failed g d ts else Some t) ≡ Some test → IsOfPlan test → ⊥) [
        | true ↦ λ h own. a.0 test h own
        | false ↦ λ h own. let is : test ≡ t = cc in not_own (subst IsOfPlan is own)
      ]

  never_cons : (t : Test) (ts : List Test) → (IsOfPlan t → ⊥) → Never ts → Never (t ∷ ts)
  never_cons t ts not_own a = (never_first t ts not_own a, λ e. (λ own. absurd (not_own own), a.1))

  note_never : (k : ℕ) (x : Expectation) → Never (note_tests k x)
  note_never k x =
      never_cons (there k) (as_expected k x ∷ within_peak k ∷ []) (λ own. own)
      (never_cons (as_expected k x) (within_peak k ∷ []) (λ own. own)
      (never_cons (within_peak k) [] (λ own. own) never_none))

  turn_never : (k before : ℕ) (b : Sequence) → Never (turn_tests k before b)
  turn_never k before b =
      never_cons (there k) (may_begin k before b ∷ within_peak k ∷ []) (λ own. own)
      (never_cons (may_begin k before b) (within_peak k ∷ []) (λ own. own)
      (never_cons (within_peak k) [] (λ own. own) never_none))

  same_never : (ts us : List Test) → first_fault g c us ≡ None → Never ts → Same ts us
  same_never ts us e a = (λ h. e, λ low t h own. absurd (a.0 t h own), a.1)

  -- the tests after the walk
  last_never : (count longest : ℕ)
      → Never (no_more_notes count ∷ steps_allowed ∷ steps_enough longest ∷ peak_allowed ∷ [])
  last_never count longest =
      never_cons (no_more_notes count) (steps_allowed ∷ steps_enough longest ∷ peak_allowed ∷ []) (λ x. x)
      (never_cons steps_allowed (steps_enough longest ∷ peak_allowed ∷ []) (λ x. x)
      (never_cons (steps_enough longest) (peak_allowed ∷ []) (λ x. x)
      (never_cons peak_allowed [] (λ x. x) never_none)))

-- no slot has a bound but a bundle
note_own : (kind : ℕ → Bool) (t : ℕ) (n : Entries) → All (λ e. is_bundle e ≡ true → kind (entry_slot e) ≡ true) n
    → kind t ≡ false → bound_at n t ≡ 0
note_own kind t [] a plain = refl
note_own kind t (Slot s r h ∷ n) a plain = note_own kind t n (λ k e l. a (suc k) e (omega (arith, l))) plain
note_own kind t (Bundle s b ∷ n) a plain =
    let rest = note_own kind t n (λ k e l. a (suc k) e (omega (arith, l))) plain in
    let here : kind s ≡ true = a 0 (Bundle s b) (omega arith) refl in
    elim (s == t) as (λ x. (s == t) ≡ x
    → unwrap_or (option_map entry_pins (cond x (Some (Bundle s b)) (bundle_at n t))) 0 ≡ 0) [
      | true ↦ λ e. absurd (let is : kind s ≡ kind t = ap kind (eqb-true s t e) in cc (is, here, plain))
      | false ↦ λ e. rest
    ] refl

notes_own : (kind : ℕ → Bool) (t : ℕ) (ns : List Entries) (k : ℕ)
    → All (λ n. All (λ e. is_bundle e ≡ true → kind (entry_slot e) ≡ true) n) ns → kind t ≡ false
    → bound_at (unwrap_or (slice_get ns k) []) t ≡ 0
notes_own kind t [] k a plain = refl
notes_own kind t (n ∷ ns) zero a plain = note_own kind t n (a 0 [] (omega arith)) plain
notes_own kind t (n ∷ ns) (suc k) a plain =
    notes_own kind t ns k (λ j e l. a (suc j) e (omega (arith, l))) plain

none_of : (n : Entries) → (length n == 0) ≡ true → n ≡ []
none_of [] h = refl
none_of (x ∷ n) h = absurd (omega (arith, eqb-true (length (x ∷ n)) 0 h))

empty_same : (kind : ℕ → Bool) (n u : Entries) → Forms kind 0 u → plain_part n ≡ plain_part u
    → ((t : ℕ) → bound_at n t ≡ 0 → bound_at u t ≡ 0) → (length n == 0) ≡ true → (length u == 0) ≡ true
empty_same kind n u f p w h =
    let e = none_of n h in
    let is : u ≡ [] = alike kind 0 u [] f tt (sym p ∙ ap plain_part e) (λ t. w t (ap (λ x. bound_at x t) e)) in
    ap (λ x. length x == 0) is

-- ends that are the same from one bound are the same from another, where only that of a bundle that isn't scattered differs
alike_to : (kind : ℕ → Bool) (b o : Sequence) (t x y : ℕ) → IsOfKinds kind b → IsOfKinds kind o
    → (scatters b t ≡ true → x ≡ y) → (scatters o t ≡ true → x ≡ y) → sequence_to b t x ≡ sequence_to o t x
    → sequence_to b t y ≡ sequence_to o t y
alike_to kind b o t x y ib io p q h =
    elim (scatters b t) as (λ s. scatters b t ≡ s → sequence_to b t y ≡ sequence_to o t y) [
      | true ↦ λ e. subst (λ z. sequence_to b t z ≡ sequence_to o t z) (p e) h
      | false ↦ λ e. elim (scatters o t) as (λ s. scatters o t ≡ s → sequence_to b t y ≡ sequence_to o t y) [
        | true ↦ λ f. subst (λ z. sequence_to b t z ≡ sequence_to o t z) (q f) h
        | false ↦ λ f.
            sequence_still kind b t y ib e
            ∙ moved x y (growth b t) (growth o t)
            (sym (sequence_still kind b t x ib e) ∙ h ∙ sequence_still kind o t x io f)
            ∙ sym (sequence_still kind o t y io f)
      ] refl
    ] refl

module _ (g : Geometry) (d c : Claims) (Few : Type 0) (stop : ℕ) (some : 1 ≤ stop) (kind : ℕ → Bool)
    (slots regions : ℕ)
    (within : (s : ℕ) → kind s ≡ true → s < slots) (few : (s : ℕ) → kind s ≡ true → s < most_slots)
    (own : (k t : ℕ) → kind t ≡ false → bound_at (note_at d k) t ≡ 0) where
  abbrev Here : ℕ → List Entries → Type 0
  Here k ns = Stand c.peak c.notes k ns

  abbrev Both : (xs us : List Test) → Type 0
  Both xs us = Same g d c Few xs us

  abbrev Alike : (theirs mine : Entries) → Type 0
  Alike theirs mine = Pages kind slots regions stop some within g d theirs mine

  -- What is known at a place: `c` notes n there, `d` the same pages, and the bounds of `c` are `y`, as far as it counts.
  record Beside (k : ℕ) (n : Entries) (y : ℕ → ℕ) : Type 0 where
    pub mine : note_at c k ≡ n
    pub pages : Alike (note_at d k) n
    pub counted : (t : ℕ) → bound_at n t ≡ min (y t) stop
    pub plain : (t : ℕ) → kind t ≡ false → y t ≡ 0

  -- the bounds of these bundles are those of `d`
  abbrev Exact : (which : ℕ → Bool) → ℕ → (ℕ → ℕ) → Type 0
  Exact which k y = (t : ℕ) → which t ≡ true → bound_at (note_at d k) t ≡ y t

  -- so many pages more are counted too
  abbrev Room : (ℕ → ℕ) → ℕ → Type 0
  Room y m = Few → (t : ℕ) → y t + m ≤ stop

  entry_same : (k s : ℕ) (n : Entries) (y : ℕ → ℕ) → Beside k n y → noted_at (note_at d k) s ≡ noted_at (note_at c k) s
  entry_same k s n y a =
      ap (λ o. option_map entry_held o) (entries_same kind slots regions stop some within g d (note_at d k) n a.pages.part s)
      ∙ sym (ap (λ x. noted_at x s) a.mine)

  formed : (theirs mine : Entries) → Alike theirs mine → Forms kind 0 mine
  formed theirs mine a = rises_forms kind slots regions 0 mine a.rises

  -- ---- steps

  step_same : (k : ℕ) (s : Step) (n : Entries) (y : ℕ → ℕ) → KeepsKinds kind s → Beside k n y
      → Exact (λ t. step_scatters s t) k y → Both (step_tests k s) (step_tests k s)
  step_same k (fix s r) n y is a exact =
      let noted = entry_same k s n y a in
      let bound : bound_at (note_at d k) s ≡ bound_at (note_at c k) s =
      own k s is ∙ sym (ap (λ x. bound_at x s) a.mine ∙ counted_zero stop (bound_at n s) (y s) (a.counted s) (a.plain s is)) in
      same_test g d c Few (slot_unused k s) [] [] (λ i. not (is_some (noted i)) && bound i == 0) (same_none g d c Few)
  step_same k (unfix s) n y is a exact =
      let noted = entry_same k s n y a in
      same_test g d c Few (slot_fixed k s) (slot_unlatched k s ∷ []) (slot_unlatched k s ∷ []) (ap is_some noted)
      (same_test g d c Few (slot_unlatched k s) [] [] (ap (λ o. not (is_latched_page o)) noted) (same_none g d c Few))
  step_same k (latch s m) n y is a exact =
      let noted = entry_same k s n y a in
      let above : is_above_latched g (note_at d k) s ≡ is_above_latched g (note_at c k) s =
      above_same g (note_at d k) n s a.pages.part
      (entries_same kind slots regions stop some within g d (note_at d k) n a.pages.part s)
      ∙ sym (ap (λ x. is_above_latched g x s) a.mine) in
      same_test g d c Few (slot_fixed k s) (slot_unlatched k s ∷ slot_in_order k s ∷ [])
      (slot_unlatched k s ∷ slot_in_order k s ∷ []) (ap is_some noted)
      (same_test g d c Few (slot_unlatched k s) (slot_in_order k s ∷ []) (slot_in_order k s ∷ [])
      (ap (λ o. not (is_latched_page o)) noted)
      (same_test g d c Few (slot_in_order k s) [] [] above (same_none g d c Few)))
  step_same k (unlatch s) n y is a exact =
      let noted = entry_same k s n y a in
      same_test g d c Few (slot_fixed k s) (slot_latched k s ∷ []) (slot_latched k s ∷ []) (ap is_some noted)
      (same_test g d c Few (slot_latched k s) [] [] (ap is_latched_page noted) (same_none g d c Few))
  step_same k (gather s r) n y is a exact = same_none g d c Few
  step_same k (scatter s) n y is a exact =
      let gathered : nat_lt 0 (bound_at (note_at d k) s) ≡ nat_lt 0 (bound_at (note_at c k) s) =
      ap (λ x. nat_lt 0 x) (exact s (same_number s))
      ∙ some_counted stop (bound_at n s) (y s) some (a.counted s)
      ∙ sym (ap (λ x. nat_lt 0 (bound_at x s)) a.mine) in
      same_test g d c Few (bundle_gathered k s) [] [] gathered (same_none g d c Few)

  -- ---- the next place

  beside_next : (k : ℕ) (s : Statement) (n : Entries) (y : ℕ → ℕ) → StatementKeeps kind s
      → IsStatement slots regions s → Beside k n y → first_fault g d (statement_tests None k s) ≡ None
      → note_at d (statement_end k s) ≡ expected_note d (outcome None k s)
      → note_at c (statement_end k s) ≡ after_statement stop kind s n
      → Beside (statement_end k s) (after_statement stop kind s n) (λ t. statement_to s t (y t))
  beside_next k s n y keeps is a h their mine =
      let pages = statement_pages kind slots regions stop some within g d k s n keeps is a.pages h in
      record {
        mine = mine;
        pages = subst (λ x. Alike x (after_statement stop kind s n)) (sym their) pages;
        counted = λ t. statement_made kind stop few s n t (y t) keeps (a.counted t);
        plain = λ t p. plain_to kind s t (y t) p keeps ∙ a.plain t p;
      }

  turn_beside : (k turns : ℕ) (b : Sequence) (n : Entries) (y : ℕ → ℕ) → IsOfKinds kind b → Beside k n y
      → begins_turns (scatters b) (note_at d k) (note_at d (k + 1)) ≡ true
      → note_at c (k + 1) ≡ first_note stop kind turns b n
      → Beside (k + 1) (first_note stop kind turns b n) (λ t. y t + rise turns b t)
  turn_beside k turns b n y keeps a h mine = record {
    mine = mine;
    pages = turn_pages kind slots regions stop some within g d k turns b n a.pages h;
    counted = λ t. first_made kind stop few turns b n t (y t) keeps (a.counted t);
    plain = λ t p. omega (arith, a.plain t p, plain_rise kind turns b t p keeps);
  }

  turn_exact : (k turns : ℕ) (b : Sequence) (y : ℕ → ℕ) → Exact (scatters b) k y
      → begins_turns (scatters b) (note_at d k) (note_at d (k + 1)) ≡ true
      → Exact (scatters b) (k + 1) (λ t. y t + rise turns b t)
  turn_exact k turns b y exact h = λ t e.
      omega (
        arith,
        begins_same b (note_at d k) (note_at d (k + 1)) t h e,
        exact t e,
        rise_scattered turns b t e,
      )

  branch_beside : (j k : ℕ) (n : Entries) (y : ℕ → ℕ) → note_at d j ≡ note_at d k → note_at c j ≡ n → Beside k n y
      → Beside j n y
  branch_beside j k n y e mine a = record {
    mine = mine;
    pages = subst (λ x. Alike x n) (sym e) a.pages;
    counted = a.counted;
    plain = a.plain;
  }

  -- ---- the ends of bodies

  keeps_same : (k turns : ℕ) (b : Sequence) (n : Entries) (y : ℕ → ℕ) → (1 ≤ turns) → IsOfKinds kind b
      → IsSequence slots regions b → Beside k n y → Exact (scatters b) k y → Room y (turns * sequence_gathers b)
      → Beside (k + 1) (first_note stop kind turns b n) (λ t. y t + rise turns b t)
      → Exact (scatters b) (k + 1) (λ t. y t + rise turns b t)
      → Here (k + 1 + 1) (sequence_notes stop kind b (first_note stop kind turns b n))
      → first_fault g d (sequence_tests None (k + 1) b) ≡ None
      → Both (loop_keeps (sequence_end (k + 1) b) k b ∷ loop_grows (sequence_end (k + 1) b) k (k + 1) turns b ∷ [])
      (loop_keeps (sequence_end (k + 1) b) k b ∷ [])
  keeps_same k turns b n y once keeps is a exact room at here stand q =
      let end : ℕ = sequence_end (k + 1) b in
      let first : Entries = first_note stop kind turns b n in
      let last : Entries = after_sequence stop kind b first in
      let y1 : ℕ → ℕ = λ t. y t + rise turns b t in
      let pages = sequence_pages kind slots regions stop some within g d (k + 1) b first keeps is at.pages q in
      let mine : note_at c end ≡ last = ends_at c stop kind (k + 1) b first at.mine stand in
      let counted : (t : ℕ) → bound_at last t ≡ min (sequence_to b t (y1 t)) stop = λ t.
      sequence_made kind stop few b first t (y1 t) keeps (at.counted t) in
      let theirs : (t : ℕ) → scatters b t ≡ true → bound_at (note_at d end) t ≡ sequence_to b t (y1 t) = λ t e.
      sequence_walked kind g d (k + 1) b t keeps q ∙ ap (λ x. sequence_to b t x) (here t e) in
      let to : passes g d (loop_keeps end k b) ≡ true → passes g c (loop_keeps end k b) ≡ true = λ x.
      (λ i. ends_as_begun (scatters b) (a.mine i) (mine i))
      ∙ ends_same b (note_at d k) (note_at d end) n last a.pages.part pages.part (λ t e w.
      counted_same stop (bound_at last t) (bound_at n t) (sequence_to b t (y1 t)) (y t) (counted t) (a.counted t)
      (sym (theirs t e) ∙ w ∙ exact t e)) x in
      let back : Few → passes g c (loop_keeps end k b) ≡ true → passes g d (loop_keeps end k b) ≡ true = λ low x.
      ends_same b n last (note_at d k) (note_at d end) (sym a.pages.part) (sym pages.part) (λ t e w.
      theirs t e
      ∙ counted_back stop (bound_at last t) (bound_at n t) (sequence_to b t (y1 t)) (y t) (counted t) (a.counted t)
      (omega (arith, sequence_room kind b t (y1 t) keeps, turn_room kind turns b t (y t) once, room low t))
      (omega (arith, room low t)) w
      ∙ sym (exact t e))
      ((λ i. ends_as_begun (scatters b) (sym a.mine i) (sym mine i)) ∙ x) in
      let grow : Both (loop_grows end k (k + 1) turns b ∷ []) [] =
      same_never g d c Few (loop_grows end k (k + 1) turns b ∷ []) [] refl
      (never_cons g d c Few (loop_grows end k (k + 1) turns b) [] (λ z. z) (never_none g d c Few)) in
      same_cons g d c Few (loop_keeps end k b) (loop_grows end k (k + 1) turns b ∷ []) [] to back grow

  -- What is known of the end of a choice's branch.
  record Ended (before k : ℕ) (b : Sequence) (n : Entries) (y : ℕ → ℕ) : Type 0 where
    pub pages : Alike (note_at d k) (after_sequence stop kind b n)
    pub mine : note_at c k ≡ after_sequence stop kind b n
    pub counted : (t : ℕ) → bound_at (after_sequence stop kind b n) t ≡ min (sequence_to b t (y t)) stop
    pub theirs : (t : ℕ) → bound_at (note_at d k) t ≡ sequence_to b t (bound_at (note_at d before) t)
    pub exact : Exact (scatters b) before y
    pub room : Few → (t : ℕ) → sequence_to b t (y t) ≤ stop

  ended : (before k : ℕ) (b : Sequence) (n : Entries) (y : ℕ → ℕ) → IsOfKinds kind b → IsSequence slots regions b
      → Beside k n y → note_at d k ≡ note_at d before → Exact (scatters b) before y → Room y (sequence_gathers b)
      → Here (k + 1) (sequence_notes stop kind b n) → first_fault g d (sequence_tests None k b) ≡ None
      → Ended before (sequence_end k b) b n y
  ended before k b n y keeps is a e exact room stand q = record {
    pages = sequence_pages kind slots regions stop some within g d k b n keeps is a.pages q;
    mine = ends_at c stop kind k b n a.mine stand;
    counted = λ t. sequence_made kind stop few b n t (y t) keeps (a.counted t);
    theirs = λ t.
        sequence_walked kind g d k b t keeps q ∙ ap (λ (x : Entries). sequence_to b t (bound_at x t)) e;
    exact = exact;
    room = λ low t. omega (arith, sequence_room kind b t (y t) keeps, room low t);
  }

  agrees : (before first end : ℕ) (o b : Sequence) (n : Entries) (y : ℕ → ℕ) → IsOfKinds kind o → IsOfKinds kind b
      → Ended before first o n y → Ended before end b n y
      → passes g d (branch_agrees end first) ≡ true → passes g c (branch_agrees end first) ≡ true
  agrees before first end o b n y io ib v a = λ x.
      let start : ℕ → ℕ = λ t. bound_at (note_at d before) t in
      (λ i. same_note (a.mine i) (v.mine i))
      ∙ notes_same kind (note_at d end) (note_at d first) (after_sequence stop kind b n) (after_sequence stop kind o n)
      (formed (note_at d end) (after_sequence stop kind b n) a.pages) (formed (note_at d first) (after_sequence stop kind o n) v.pages)
      a.pages.part v.pages.part (λ t w.
      counted_same stop (bound_at (after_sequence stop kind b n) t) (bound_at (after_sequence stop kind o n) t)
      (sequence_to b t (y t)) (sequence_to o t (y t)) (a.counted t) (v.counted t)
      (alike_to kind b o t (start t) (y t) ib io (a.exact t) (v.exact t) (sym (a.theirs t) ∙ w ∙ v.theirs t))) x

  agrees_back : (before first end : ℕ) (o b : Sequence) (n : Entries) (y : ℕ → ℕ) → IsOfKinds kind o → IsOfKinds kind b
      → Ended before first o n y → Ended before end b n y → Few
      → passes g c (branch_agrees end first) ≡ true → passes g d (branch_agrees end first) ≡ true
  agrees_back before first end o b n y io ib v a low = λ x.
      let start : ℕ → ℕ = λ t. bound_at (note_at d before) t in
      notes_same kind (after_sequence stop kind b n) (after_sequence stop kind o n) (note_at d end) (note_at d first) a.pages.forms
      v.pages.forms (sym a.pages.part) (sym v.pages.part) (λ t w.
      let same_ends : sequence_to b t (y t) ≡ sequence_to o t (y t) =
      counted_back stop (bound_at (after_sequence stop kind b n) t) (bound_at (after_sequence stop kind o n) t)
      (sequence_to b t (y t)) (sequence_to o t (y t)) (a.counted t) (v.counted t) (a.room low t) (v.room low t) w in
      a.theirs t
      ∙ alike_to kind b o t (y t) (start t) ib io (λ e. sym (a.exact t e)) (λ e. sym (v.exact t e)) same_ends
      ∙ sym (v.theirs t))
      ((λ i. same_note (sym a.mine i) (sym v.mine i)) ∙ x)

  -- ---- all statements

  mutual
    statement_same : (k : ℕ) (s : Statement) (n : Entries) (y : ℕ → ℕ) → StatementKeeps kind s
        → IsStatement slots regions s → Beside k n y → Exact (λ t. statement_scatters s t) k y
        → Room y (statement_gathers s) → Here (k + 1) (statement_notes stop kind s n)
        → Both (statement_tests None k s) (statement_tests (Some stop) k s)
    statement_same k (step s) n y keeps is a exact room h = step_same k s n y keeps a exact
    statement_same k (loop turns b) n y keeps is a exact room h =
        let end : ℕ = sequence_end (k + 1) b in
        let first : Entries = first_note stop kind turns b n in
        let front : List Test = turn_tests (k + 1) k b in
        let y1 : ℕ → ℕ = λ t. y t + rise turns b t in
        let mine = is_at c (k + 1) first h.0 in
        let low_note : Low stop kind n = λ t j. omega (arith, a.counted t) in
        let form = formed (note_at d k) n a.pages in
        let start : Both front front =
        same_never g d c Few front front
        (turn_none g c (k + 1) k b n first a.mine h.0 h.1 (begins stop kind few turns b n some form low_note))
        (turn_never g d c Few (k + 1) k b) in
        let at : first_fault g d front ≡ None → Beside (k + 1) first y1 = λ p.
        turn_beside k turns b n y keeps.1 a (turn_passes g d (k + 1) k b p).1 mine in
        let here : first_fault g d front ≡ None → Exact (scatters b) (k + 1) y1 = λ p.
        turn_exact k turns b y exact (turn_passes g d (k + 1) k b p).1 in
        let inner_room : Room y1 (sequence_gathers b) = λ low t.
        omega (arith, turn_room kind turns b t (y t) keeps.0, room low t) in
        let inner : Both (front ++ sequence_tests None (k + 1) b) (front ++ sequence_tests (Some stop) (k + 1) b) =
        same_then g d c Few front front (sequence_tests None (k + 1) b) (sequence_tests (Some stop) (k + 1) b) start
        (λ p. sequence_same (k + 1) b first y1 keeps.1 is.3 (at p) (here p) inner_room h.2) in
        same_then g d c Few (front ++ sequence_tests None (k + 1) b) (front ++ sequence_tests (Some stop) (k + 1) b)
        (loop_keeps end k b ∷ loop_grows end k (k + 1) turns b ∷ []) (loop_keeps end k b ∷ []) inner (λ p.
        let q = both_pass g d front (sequence_tests None (k + 1) b) p in
        keeps_same k turns b n y keeps.0 keeps.1 is.3 a exact room (at q.0) (here q.0) h.2 q.1)
    statement_same k (choice none) n y keeps is a exact room h = same_none g d c Few
    statement_same k (choice (either b bs)) n y keeps is a exact room h =
        let end : ℕ = sequence_end (k + 1) b in
        let front : List Test = note_tests (k + 1) (same k) in
        let at : k + 1 + length (n ∷ sequence_notes stop kind b n) ≡ end + 1 =
        omega (arith, sequence_places stop kind (k + 1) b n) in
        let s =
        stand_split c.peak c.notes (k + 1) (end + 1) (n ∷ sequence_notes stop kind b n) (branches_notes stop kind bs n) at h in
        let start : Both front front =
        same_never g d c Few front front (note_none g c (k + 1) (same k) n s.0.0 s.0.1 a.mine)
        (note_never g d c Few (k + 1) (same k)) in
        let theirs : first_fault g d front ≡ None → note_at d (k + 1) ≡ note_at d k = λ p.
        (note_passes g d (k + 1) (same k) p).1 in
        let inside : first_fault g d front ≡ None → Beside (k + 1) n y = λ p.
        branch_beside (k + 1) k n y (theirs p) (is_at c (k + 1) n s.0.0) a in
        let first_exact : Exact (scatters b) k y = λ t e.
        exact t (or_left (scatters b t) (branches_scatter bs t) e) in
        let later_exact : Exact (λ t. branches_scatter bs t) k y = λ t e.
        exact t (or_right (scatters b t) (branches_scatter bs t) e) in
        let first_room : Room y (sequence_gathers b) = λ low t. omega (arith, room low t) in
        let later_room : Room y (branches_gather bs) = λ low t. omega (arith, room low t) in
        let inner : Both (front ++ sequence_tests None (k + 1) b) (front ++ sequence_tests (Some stop) (k + 1) b) =
        same_then g d c Few front front (sequence_tests None (k + 1) b) (sequence_tests (Some stop) (k + 1) b) start
        (λ p. sequence_same (k + 1) b n y keeps.0 is.2.0 (inside p)
        (λ t e. ap (λ x. bound_at x t) (theirs p) ∙ first_exact t e) first_room s.0.2) in
        same_then g d c Few (front ++ sequence_tests None (k + 1) b) (front ++ sequence_tests (Some stop) (k + 1) b)
        (later_tests None k end (end + 1) bs) (later_tests (Some stop) k end (end + 1) bs) inner (λ p.
        let q = both_pass g d front (sequence_tests None (k + 1) b) p in
        let one = ended k (k + 1) b n y keeps.0 is.2.0 (inside q.0) (theirs q.0) first_exact first_room s.0.2 q.1 in
        later_same k end (end + 1) b bs n y keeps.0 keeps.1 is.2.1 a one later_exact later_room s.1)

    sequence_same : (k : ℕ) (b : Sequence) (n : Entries) (y : ℕ → ℕ) → IsOfKinds kind b → IsSequence slots regions b
        → Beside k n y → Exact (scatters b) k y → Room y (sequence_gathers b) → Here (k + 1) (sequence_notes stop kind b n)
        → Both (sequence_tests None k b) (sequence_tests (Some stop) k b)
    sequence_same k skip n y keeps is a exact room h = same_none g d c Few
    sequence_same k (andthen s b) n y keeps is a exact room h =
        let next : ℕ = statement_end k s in
        let m : Entries = after_statement stop kind s n in
        let theirs_between : List Test = note_tests next (outcome None k s) in
        let between : List Test = note_tests next (outcome (Some stop) k s) in
        let p =
        stand_split c.peak c.notes (k + 1) next (statement_notes stop kind s n) (m ∷ sequence_notes stop kind b m)
        (statement_places stop kind k s n) h in
        let inner =
        statement_same k s n y keeps.0 is.0 a (λ t e. exact t (or_left (statement_scatters s t) (scatters b t) e))
        (λ low t. omega (arith, room low t)) p.0 in
        let note : first_fault g d (statement_tests None k s) ≡ None → Both theirs_between between = λ q.
        same_never g d c Few theirs_between between
        (note_none g c next (outcome (Some stop) k s) m p.1.0 p.1.1 (expected_is g c stop some kind few k s n a.mine (inner.0 q) p.0))
        (note_never g d c Few next (outcome None k s)) in
        let first : Both (statement_tests None k s ++ theirs_between) (statement_tests (Some stop) k s ++ between) =
        same_then g d c Few (statement_tests None k s) (statement_tests (Some stop) k s) theirs_between between inner note in
        same_then g d c Few (statement_tests None k s ++ theirs_between) (statement_tests (Some stop) k s ++ between)
        (sequence_tests None next b) (sequence_tests (Some stop) next b) first (λ q.
        let r = both_pass g d (statement_tests None k s) theirs_between q in
        let their = (note_passes g d next (outcome None k s) r.1).1 in
        sequence_same next b m (λ t. statement_to s t (y t)) keeps.1 is.1
        (beside_next k s n y keeps.0 is.0 a r.0 their (is_at c next m p.1.0))
        (λ t e. ap (λ x. bound_at x t) their
        ∙ statement_walked kind g d k s t keeps.0 r.0
        ∙ ap (λ x. statement_to s t x) (exact t (or_right (statement_scatters s t) (scatters b t) e)))
        (λ low t. omega (arith, statement_room kind s t (y t) keeps.0, room low t)) p.1.2)

    -- of the second and later branches; `o` is the first one
    later_same : (before first k : ℕ) (o : Sequence) (bs : Alternatives) (n : Entries) (y : ℕ → ℕ) → IsOfKinds kind o
        → BranchesKeep kind bs → AreAlternatives slots regions bs → Beside before n y → Ended before first o n y
        → Exact (λ t. branches_scatter bs t) before y → Room y (branches_gather bs) → Here k (branches_notes stop kind bs n)
        → Both (later_tests None before first k bs) (later_tests (Some stop) before first k bs)
    later_same before first k o none n y io keeps is a one exact room h = same_none g d c Few
    later_same before first k o (either b bs) n y io keeps is a one exact room h =
        let end : ℕ = sequence_end k b in
        let front : List Test = note_tests k (same before) in
        let at : k + length (n ∷ sequence_notes stop kind b n) ≡ end + 1 = omega (arith, sequence_places stop kind k b n) in
        let s =
        stand_split c.peak c.notes k (end + 1) (n ∷ sequence_notes stop kind b n) (branches_notes stop kind bs n) at h in
        let start : Both front front =
        same_never g d c Few front front (note_none g c k (same before) n s.0.0 s.0.1 a.mine)
        (note_never g d c Few k (same before)) in
        let theirs : first_fault g d front ≡ None → note_at d k ≡ note_at d before = λ p.
        (note_passes g d k (same before) p).1 in
        let inside : first_fault g d front ≡ None → Beside k n y = λ p.
        branch_beside k before n y (theirs p) (is_at c k n s.0.0) a in
        let its_exact : Exact (scatters b) before y = λ t e.
        exact t (or_left (scatters b t) (branches_scatter bs t) e) in
        let later_exact : Exact (λ t. branches_scatter bs t) before y = λ t e.
        exact t (or_right (scatters b t) (branches_scatter bs t) e) in
        let its_room : Room y (sequence_gathers b) = λ low t. omega (arith, room low t) in
        let later_room : Room y (branches_gather bs) = λ low t. omega (arith, room low t) in
        let inner : Both (front ++ sequence_tests None k b) (front ++ sequence_tests (Some stop) k b) =
        same_then g d c Few front front (sequence_tests None k b) (sequence_tests (Some stop) k b) start
        (λ p. sequence_same k b n y keeps.0 is.0 (inside p)
        (λ t e. ap (λ x. bound_at x t) (theirs p) ∙ its_exact t e) its_room s.0.2) in
        same_then g d c Few (front ++ sequence_tests None k b) (front ++ sequence_tests (Some stop) k b)
        (branch_agrees end first ∷ later_tests None before first (end + 1) bs)
        (branch_agrees end first ∷ later_tests (Some stop) before first (end + 1) bs) inner (λ p.
        let q = both_pass g d front (sequence_tests None k b) p in
        let its = ended before k b n y keeps.0 is.0 (inside q.0) (theirs q.0) its_exact its_room s.0.2 q.1 in
        same_cons g d c Few (branch_agrees end first) (later_tests None before first (end + 1) bs)
        (later_tests (Some stop) before first (end + 1) bs) (agrees before first end o b n y io keeps.0 one its)
        (λ low. agrees_back before first end o b n y io keeps.0 one its low)
        (later_same before first (end + 1) o bs n y io keeps.1 is.1 a one later_exact later_room s.1))

-- all tests of a plan
all_same : (g : Geometry) (p : Terms) → IsPlan p → (d : Claims) → HasOwnBundles p d
    → Owns g d (made p) (sequence_gathers p.body ≤ most_counted p.layout) (tests p) (counted_tests p)
    × Tracks g d (made p) (sequence_gathers p.body ≤ most_counted p.layout) (tests p)
all_same g p plan d owns =
    let c : Claims = made p in
    let stop : ℕ = most_counted p.layout in
    let some : 1 ≤ stop = omega arith in
    let kind : ℕ → Bool = uses_bundle p.body in
    let slots : ℕ = length p.slots in
    let regions : ℕ = length p.layout.extents in
    let parts : IsSequence slots regions p.body = plan.body.parts in
    let Few : Type 0 = sequence_gathers p.body ≤ most_counted p.layout in
    let within : (s : ℕ) → kind s ≡ true → s < slots = λ s k. sequence_few slots regions p.body s parts k in
    let few : (s : ℕ) → kind s ≡ true → s < most_slots = bundles_few p plan in
    let own : (k t : ℕ) → kind t ≡ false → bound_at (note_at d k) t ≡ 0 = λ k t. notes_own kind t d.notes k owns in
    let kinds : IsOfKinds kind p.body = own_kinds p plan in
    let k : ℕ = sequence_end 0 p.body in
    let y : ℕ → ℕ = λ t. 0 in
    let here : Stand c.peak c.notes 0 (made_notes p) = stand_itself (made_notes p) in
    let front : List Test = same_settings p.layout ∷ note_tests 0 empty in
    let start : Same g d c Few (note_tests 0 empty) (note_tests 0 empty) =
    same_never g d c Few (note_tests 0 empty) (note_tests 0 empty) (note_none g c 0 empty [] here.0 here.1 refl)
    (note_never g d c Few 0 empty) in
    let settings : Same g d c Few front front =
    same_test g d c Few (same_settings p.layout) (note_tests 0 empty) (note_tests 0 empty) refl start in
    let finals : List Test =
    no_more_notes (k + 1) ∷ steps_allowed ∷ steps_enough (sequence_longest p.body) ∷ peak_allowed ∷ [] in
    let note : first_fault g d front ≡ None → note_at d 0 ≡ [] = λ h.
    (note_passes g d 0 empty (first_passes g d (same_settings p.layout) (note_tests 0 empty) h).1).1 in
    let pages : first_fault g d front ≡ None → Pages kind slots regions stop some within g d (note_at d 0) [] = λ h.
    record {
      forms = subst (λ x. Forms kind 0 x) (sym (note h)) tt;
      rises = omega arith;
      part = ap plain_part (note h);
    } in
    let beside : first_fault g d front ≡ None → Beside g d c Few stop some kind slots regions within few own 0 [] y = λ h.
    record { mine = refl; pages = pages h; counted = λ t. omega arith; plain = λ t e. refl } in
    let zero_at : first_fault g d front ≡ None → (t : ℕ) → bound_at (note_at d 0) t ≡ 0 = λ h t.
    ap (λ x. bound_at x t) (note h) in
    let walk : Same g d c Few (front ++ sequence_tests None 0 p.body) (front ++ sequence_tests (Some stop) 0 p.body) =
    same_then g d c Few front front (sequence_tests None 0 p.body) (sequence_tests (Some stop) 0 p.body) settings
    (λ h. sequence_same g d c Few stop some kind slots regions within few own 0 p.body [] y kinds parts (beside h)
    (λ t e. zero_at h t) (λ low t. omega (arith, low)) here.2) in
    let ended : first_fault g d (front ++ sequence_tests None 0 p.body) ≡ None
    → (passes g d (holds_nothing k) ≡ true → passes g c (holds_nothing k) ≡ true)
    × (passes g c (holds_nothing k) ≡ true → passes g d (holds_nothing k) ≡ true) = λ h.
    let q = both_pass g d front (sequence_tests None 0 p.body) h in
    let last : Entries = after_sequence stop kind p.body [] in
    let ends = sequence_pages kind slots regions stop some within g d 0 p.body [] kinds parts (pages q.0) q.1 in
    let mine : note_at c k ≡ last = ends_at c stop kind 0 p.body [] refl here.2 in
    let theirs : (t : ℕ) → bound_at (note_at d k) t ≡ sequence_to p.body t 0 = λ t.
    sequence_walked kind g d 0 p.body t kinds q.1 ∙ ap (λ x. sequence_to p.body t x) (zero_at q.0 t) in
    let counted : (t : ℕ) → bound_at last t ≡ min (sequence_to p.body t 0) stop = λ t.
    sequence_made kind stop few p.body [] t 0 kinds (omega arith) in (
      λ x.
          ap (λ n. length n == 0) mine
          ∙ empty_same kind (note_at d k) last (rises_forms kind slots regions 0 last ends.rises) ends.part
          (λ t z. counted_zero stop (bound_at last t) (sequence_to p.body t 0) (counted t) (sym (theirs t) ∙ z)) x,
      λ x.
          empty_same kind last (note_at d k) ends.forms (sym ends.part)
          (λ t z. theirs t ∙ zero_counted stop (bound_at last t) (sequence_to p.body t 0) some (counted t) z)
          (ap (λ n. length n == 0) (sym mine) ∙ x),
    ) in
    let never : Never g d c Few finals = last_never g d c Few (k + 1) (sequence_longest p.body) in (
      owns_then g d c Few (front ++ sequence_tests None 0 p.body) (front ++ sequence_tests (Some stop) 0 p.body)
          (holds_nothing k ∷ finals) (holds_nothing k ∷ finals) walk (λ h.
          owns_cons g d c Few (holds_nothing k) finals finals (ended h).0 (λ low. (ended h).1)
          (λ low t x own_. absurd (never.0 t x own_))),
      tracks_then g d c Few (front ++ sequence_tests None 0 p.body) (holds_nothing k ∷ finals) walk.2 (λ h.
          λ e. (λ own_. (ended h).0 e, never.1)),
    )

pub made_own : (g : Geometry) (p : Terms) → IsPlan p → (d : Claims) (t : Test)
    → sequence_gathers p.body ≤ most_counted p.layout → HasOwnBundles p d → first_failed g d (tests p) ≡ Some t → IsOfPlan t
    → first_fault g (made p) (counted_tests p) ≡ Some (fault_of t)
made_own g p plan d t low owns failed of_plan = (all_same g p plan d owns).0 low t failed of_plan

-- ---- the test that is failed is one of the check

abbrev Has : Test → List Test → Type 0
Has t xs = (front : List Test) × (back : List Test) × (xs ≡ front ++ t ∷ back)

has_left : (t : Test) (xs ys : List Test) → Has t xs → Has t (xs ++ ys)
has_left t xs ys h =
    (h.0, h.1 ++ ys, ap (λ z. z ++ ys) h.2 ∙ append_assoc h.0 (t ∷ h.1) ys)

has_right : (t : Test) (xs ys : List Test) → Has t ys → Has t (xs ++ ys)
has_right t xs ys h =
    (xs ++ h.0, h.1, ap (λ z. xs ++ z) h.2 ∙ sym (append_assoc xs h.0 (t ∷ h.1)))

-- Each of these tests whose fault comes before the limits is of what the plan does, and among those.
abbrev Among : (us xs : List Test) → Type 0
Among [] xs = Unit {0}
Among (t ∷ us) xs = (IsBeforeLimits (fault_of t) → IsOfPlan t × Has t xs) × Among us xs

among_left : (us xs ys : List Test) → Among us xs → Among us (xs ++ ys)
among_left [] xs ys a = tt
among_left (t ∷ us) xs ys a =
    (λ h. let p = a.0 h in (p.0, has_left t xs ys p.1), among_left us xs ys a.1)

among_right : (us xs ys : List Test) → Among us ys → Among us (xs ++ ys)
among_right [] xs ys a = tt
among_right (t ∷ us) xs ys a =
    (λ h. let p = a.0 h in (p.0, has_right t xs ys p.1), among_right us xs ys a.1)

among_both : (us vs xs : List Test) → Among us xs → Among vs xs → Among (us ++ vs) xs
among_both [] vs xs a b = b
among_both (t ∷ us) vs xs a b = (a.0, among_both us vs xs a.1 b)

among_then : (us vs xs ys : List Test) → Among us xs → Among vs ys → Among (us ++ vs) (xs ++ ys)
among_then us vs xs ys a b = among_both us vs (xs ++ ys) (among_left us xs ys a) (among_right vs xs ys b)

among_first : (t : Test) (us xs : List Test) → (IsBeforeLimits (fault_of t) → IsOfPlan t) → Among us xs
    → Among (t ∷ us) (t ∷ xs)
among_first t us xs own a = (λ h. (own h, ([], xs, refl)), among_right us (t ∷ []) xs a)

among_notes : (k : ℕ) (x : Expectation) (xs : List Test) → Among (note_tests k x) xs
among_notes k x xs = (λ h. absurd h, (λ h. absurd h, (λ h. absurd h, tt)))

among_turns : (k before : ℕ) (b : Sequence) (xs : List Test) → Among (turn_tests k before b) xs
among_turns k before b xs = (λ h. absurd h, (λ h. absurd h, (λ h. absurd h, tt)))

among_steps : (k : ℕ) (s : Step) → Among (step_tests k s) (step_tests k s)
among_steps k (fix s r) = among_first (slot_unused k s) [] [] (λ h. tt) tt
among_steps k (unfix s) =
    among_first (slot_fixed k s) (slot_unlatched k s ∷ []) (slot_unlatched k s ∷ []) (λ h. tt)
    (among_first (slot_unlatched k s) [] [] (λ h. tt) tt)
among_steps k (latch s m) =
    among_first (slot_fixed k s) (slot_unlatched k s ∷ slot_in_order k s ∷ [])
    (slot_unlatched k s ∷ slot_in_order k s ∷ []) (λ h. tt)
    (among_first (slot_unlatched k s) (slot_in_order k s ∷ []) (slot_in_order k s ∷ []) (λ h. tt)
    (among_first (slot_in_order k s) [] [] (λ h. tt) tt))
among_steps k (unlatch s) =
    among_first (slot_fixed k s) (slot_latched k s ∷ []) (slot_latched k s ∷ []) (λ h. tt)
    (among_first (slot_latched k s) [] [] (λ h. tt) tt)
among_steps k (gather s r) = tt
among_steps k (scatter s) = among_first (bundle_gathered k s) [] [] (λ h. tt) tt

mutual
  among_statement : (stop k : ℕ) (s : Statement) → Among (statement_tests (Some stop) k s) (statement_tests None k s)
  among_statement stop k (step s) = among_steps k s
  among_statement stop k (loop n b) =
      let end : ℕ = sequence_end (k + 1) b in
      let front : List Test = turn_tests (k + 1) k b in
      among_then (front ++ sequence_tests (Some stop) (k + 1) b) (loop_keeps end k b ∷ []) (front ++ sequence_tests None (k + 1) b)
      (loop_keeps end k b ∷ loop_grows end k (k + 1) n b ∷ [])
      (among_then front (sequence_tests (Some stop) (k + 1) b) front (sequence_tests None (k + 1) b) (among_turns (k + 1) k b front)
      (among_sequence stop (k + 1) b))
      (among_first (loop_keeps end k b) [] (loop_grows end k (k + 1) n b ∷ []) (λ h. tt) tt)
  among_statement stop k (choice none) = tt
  among_statement stop k (choice (either b bs)) =
      let end : ℕ = sequence_end (k + 1) b in
      let front : List Test = note_tests (k + 1) (same k) in
      among_then (front ++ sequence_tests (Some stop) (k + 1) b) (later_tests (Some stop) k end (end + 1) bs)
      (front ++ sequence_tests None (k + 1) b) (later_tests None k end (end + 1) bs)
      (among_then front (sequence_tests (Some stop) (k + 1) b) front (sequence_tests None (k + 1) b)
      (among_notes (k + 1) (same k) front) (among_sequence stop (k + 1) b))
      (among_later stop k end (end + 1) bs)

  among_sequence : (stop k : ℕ) (b : Sequence) → Among (sequence_tests (Some stop) k b) (sequence_tests None k b)
  among_sequence stop k skip = tt
  among_sequence stop k (andthen s b) =
      let next : ℕ = statement_end k s in
      let untold : List Test = note_tests next (outcome (Some stop) k s) in
      let told : List Test = note_tests next (outcome None k s) in
      among_then (statement_tests (Some stop) k s ++ untold) (sequence_tests (Some stop) next b) (statement_tests None k s ++ told)
      (sequence_tests None next b)
      (among_then (statement_tests (Some stop) k s) untold (statement_tests None k s) told (among_statement stop k s)
      (among_notes next (outcome (Some stop) k s) told))
      (among_sequence stop next b)

  among_later : (stop before first k : ℕ) (bs : Alternatives)
      → Among (later_tests (Some stop) before first k bs) (later_tests None before first k bs)
  among_later stop before first k none = tt
  among_later stop before first k (either b bs) =
      let end : ℕ = sequence_end k b in
      let front : List Test = note_tests k (same before) in
      among_then (front ++ sequence_tests (Some stop) k b) (branch_agrees end first ∷ later_tests (Some stop) before first (end + 1) bs)
      (front ++ sequence_tests None k b) (branch_agrees end first ∷ later_tests None before first (end + 1) bs)
      (among_then front (sequence_tests (Some stop) k b) front (sequence_tests None k b) (among_notes k (same before) front)
      (among_sequence stop k b))
      (among_first (branch_agrees end first) (later_tests (Some stop) before first (end + 1) bs)
      (later_tests None before first (end + 1) bs) (λ h. tt) (among_later stop before first (end + 1) bs))

among_all : (p : Terms) → Among (counted_tests p) (tests p)
among_all p =
    let stop : ℕ = most_counted p.layout in
    let k : ℕ = sequence_end 0 p.body in
    let front : List Test = same_settings p.layout ∷ note_tests 0 empty in
    let finals : List Test =
    no_more_notes (k + 1) ∷ steps_allowed ∷ steps_enough (sequence_longest p.body) ∷ peak_allowed ∷ [] in
    among_then (front ++ sequence_tests (Some stop) 0 p.body) (holds_nothing k ∷ finals) (front ++ sequence_tests None 0 p.body)
    (holds_nothing k ∷ finals)
    (among_then front (sequence_tests (Some stop) 0 p.body) front (sequence_tests None 0 p.body)
    (among_first (same_settings p.layout) (note_tests 0 empty) (note_tests 0 empty) (λ h. tt)
    (among_notes 0 empty (note_tests 0 empty)))
    (among_sequence stop 0 p.body))
    (among_first (holds_nothing k) finals finals (λ h. tt)
    (λ h. absurd h, (λ h. absurd h, (λ h. absurd h, (λ h. absurd h, tt)))))

-- the test that is failed first
record Failed (g : Geometry) (c : Claims) (xs : List Test) (fault : CheckError) : Type 0 where
  pub test : Test
  pub is : fault_of test ≡ fault
  pub fails : passes g c test ≡ false
  pub own : IsOfPlan test
  pub among : Has test xs

failed : (g : Geometry) (c : Claims) (us xs : List Test) (fault : CheckError) → Among us xs → IsBeforeLimits fault
    → first_fault g c us ≡ Some fault → Failed g c xs fault
failed g c [] xs fault a before = λ h. absurd (cc)
failed g c (t ∷ us) xs fault a before =
    elim (passes g c t) as (λ b. passes g c t ≡ b → (if b then first_fault g c us else Some (fault_of t)) ≡ Some fault
    → Failed g c xs fault) [
      | true ↦ λ e h. failed g c us xs fault a.1 before h
      | false ↦ λ e h.
          let is : fault_of t ≡ fault = cc in
          let p = a.0 (subst IsBeforeLimits (sym is) before) in
          record { test = t; is = is; fails = e; own = p.0; among = p.1 }
    ] refl

pub made_wall : (g : Geometry) (p : Terms) → IsPlan p → (fault : CheckError) → IsBeforeLimits fault
    → first_fault g (made p) (counted_tests p) ≡ Some fault → IsWall g p fault
made_wall g p plan fault before h =
    let c : Claims = made p in
    let Few : Type 0 = sequence_gathers p.body ≤ most_counted p.layout in
    let f = failed g c (counted_tests p) (tests p) fault (among_all p) before h in
    record {
      test = f.test;
      fault = f.is;
      before = f.among.0;
      behind = f.among.1;
      stands = f.among.2;
      holds = λ d owns passed.
          let tracks = subst (λ ts. Tracks g d c Few ts) f.among.2 (all_same g p plan d owns).1 in
          let passes_it = tracked g d c Few f.among.0 f.among.1 f.test tracks passed f.own in
          let fails_it = f.fails in
          absurd (cc);
    }
