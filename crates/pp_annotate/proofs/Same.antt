-- In version 1 a certificate without bundles that is refused for what the plan does is refused as the one that is made.
use Rattle.std.proofs.Common.{◌≡◌, ℕ, zero, suc, ◌+◌, ◌<◌, ◌≤◌, Bool, true, false, Some, None, List, [], ◌∷◌, ◌++◌}
use Rattle.std.proofs.Common.{length, refl, sym, ap, subst, ◌∙◌, arith, inr}
use Rattle.std.specs.Prelude.{slice_get, unwrap_or, is_some, if◌then◌else◌, not, ◌==◌, ◌&&◌, nat_lt, All}
use Rattle.std.proofs.lemmas.Bool.{and_parts}
use Rattle.pp_settings.specs.Layout.{Geometry}
use Rattle.pp_settings.specs.Limits.{most_slots}
use Rattle.pp_plan.specs.Tree.{Step, fix, unfix, latch, unlatch, gather, scatter, Statement, step, loop, choice}
use Rattle.pp_plan.specs.Tree.{Sequence, skip, andthen, Alternatives, none, either, scatters}
use Rattle.pp_plan.specs.Rules.{uses_bundle}
use Rattle.pp_plan.specs.Terms.{Terms, IsPlan}
use Rattle.pp_cert.specs.declared.check_error.CheckError.{CheckError}
use Rattle.pp_cert.specs.declared.note.Entry.TheVariants.{Slot, Bundle}
use Rattle.pp_cert.specs.Limits.{most_counted}
use Rattle.pp_cert.specs.Held.{is_latched_page}
use Rattle.pp_cert.specs.Notes.{Entries, note_pins, noted_at, bound_at, plain_part, is_bundle, same_note, is_in_form}
use Rattle.pp_cert.specs.Notes.{is_above_latched, is_begun, has_grown, all_bundles, begins_turns, ends_as_begun}
use Rattle.pp_cert.specs.Longest.{sequence_longest}
use Rattle.pp_cert.specs.Walk.{Claims, note_at, Expectation, empty, same, outcome, Test, same_settings}
use Rattle.pp_cert.specs.Walk.{there, as_expected, may_begin, within_peak, slot_unused, slot_fixed, slot_unlatched}
use Rattle.pp_cert.specs.Walk.{slot_latched, slot_in_order, bundle_gathered, loop_keeps, loop_grows, branch_agrees}
use Rattle.pp_cert.specs.Walk.{holds_nothing, no_more_notes, steps_allowed, steps_enough, peak_allowed, passes, fault_of}
use Rattle.pp_cert.specs.Walk.{first_fault, note_tests, turn_tests, step_tests, statement_tests, sequence_tests}
use Rattle.pp_cert.specs.Walk.{later_tests, tests, statement_end, sequence_end}
use Rattle.pp_cert.proofs.Faults.{past_first, in_first}
use Rattle.pp_cert.proofs.Passing.{first_passes, both_pass, note_passes, turn_passes, note_same}
use Rattle.pp_cert.proofs.SlotKinds.{StatementKeeps, IsOfKinds, BranchesKeep}
use Rattle.pp_annotate.specs.Growth.{first_note}
use Rattle.pp_annotate.specs.Made.{after_statement, after_sequence, statement_notes, sequence_notes, branches_notes}
use Rattle.pp_annotate.specs.Made.{made_notes, made}
use Rattle.pp_annotate.specs.Annotation.{counted_tests, IsBeforeLimits, HasPagesAlone}
use Rattle.pp_annotate.proofs.Forms.{Forms}
use Rattle.pp_annotate.proofs.Rises.{first_forms, first_same}
use Rattle.pp_annotate.proofs.Bundles.{bundles_few, own_kinds}
use Rattle.pp_annotate.proofs.Stands.{Stand, stand_split, stand_itself, statement_places, sequence_places, is_at, ends_at}
use Rattle.pp_annotate.proofs.Written.{MayBeMade, statement_written, sequence_written}
use Rattle.pp_annotate.proofs.Begins.{begins, note_none, turn_none}
use Rattle.pp_annotate.proofs.Low.{Low}
use Rattle.pp_annotate.proofs.Faults.{expected_is}

-- ---- notes without bundles

-- no bundle of such a note fails a test
none_fails : (P : ℕ → Bool) (n : Entries) → all_bundles P (plain_part n) ≡ true
none_fails P [] = refl
none_fails P (Slot s r h ∷ n) = none_fails P n
none_fails P (Bundle s k ∷ n) = none_fails P n

pages_alone : (n : Entries) → All (λ e. is_bundle e ≡ false) n → plain_part n ≡ n
pages_alone [] a = refl
pages_alone (Slot s r h ∷ n) a =
    ap (λ x. Slot s r h ∷ x) (pages_alone n (λ k d l. a (suc k) d (omega (arith, l))))
pages_alone (Bundle s k ∷ n) a = absurd (let other = a 0 (Bundle s k) (omega arith) in cc other)

note_alone : (ns : List Entries) (k : ℕ) → All (λ n. All (λ e. is_bundle e ≡ false) n) ns
    → plain_part (unwrap_or (slice_get ns k) []) ≡ unwrap_or (slice_get ns k) []
note_alone [] k a = refl
note_alone (n ∷ ns) zero a = pages_alone n (a 0 [] (omega arith))
note_alone (n ∷ ns) (suc k) a = note_alone ns k (λ j d l. a (suc j) d (omega (arith, l)))

-- the first note of a loop's body has the pages of the note before the loop
same_pages : (b : Sequence) (before first : Entries) → begins_turns (scatters b) before first ≡ true
    → plain_part first ≡ plain_part before
same_pages b before first h =
    let P : ℕ → Bool = λ s. is_begun (scatters b s) (bound_at before s) (bound_at first s) in
    let p =
    and_parts (is_in_form first)
    (same_note (plain_part first) (plain_part before) && (all_bundles P before && all_bundles P first)) h in
    let q =
    and_parts (same_note (plain_part first) (plain_part before)) (all_bundles P before && all_bundles P first) p.1 in
    note_same (plain_part first) (plain_part before) q.0

module _ (g : Geometry) (d c : Claims) where
  -- where the first fault of `d` in these tests is one of what the plan does, it is that of `c` in those too
  abbrev Owns : (xs us : List Test) → Type 0
  Owns xs us =
      (fault : CheckError) → first_fault g d xs ≡ Some fault → IsBeforeLimits fault → first_fault g c us ≡ Some fault

  -- and where `d` has none, `c` has none
  abbrev Same : (xs us : List Test) → Type 0
  Same xs us = (first_fault g d xs ≡ None → first_fault g c us ≡ None) × Owns xs us

  owns_then : (xs us ys vs : List Test) → Same xs us → (first_fault g d xs ≡ None → Owns ys vs)
      → Owns (xs ++ ys) (us ++ vs)
  owns_then xs us ys vs a b = λ fault h own.
      elim (first_fault g d xs) as (λ o. first_fault g d xs ≡ o → first_fault g c (us ++ vs) ≡ Some fault) [
        | None ↦ λ e. past_first g c us vs (a.0 e) ∙ b e fault (sym (past_first g d xs ys e) ∙ h) own
        | Some other ↦ λ e.
            let is : other ≡ fault = let w = in_first g d xs ys other e in cc in
            in_first g c us vs fault (a.1 fault (e ∙ ap Some is) own)
      ] refl

  same_then : (xs us ys vs : List Test) → Same xs us → (first_fault g d xs ≡ None → Same ys vs)
      → Same (xs ++ ys) (us ++ vs)
  same_then xs us ys vs a b = (
    λ h. let p = both_pass g d xs ys h in past_first g c us vs (a.0 p.0) ∙ (b p.0).0 p.1,
    owns_then xs us ys vs a (λ h. (b h).1),
  )

  same_none : Same [] []
  same_none = (λ h. h, λ fault h own. h)

  -- a test that both pass or both fail
  same_cons : (t : Test) (ts us : List Test) → passes g d t ≡ passes g c t → Same ts us → Same (t ∷ ts) (t ∷ us)
  same_cons t ts us e rest =
      elim (passes g c t) as (λ b. passes g d t ≡ b
      → ((if passes g d t then first_fault g d ts else Some (fault_of t)) ≡ None
      → (if b then first_fault g c us else Some (fault_of t)) ≡ None)
      × ((fault : CheckError) → (if passes g d t then first_fault g d ts else Some (fault_of t)) ≡ Some fault
      → IsBeforeLimits fault → (if b then first_fault g c us else Some (fault_of t)) ≡ Some fault)) [
        | true ↦ λ p. (
          λ h. rest.0 (ap (λ b. if b then first_fault g d ts else Some (fault_of t)) (sym p) ∙ h),
          λ fault h own. rest.1 fault (ap (λ b. if b then first_fault g d ts else Some (fault_of t)) (sym p) ∙ h) own,
        )
        | false ↦ λ p. (
          λ h. ap (λ b. if b then first_fault g d ts else Some (fault_of t)) (sym p) ∙ h,
          λ fault h own. ap (λ b. if b then first_fault g d ts else Some (fault_of t)) (sym p) ∙ h,
        )
      ] e

  -- ---- tests that tell no fault of what the plan does

  abbrev Never : List Test → Type 0
  Never ts = (fault : CheckError) → first_fault g d ts ≡ Some fault → IsBeforeLimits fault → ⊥

  never_none : Never []
  never_none = λ fault h own. absurd (cc)

  never_cons : (t : Test) (ts : List Test) → (IsBeforeLimits (fault_of t) → ⊥) → Never ts → Never (t ∷ ts)
  never_cons t ts not_own a = λ fault.
      elim (passes g d t)
      as (λ b. (if b then first_fault g d ts else Some (fault_of t)) ≡ Some fault → IsBeforeLimits fault → ⊥) [
        | true ↦ λ h own. a fault h own
        | false ↦ λ h own. let is : fault ≡ fault_of t = cc in not_own (subst IsBeforeLimits is own)
      ]

  note_never : (k : ℕ) (x : Expectation) → Never (note_tests k x)
  note_never k x =
      never_cons (there k) (as_expected k x ∷ within_peak k ∷ []) (λ own. own)
      (never_cons (as_expected k x) (within_peak k ∷ []) (λ own. own)
      (never_cons (within_peak k) [] (λ own. own) never_none))

  turn_never : (k before : ℕ) (b : Sequence) → Never (turn_tests k before b)
  turn_never k before b =
      never_cons (there k) (may_begin k before b ∷ within_peak k ∷ []) (λ own. own)
      (never_cons (may_begin k before b) (within_peak k ∷ []) (λ own. own)
      (never_cons (within_peak k) [] (λ own. own) never_none))

  same_never : (ts us : List Test) → first_fault g c us ≡ None → Never ts → Same ts us
  same_never ts us e a = (λ h. e, λ fault h own. absurd (a fault h own))

  -- the tests after the walk
  last_never : (count longest : ℕ)
      → Owns (no_more_notes count ∷ steps_allowed ∷ steps_enough longest ∷ peak_allowed ∷ [])
      (no_more_notes count ∷ steps_allowed ∷ steps_enough longest ∷ peak_allowed ∷ [])
  last_never count longest = λ fault h own.
      let never : Never (no_more_notes count ∷ steps_allowed ∷ steps_enough longest ∷ peak_allowed ∷ []) =
      never_cons (no_more_notes count) (steps_allowed ∷ steps_enough longest ∷ peak_allowed ∷ []) (λ x. x)
      (never_cons steps_allowed (steps_enough longest ∷ peak_allowed ∷ []) (λ x. x)
      (never_cons (steps_enough longest) (peak_allowed ∷ []) (λ x. x)
      (never_cons peak_allowed [] (λ x. x) never_none))) in
      absurd (never fault h own)

  step_same : (k : ℕ) (s : Step) → note_at d k ≡ note_at c k → Same (step_tests k s) (step_tests k s)
  step_same k (fix s r) e =
      same_cons (slot_unused k s) [] [] (ap (λ n. not (is_some (noted_at n s)) && bound_at n s == 0) e) same_none
  step_same k (unfix s) e =
      same_cons (slot_fixed k s) (slot_unlatched k s ∷ []) (slot_unlatched k s ∷ []) (ap (λ n. is_some (noted_at n s)) e)
      (same_cons (slot_unlatched k s) [] [] (ap (λ n. not (is_latched_page (noted_at n s))) e) same_none)
  step_same k (latch s m) e =
      same_cons (slot_fixed k s) (slot_unlatched k s ∷ slot_in_order k s ∷ []) (slot_unlatched k s ∷ slot_in_order k s
      ∷ []) (ap (λ n. is_some (noted_at n s)) e)
      (same_cons (slot_unlatched k s) (slot_in_order k s ∷ []) (slot_in_order k s ∷ [])
      (ap (λ n. not (is_latched_page (noted_at n s))) e)
      (same_cons (slot_in_order k s) [] [] (ap (λ n. is_above_latched g n s) e) same_none))
  step_same k (unlatch s) e =
      same_cons (slot_fixed k s) (slot_latched k s ∷ []) (slot_latched k s ∷ []) (ap (λ n. is_some (noted_at n s)) e)
      (same_cons (slot_latched k s) [] [] (ap (λ n. is_latched_page (noted_at n s)) e) same_none)
  step_same k (gather s r) e = same_none
  step_same k (scatter s) e = same_cons (bundle_gathered k s) [] [] (ap (λ n. nat_lt 0 (bound_at n s)) e) same_none

  -- two notes that are compared
  pair_same : (j k : ℕ) (n m : Entries) → note_at d j ≡ n → note_at c j ≡ n → note_at d k ≡ m → note_at c k ≡ m
      → same_note (note_at d j) (note_at d k) ≡ same_note (note_at c j) (note_at c k)
  pair_same j k n m dj cj dk ck = λ i. same_note ((dj ∙ sym cj) i) ((dk ∙ sym ck) i)

  module _ (stop : ℕ) (some : 1 ≤ stop) (kind : ℕ → Bool) (plain : (s : ℕ) → kind s ≡ false)
      (alone : (k : ℕ) → plain_part (note_at d k) ≡ note_at d k) where
    abbrev Here : ℕ → List Entries → Type 0
    Here k ns = Stand c.peak c.notes k ns

    few : (s : ℕ) → kind s ≡ true → s < most_slots
    few s k = absurd (let other = plain s in cc (other, k))

    low_note : (n : Entries) → Low stop kind n
    low_note n = λ t k. absurd (let other = plain t in cc (other, k))

    may : MayBeMade stop kind d
    may = inr (plain, alone)

    -- `d` has no bundle whose bound doesn't grow
    grows : (end k first turns : ℕ) (b : Sequence) → first_fault g d (loop_grows end k first turns b ∷ []) ≡ None
    grows end k first turns b =
        let P : ℕ → Bool = λ s. has_grown turns (scatters b s) (bound_at (note_at d k) s) (bound_at (note_at d first) s)
        (bound_at (note_at d end) s) in
        let all : (j : ℕ) → all_bundles P (note_at d j) ≡ true = λ j.
        ap (λ n. all_bundles P n) (sym (alone j)) ∙ none_fails P (note_at d j) in
        let one : all_bundles P (note_at d k) ≡ true = all k in
        let two : all_bundles P (note_at d first) ≡ true = all first in
        let three : all_bundles P (note_at d end) ≡ true = all end in
        (λ i. if one i && (two i && three i) then None else Some (fault_of (loop_grows end k first turns b)))

    -- its first note in a loop's body is the one before the loop
    first_is : (k : ℕ) (b : Sequence) → begins_turns (scatters b) (note_at d k) (note_at d (k + 1)) ≡ true
        → note_at d (k + 1) ≡ note_at d k
    first_is k b h = sym (alone (k + 1)) ∙ same_pages b (note_at d k) (note_at d (k + 1)) h ∙ alone k

    mutual
      statement_same : (k : ℕ) (s : Statement) (n : Entries) → StatementKeeps kind s → note_at d k ≡ n
          → note_at c k ≡ n → Forms kind 0 n → note_pins n ≤ d.peak → Here (k + 1) (statement_notes stop kind s n)
          → Same (statement_tests None k s) (statement_tests (Some stop) k s)
      statement_same k (step s) n is e f form small h = step_same k s (e ∙ sym f)
      statement_same k (loop turns b) n is e f form small h =
          let end : ℕ = sequence_end (k + 1) b in
          let first : Entries = first_note stop kind turns b n in
          let front : List Test = turn_tests (k + 1) k b in
          let its_form : Forms kind 0 first = first_forms stop kind turns b n some form in
          let start : Same front front =
          same_never front front (turn_none g c (k + 1) k b n first f h.0 h.1 (begins stop kind few turns b n some form (low_note n)))
          (turn_never (k + 1) k b) in
          let mine = is_at c (k + 1) first h.0 in
          let theirs : first_fault g d front ≡ None → note_at d (k + 1) ≡ first = λ p.
          first_is k b (turn_passes g d (k + 1) k b p).1 ∙ e ∙ sym (first_same stop kind turns b n plain) in
          let low : first_fault g d front ≡ None → note_pins first ≤ d.peak = λ p.
          subst (λ x. note_pins x ≤ d.peak) (theirs p) (turn_passes g d (k + 1) k b p).2 in
          let inner : Same (front ++ sequence_tests None (k + 1) b) (front ++ sequence_tests (Some stop) (k + 1) b) =
          same_then front front (sequence_tests None (k + 1) b) (sequence_tests (Some stop) (k + 1) b) start
          (λ p. sequence_same (k + 1) b first is.1 (theirs p) mine its_form (low p) h.2) in
          same_then (front ++ sequence_tests None (k + 1) b) (front ++ sequence_tests (Some stop) (k + 1) b)
          (loop_keeps end k b ∷ loop_grows end k (k + 1) turns b ∷ []) (loop_keeps end k b ∷ []) inner (λ p.
          let q = both_pass g d front (sequence_tests None (k + 1) b) p in
          let last =
          (sequence_written g d stop some kind few may (k + 1) b first is.1 (theirs q.0) its_form (low q.0) q.1).1 in
          let same_last : note_at d end ≡ note_at c end =
          last ∙ sym (ends_at c stop kind (k + 1) b first mine h.2) in
          let same_before : note_at d k ≡ note_at c k = e ∙ sym f in
          same_cons (loop_keeps end k b) (loop_grows end k (k + 1) turns b ∷ []) []
          (λ i. ends_as_begun (scatters b) (same_before i) (same_last i))
          (λ x. refl, λ fault x own. absurd (let other = grows end k (k + 1) turns b in cc)))
      statement_same k (choice none) n is e f form small h = same_none
      statement_same k (choice (either b bs)) n is e f form small h =
          let end : ℕ = sequence_end (k + 1) b in
          let front : List Test = note_tests (k + 1) (same k) in
          let at : k + 1 + length (n ∷ sequence_notes stop kind b n) ≡ end + 1 =
          omega (arith, sequence_places stop kind (k + 1) b n) in
          let s =
          stand_split c.peak c.notes (k + 1) (end + 1) (n ∷ sequence_notes stop kind b n) (branches_notes stop kind bs n) at h in
          let start : Same front front =
          same_never front front (note_none g c (k + 1) (same k) n s.0.0 s.0.1 f) (note_never (k + 1) (same k)) in
          let mine = is_at c (k + 1) n s.0.0 in
          let theirs : first_fault g d front ≡ None → note_at d (k + 1) ≡ n = λ p.
          (note_passes g d (k + 1) (same k) p).1 ∙ e in
          let inner : Same (front ++ sequence_tests None (k + 1) b) (front ++ sequence_tests (Some stop) (k + 1) b) =
          same_then front front (sequence_tests None (k + 1) b) (sequence_tests (Some stop) (k + 1) b) start
          (λ p. sequence_same (k + 1) b n is.0 (theirs p) mine form small s.0.2) in
          same_then (front ++ sequence_tests None (k + 1) b) (front ++ sequence_tests (Some stop) (k + 1) b)
          (later_tests None k end (end + 1) bs) (later_tests (Some stop) k end (end + 1) bs) inner (λ p.
          let q = both_pass g d front (sequence_tests None (k + 1) b) p in
          let last = (sequence_written g d stop some kind few may (k + 1) b n is.0 (theirs q.0) form small q.1).1 in
          later_same k end (end + 1) bs n (after_sequence stop kind b n) is.1 e f last (ends_at c stop kind (k + 1) b n mine s.0.2)
          form small s.1)

      sequence_same : (k : ℕ) (b : Sequence) (n : Entries) → IsOfKinds kind b → note_at d k ≡ n → note_at c k ≡ n
          → Forms kind 0 n → note_pins n ≤ d.peak → Here (k + 1) (sequence_notes stop kind b n)
          → Same (sequence_tests None k b) (sequence_tests (Some stop) k b)
      sequence_same k skip n is e f form small h = same_none
      sequence_same k (andthen s b) n is e f form small h =
          let next : ℕ = statement_end k s in
          let m : Entries = after_statement stop kind s n in
          let theirs_between : List Test = note_tests next (outcome None k s) in
          let between : List Test = note_tests next (outcome (Some stop) k s) in
          let p =
          stand_split c.peak c.notes (k + 1) next (statement_notes stop kind s n) (m ∷ sequence_notes stop kind b m)
          (statement_places stop kind k s n) h in
          let inner = statement_same k s n is.0 e f form small p.0 in
          let note : first_fault g d (statement_tests None k s) ≡ None → Same theirs_between between = λ q.
          let expected = expected_is g c stop some kind few k s n f (inner.0 q) p.0 in
          same_never theirs_between between (note_none g c next (outcome (Some stop) k s) m p.1.0 p.1.1 expected)
          (note_never next (outcome None k s)) in
          let first : Same (statement_tests None k s ++ theirs_between) (statement_tests (Some stop) k s ++ between) =
          same_then (statement_tests None k s) (statement_tests (Some stop) k s) theirs_between between inner note in
          same_then (statement_tests None k s ++ theirs_between) (statement_tests (Some stop) k s ++ between)
          (sequence_tests None next b) (sequence_tests (Some stop) next b) first (λ q.
          let r = both_pass g d (statement_tests None k s) theirs_between q in
          let their = note_passes g d next (outcome None k s) r.1 in
          let done = statement_written g d stop some kind few may k s n is.0 e form small r.0 in
          let theirs : note_at d next ≡ m = their.1 ∙ done.1 in
          sequence_same next b m is.1 theirs (is_at c next m p.1.0) done.2
          (subst (λ x. note_pins x ≤ d.peak) theirs their.2) p.1.2)

      -- of the second and later branches; `m` is noted at the end of the first one
      later_same : (before first k : ℕ) (bs : Alternatives) (n m : Entries) → BranchesKeep kind bs
          → note_at d before ≡ n → note_at c before ≡ n → note_at d first ≡ m → note_at c first ≡ m
          → Forms kind 0 n → note_pins n ≤ d.peak → Here k (branches_notes stop kind bs n)
          → Same (later_tests None before first k bs) (later_tests (Some stop) before first k bs)
      later_same before first k none n m is e f u v form small h = same_none
      later_same before first k (either b bs) n m is e f u v form small h =
          let end : ℕ = sequence_end k b in
          let front : List Test = note_tests k (same before) in
          let at : k + length (n ∷ sequence_notes stop kind b n) ≡ end + 1 = omega (arith, sequence_places stop kind k b n) in
          let s =
          stand_split c.peak c.notes k (end + 1) (n ∷ sequence_notes stop kind b n) (branches_notes stop kind bs n) at h in
          let start : Same front front =
          same_never front front (note_none g c k (same before) n s.0.0 s.0.1 f) (note_never k (same before)) in
          let mine = is_at c k n s.0.0 in
          let theirs : first_fault g d front ≡ None → note_at d k ≡ n = λ p.
          (note_passes g d k (same before) p).1 ∙ e in
          let inner : Same (front ++ sequence_tests None k b) (front ++ sequence_tests (Some stop) k b) =
          same_then front front (sequence_tests None k b) (sequence_tests (Some stop) k b) start
          (λ p. sequence_same k b n is.0 (theirs p) mine form small s.0.2) in
          same_then (front ++ sequence_tests None k b) (front ++ sequence_tests (Some stop) k b)
          (branch_agrees end first ∷ later_tests None before first (end + 1) bs)
          (branch_agrees end first ∷ later_tests (Some stop) before first (end + 1) bs) inner (λ p.
          let q = both_pass g d front (sequence_tests None k b) p in
          let last = (sequence_written g d stop some kind few may k b n is.0 (theirs q.0) form small q.1).1 in
          same_cons (branch_agrees end first) (later_tests None before first (end + 1) bs)
          (later_tests (Some stop) before first (end + 1) bs)
          (pair_same end first (after_sequence stop kind b n) m last (ends_at c stop kind k b n mine s.0.2) u v)
          (later_same before first (end + 1) bs n m is.1 e f u v form small s.1))

pub made_same : (g : Geometry) (p : Terms) → IsPlan p → p.version ≡ 1 → (d : Claims) (fault : CheckError)
    → HasPagesAlone d → first_fault g d (tests p) ≡ Some fault → IsBeforeLimits fault
    → first_fault g (made p) (counted_tests p) ≡ Some fault
made_same g p plan one d fault pages =
    let c : Claims = made p in
    let stop : ℕ = most_counted p.layout in
    let some : 1 ≤ stop = omega arith in
    let kind : ℕ → Bool = uses_bundle p.body in
    let plain : (s : ℕ) → kind s ≡ false = plan.plain one in
    let alone : (k : ℕ) → plain_part (note_at d k) ≡ note_at d k = λ k. note_alone d.notes k pages in
    let kinds : IsOfKinds kind p.body = own_kinds p plan in
    let k : ℕ = sequence_end 0 p.body in
    let here : Stand c.peak c.notes 0 (made_notes p) = stand_itself (made_notes p) in
    let front : List Test = same_settings p.layout ∷ note_tests 0 empty in
    let start : Same g d c (note_tests 0 empty) (note_tests 0 empty) =
    same_never g d c (note_tests 0 empty) (note_tests 0 empty) (note_none g c 0 empty [] here.0 here.1 refl)
    (note_never g d c 0 empty) in
    let settings : Same g d c front front =
    same_cons g d c (same_settings p.layout) (note_tests 0 empty) (note_tests 0 empty) refl start in
    let finals : List Test =
    no_more_notes (k + 1) ∷ steps_allowed ∷ steps_enough (sequence_longest p.body) ∷ peak_allowed ∷ [] in
    let note : first_fault g d front ≡ None → note_at d 0 ≡ [] = λ h.
    (note_passes g d 0 empty (first_passes g d (same_settings p.layout) (note_tests 0 empty) h).1).1 in
    let walk : Same g d c (front ++ sequence_tests None 0 p.body) (front ++ sequence_tests (Some stop) 0 p.body) =
    same_then g d c front front (sequence_tests None 0 p.body) (sequence_tests (Some stop) 0 p.body) settings
    (λ h. sequence_same g d c stop some kind plain alone 0 p.body [] kinds (note h) refl tt (omega arith) here.2) in
    owns_then g d c (front ++ sequence_tests None 0 p.body) (front ++ sequence_tests (Some stop) 0 p.body)
    (holds_nothing k ∷ finals) (holds_nothing k ∷ finals) walk (λ h.
    let q = both_pass g d front (sequence_tests None 0 p.body) h in
    let theirs =
    (sequence_written g d stop some kind (bundles_few p plan) (inr (plain, alone)) 0 p.body [] kinds (note q.0) tt (omega arith)
    q.1).1 in
    let mine = ends_at c stop kind 0 p.body [] refl here.2 in
    let nothing : passes g d (holds_nothing k) ≡ passes g c (holds_nothing k) =
    ap (λ n. length n == 0) (theirs ∙ sym mine) in
    owns_then g d c (holds_nothing k ∷ []) (holds_nothing k ∷ []) finals finals
    (same_cons g d c (holds_nothing k) [] [] nothing (same_none g d c))
    (λ e. last_never g d c (k + 1) (sequence_longest p.body))) fault
