-- What is made of a plan fails no test of how a certificate was written: its first fault is the plan's own.
use Rattle.std.proofs.Common.{◌≡◌, ℕ, ◌+◌, ◌<◌, ◌≤◌, min, Bool, true, false, Some, None, List, [], ◌∷◌, ◌++◌, length, refl}
use Rattle.std.proofs.Common.{sym, ap, subst, ◌∙◌, arith}
use Rattle.std.specs.Prelude.{if◌then◌else◌, nat_le}
use Rattle.std.proofs.lemmas.Bool.{leb-true, le-leb}
use Rattle.pp_settings.specs.Layout.{Geometry}
use Rattle.pp_settings.specs.Limits.{most_slots}
use Rattle.pp_plan.specs.Tree.{Step, fix, unfix, latch, unlatch, gather, scatter, Statement, step, loop, choice}
use Rattle.pp_plan.specs.Tree.{Sequence, skip, andthen, Alternatives, none, either}
use Rattle.pp_plan.specs.Rules.{uses_bundle}
use Rattle.pp_plan.specs.Terms.{Terms, IsPlan}
use Rattle.pp_cert.specs.declared.check_error.CheckError.{CheckError}
use Rattle.pp_cert.specs.Notes.{Entries, noted_with}
use Rattle.pp_cert.specs.Longest.{sequence_longest}
use Rattle.pp_cert.specs.Walk.{Claims, note_at, empty, same, expected_note, outcome, Test, same_settings, slot_unused}
use Rattle.pp_cert.specs.Walk.{slot_fixed, slot_unlatched, slot_latched, slot_in_order, bundle_gathered, loop_keeps}
use Rattle.pp_cert.specs.Walk.{branch_agrees, holds_nothing, no_more_notes, steps_allowed, steps_enough, peak_allowed}
use Rattle.pp_cert.specs.Walk.{passes, fault_of, first_fault, note_tests, turn_tests, step_tests, statement_tests}
use Rattle.pp_cert.specs.Walk.{sequence_tests, later_tests, statement_end, sequence_end, most_steps}
use Rattle.pp_cert.specs.Limits.{counted, most_counted}
use Rattle.pp_cert.proofs.Faults.{past_first, in_first}
use Rattle.pp_cert.proofs.Passing.{first_passes, both_pass}
use Rattle.pp_cert.proofs.SlotKinds.{StatementKeeps, IsOfKinds, BranchesKeep}
use Rattle.pp_annotate.specs.Growth.{first_note}
use Rattle.pp_annotate.specs.Made.{after_statement, after_sequence, statement_notes, sequence_notes, branches_notes}
use Rattle.pp_annotate.specs.Made.{made_notes, made}
use Rattle.pp_annotate.specs.Annotation.{counted_tests, IsPlansFault}
use Rattle.pp_annotate.proofs.Once.{step_expected}
use Rattle.pp_annotate.proofs.Forms.{Forms, step_forms}
use Rattle.pp_annotate.proofs.Rises.{first_forms}
use Rattle.pp_annotate.proofs.Low.{Low, first_note_low, statement_low}
use Rattle.pp_annotate.proofs.Bundles.{bundles_few, own_kinds}
use Rattle.pp_annotate.proofs.Stands.{Stand, stand_split, stand_itself, statement_places, sequence_places, is_at, ends_at}
use Rattle.pp_annotate.proofs.Begins.{begins, note_none, turn_none}

module _ (g : Geometry) (c : Claims) where
  -- the first fault of these tests is the plan's
  abbrev pub Blames : List Test → Type 0
  Blames ts = (fault : CheckError) → first_fault g c ts ≡ Some fault → IsPlansFault fault

  blames_none : (ts : List Test) → first_fault g c ts ≡ None → Blames ts
  blames_none ts e fault h = absurd (cc)

  blames_then : (xs ys : List Test) → Blames xs → (first_fault g c xs ≡ None → Blames ys) → Blames (xs ++ ys)
  blames_then xs ys a b = λ fault h.
      elim (first_fault g c xs) as (λ o. first_fault g c xs ≡ o → IsPlansFault fault) [
        | None ↦ λ e. b e fault (sym (past_first g c xs ys e) ∙ h)
        | Some other ↦ λ e.
            let is : other ≡ fault = let w = in_first g c xs ys other e in cc in
            a fault (e ∙ ap Some is)
      ] refl

  -- a test whose fault is the plan's, before others
  blames_own : (t : Test) (ts : List Test) → IsPlansFault (fault_of t) → Blames ts → Blames (t ∷ ts)
  blames_own t ts own a = λ fault.
      elim (passes g c t)
      as (λ b. (if b then first_fault g c ts else Some (fault_of t)) ≡ Some fault → IsPlansFault fault) [
        | true ↦ λ h. a fault h
        | false ↦ λ h. let is : fault_of t ≡ fault = cc in subst IsPlansFault is own
      ]

  nothing : Blames []
  nothing = λ fault h. absurd (cc)

  step_blames : (k : ℕ) (s : Step) → Blames (step_tests k s)
  step_blames k (fix s r) = blames_own (slot_unused k s) [] tt nothing
  step_blames k (unfix s) =
      blames_own (slot_fixed k s) (slot_unlatched k s ∷ []) tt (blames_own (slot_unlatched k s) [] tt nothing)
  step_blames k (latch s o) =
      blames_own (slot_fixed k s) (slot_unlatched k s ∷ slot_in_order k s ∷ []) tt
      (blames_own (slot_unlatched k s) (slot_in_order k s ∷ []) tt (blames_own (slot_in_order k s) [] tt nothing))
  step_blames k (unlatch s) =
      blames_own (slot_fixed k s) (slot_latched k s ∷ []) tt (blames_own (slot_latched k s) [] tt nothing)
  step_blames k (gather s r) = nothing
  step_blames k (scatter s) = blames_own (bundle_gathered k s) [] tt nothing

  module _ (stop : ℕ) (some : 1 ≤ stop) (kind : ℕ → Bool) (few : (s : ℕ) → kind s ≡ true → s < most_slots) where
    abbrev Here : ℕ → List Entries → Type 0
    Here k ns = Stand c.peak c.notes k ns

    -- what is noted after a statement is what the check expects
    pub expected_is : (k : ℕ) (s : Statement) (n : Entries) → note_at c k ≡ n
        → first_fault g c (statement_tests (Some stop) k s) ≡ None → Here (k + 1) (statement_notes stop kind s n)
        → expected_note c (outcome (Some stop) k s) ≡ after_statement stop kind s n
    expected_is k (step s) n e may h = ap (noted_with (Some stop) s) e ∙ sym (step_expected stop g c k s n e may)
    expected_is k (loop turns b) n e may h =
        ends_at c stop kind (k + 1) b (first_note stop kind turns b n) (is_at c (k + 1) (first_note stop kind turns b n) h.0) h.2
    expected_is k (choice none) n e may h = e
    expected_is k (choice (either b bs)) n e may h =
        let end : ℕ = sequence_end (k + 1) b in
        let at : k + 1 + length (n ∷ sequence_notes stop kind b n) ≡ end + 1 =
        omega (arith, sequence_places stop kind (k + 1) b n) in
        let p =
        stand_split c.peak c.notes (k + 1) (end + 1) (n ∷ sequence_notes stop kind b n) (branches_notes stop kind bs n) at h in
        ends_at c stop kind (k + 1) b n (is_at c (k + 1) n p.0.0) p.0.2

    -- the tests blame the plan, and where they pass, what is noted after them is in form
    record Fares (ts : List Test) (after : Entries) : Type 0 where
      pub blames : Blames ts
      pub forms : first_fault g c ts ≡ None → Forms kind 0 after

    mutual
      statement_fares : (k : ℕ) (s : Statement) (n : Entries) → StatementKeeps kind s → note_at c k ≡ n
          → Forms kind 0 n → Low stop kind n → Here (k + 1) (statement_notes stop kind s n)
          → Fares (statement_tests (Some stop) k s) (after_statement stop kind s n)
      statement_fares k (step s) n is e f low h = record {
        blames = step_blames k s;
        forms = λ p. step_forms kind stop some g c k s n is e p f;
      }
      statement_fares k (loop turns b) n is e f low h =
          let end : ℕ = sequence_end (k + 1) b in
          let first : Entries = first_note stop kind turns b n in
          let start : first_fault g c (turn_tests (k + 1) k b) ≡ None =
          turn_none g c (k + 1) k b n first e h.0 h.1 (begins stop kind few turns b n some f low) in
          let body =
          sequence_fares (k + 1) b first is.1 (is_at c (k + 1) first h.0) (first_forms stop kind turns b n some f)
          (first_note_low stop kind few turns b n) h.2 in
          let inner : Blames (turn_tests (k + 1) k b ++ sequence_tests (Some stop) (k + 1) b) =
          blames_then (turn_tests (k + 1) k b) (sequence_tests (Some stop) (k + 1) b)
          (blames_none (turn_tests (k + 1) k b) start) (λ p. body.blames) in
          record {
            blames = blames_then (turn_tests (k + 1) k b ++ sequence_tests (Some stop) (k + 1) b) (loop_keeps end k b ∷ [])
                inner (λ p. blames_own (loop_keeps end k b) [] tt nothing);
            forms = λ p.
                let q =
                both_pass g c (turn_tests (k + 1) k b ++ sequence_tests (Some stop) (k + 1) b) (loop_keeps end k b ∷ []) p in
                body.forms (both_pass g c (turn_tests (k + 1) k b) (sequence_tests (Some stop) (k + 1) b) q.0).1;
          }
      statement_fares k (choice none) n is e f low h = record { blames = nothing; forms = λ p. f }
      statement_fares k (choice (either b bs)) n is e f low h =
          let end : ℕ = sequence_end (k + 1) b in
          let front : List Test = note_tests (k + 1) (same k) in
          let inside : List Test = sequence_tests (Some stop) (k + 1) b in
          let at : k + 1 + length (n ∷ sequence_notes stop kind b n) ≡ end + 1 =
          omega (arith, sequence_places stop kind (k + 1) b n) in
          let p =
          stand_split c.peak c.notes (k + 1) (end + 1) (n ∷ sequence_notes stop kind b n) (branches_notes stop kind bs n) at h in
          let body =
          sequence_fares (k + 1) b n is.0 (is_at c (k + 1) n p.0.0) f low p.0.2 in
          let inner : Blames (front ++ inside) =
          blames_then front inside (blames_none front (note_none g c (k + 1) (same k) n p.0.0 p.0.1 e))
          (λ x. body.blames) in
          record {
            blames = blames_then (front ++ inside) (later_tests (Some stop) k end (end + 1) bs) inner
                (λ x. later_blames k end (end + 1) bs n is.1 e f low p.1);
            forms = λ x.
                let q = both_pass g c (front ++ inside) (later_tests (Some stop) k end (end + 1) bs) x in
                body.forms (both_pass g c front inside q.0).1;
          }

      sequence_fares : (k : ℕ) (b : Sequence) (n : Entries) → IsOfKinds kind b → note_at c k ≡ n
          → Forms kind 0 n → Low stop kind n → Here (k + 1) (sequence_notes stop kind b n)
          → Fares (sequence_tests (Some stop) k b) (after_sequence stop kind b n)
      sequence_fares k skip n is e f low h = record { blames = nothing; forms = λ p. f }
      sequence_fares k (andthen s b) n is e f low h =
          let next : ℕ = statement_end k s in
          let after : Entries = after_statement stop kind s n in
          let front : List Test = statement_tests (Some stop) k s in
          let between : List Test = note_tests next (outcome (Some stop) k s) in
          let back : List Test = sequence_tests (Some stop) next b in
          let p =
          stand_split c.peak c.notes (k + 1) next (statement_notes stop kind s n) (after ∷ sequence_notes stop kind b after)
          (statement_places stop kind k s n) h in
          let inner = statement_fares k s n is.0 e f low p.0 in
          let note : first_fault g c front ≡ None → first_fault g c between ≡ None = λ x.
          note_none g c next (outcome (Some stop) k s) after p.1.0 p.1.1 (expected_is k s n e x p.0) in
          let rest : first_fault g c front ≡ None → Fares back (after_sequence stop kind b after) = λ x.
          sequence_fares next b after is.1 (is_at c next after p.1.0) (inner.forms x) (statement_low stop kind few s n low)
          p.1.2 in
          record {
            blames = blames_then (front ++ between) back
                (blames_then front between inner.blames (λ x. blames_none between (note x)))
                (λ x. (rest (both_pass g c front between x).0).blames);
            forms = λ x.
                let q = both_pass g c (front ++ between) back x in
                (rest (both_pass g c front between q.0).0).forms q.1;
          }

      -- of the second and later branches
      later_blames : (before first k : ℕ) (bs : Alternatives) (n : Entries) → BranchesKeep kind bs
          → note_at c before ≡ n → Forms kind 0 n → Low stop kind n → Here k (branches_notes stop kind bs n)
          → Blames (later_tests (Some stop) before first k bs)
      later_blames before first k none n is e f low h = nothing
      later_blames before first k (either b bs) n is e f low h =
          let end : ℕ = sequence_end k b in
          let front : List Test = note_tests k (same before) in
          let inside : List Test = sequence_tests (Some stop) k b in
          let rest : List Test = later_tests (Some stop) before first (end + 1) bs in
          let at : k + length (n ∷ sequence_notes stop kind b n) ≡ end + 1 = omega (arith, sequence_places stop kind k b n) in
          let p =
          stand_split c.peak c.notes k (end + 1) (n ∷ sequence_notes stop kind b n) (branches_notes stop kind bs n) at h in
          let body = sequence_fares k b n is.0 (is_at c k n p.0.0) f low p.0.2 in
          blames_then (front ++ inside) (branch_agrees end first ∷ rest)
          (blames_then front inside (blames_none front (note_none g c k (same before) n p.0.0 p.0.1 e))
          (λ x. body.blames))
          (λ x. blames_own (branch_agrees end first) rest tt
          (later_blames before first (end + 1) bs n is.1 e f low p.1))

    -- of a whole body
    pub body_blames : (b : Sequence) → IsOfKinds kind b → note_at c 0 ≡ [] → Here 1 (sequence_notes stop kind b [])
        → Blames (sequence_tests (Some stop) 0 b)
    body_blames b is e h = (sequence_fares 0 b [] is e tt (λ t k. omega arith) h).blames

  -- steps that are counted from the longest trace are enough, where they are allowed
  steps_blame : (longest : ℕ) → c.steps ≡ min longest counted
      → Blames (steps_allowed ∷ steps_enough longest ∷ peak_allowed ∷ [])
  steps_blame longest is =
      blames_then (steps_allowed ∷ []) (steps_enough longest ∷ peak_allowed ∷ [])
      (blames_own steps_allowed [] tt nothing) (λ h.
      let allowed = first_passes g c steps_allowed [] h in
      let enough : nat_le longest c.steps ≡ true =
      le-leb longest c.steps (omega (arith, is, leb-true c.steps most_steps allowed.0)) in
      blames_then (steps_enough longest ∷ []) (peak_allowed ∷ [])
      (blames_none (steps_enough longest ∷ []) (ap (λ b. if b then None else Some (fault_of (steps_enough longest))) enough))
      (λ x. blames_own peak_allowed [] tt nothing))

pub made_faults : (g : Geometry) (p : Terms) → IsPlan p → (fault : CheckError)
    → first_fault g (made p) (counted_tests p) ≡ Some fault → IsPlansFault fault
made_faults g p plan =
    let c : Claims = made p in
    let kind : ℕ → Bool = uses_bundle p.body in
    let stop : ℕ = most_counted p.layout in
    let k : ℕ = sequence_end 0 p.body in
    let here : Stand c.peak c.notes 0 (made_notes p) = stand_itself (made_notes p) in
    let note = note_none g c 0 empty [] here.0 here.1 refl in
    let body = body_blames g c stop (omega arith) kind (bundles_few p plan) p.body (own_kinds p plan) refl here.2 in
    let few : nat_le (length c.notes) (k + 1) ≡ true =
    le-leb (length c.notes) (k + 1) (omega (arith, sequence_places stop kind 0 p.body [])) in
    let finals : List Test = steps_allowed ∷ steps_enough (sequence_longest p.body) ∷ peak_allowed ∷ [] in
    let walk : Blames g c (note_tests 0 empty ++ sequence_tests (Some stop) 0 p.body) =
    blames_then g c (note_tests 0 empty) (sequence_tests (Some stop) 0 p.body)
    (blames_none g c (note_tests 0 empty) note) (λ x. body) in
    let start : Blames g c (same_settings p.layout ∷ note_tests 0 empty ++ sequence_tests (Some stop) 0 p.body) =
    blames_own g c (same_settings p.layout) (note_tests 0 empty ++ sequence_tests (Some stop) 0 p.body) tt walk in
    let no_more : first_fault g c (no_more_notes (k + 1) ∷ []) ≡ None =
    ap (λ b. if b then None else Some (fault_of (no_more_notes (k + 1)))) few in
    blames_then g c (same_settings p.layout ∷ note_tests 0 empty ++ sequence_tests (Some stop) 0 p.body)
    (holds_nothing k ∷ no_more_notes (k + 1) ∷ finals) start
    (λ x. blames_own g c (holds_nothing k) (no_more_notes (k + 1) ∷ finals) tt
    (blames_then g c (no_more_notes (k + 1) ∷ []) finals (blames_none g c (no_more_notes (k + 1) ∷ []) no_more)
    (λ y. steps_blame g c (sequence_longest p.body) refl)))
