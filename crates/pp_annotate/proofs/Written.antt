-- The notes of an accepted certificate are those that are made.
use Rattle.std.proofs.Common.{◌≡◌, ℕ, ◌+◌, ◌-◌, ◌*◌, ◌<◌, ◌≤◌, Bool, true, false, Some, None, List, [], ◌∷◌}
use Rattle.std.proofs.Common.{◌++◌, length, refl, sym, ap, subst, ◌∙◌, arith, inl, inr}
use Rattle.std.specs.Prelude.{◌⊎◌, ◌&&◌, if◌then◌else◌}
use Rattle.std.proofs.lemmas.Bool.{and_parts}
use Rattle.pp_settings.specs.Layout.{Geometry}
use Rattle.pp_settings.specs.Limits.{most_slots}
use Rattle.pp_plan.specs.Tree.{Statement, step, loop, choice, Sequence, skip, andthen, Alternatives, none, either}
use Rattle.pp_plan.specs.Tree.{scatters}
use Rattle.pp_plan.specs.Rules.{uses_bundle}
use Rattle.pp_plan.specs.Terms.{Terms, IsPlan}
use Rattle.pp_cert.specs.declared.note.Entry.TheVariants.{Slot, Bundle}
use Rattle.pp_cert.specs.Limits.{most_counted}
use Rattle.pp_cert.specs.Notes.{Entries, note_pins, bound_at, plain_part, same_note, noted_with, is_in_form, is_begun}
use Rattle.pp_cert.specs.Notes.{all_bundles, begins_turns}
use Rattle.pp_cert.specs.Walk.{Claims, note_at, same, expected_note, outcome, loop_keeps, loop_grows, branch_agrees}
use Rattle.pp_cert.specs.Walk.{first_fault, turn_tests, note_tests, statement_tests, sequence_tests, later_tests}
use Rattle.pp_cert.specs.Walk.{statement_end, sequence_end}
use Rattle.pp_cert.proofs.Passing.{first_passes, both_pass, note_same, note_passes, turn_passes, loop_fits, TurnsFit}
use Rattle.pp_cert.proofs.Passing.{AllPass}
use Rattle.pp_cert.proofs.SlotKinds.{StatementKeeps, IsOfKinds, BranchesKeep}
use Rattle.pp_annotate.specs.Growth.{growth, rise, risen, first_note}
use Rattle.pp_annotate.specs.Made.{after_statement, after_sequence, statement_notes, sequence_notes, branches_notes}
use Rattle.pp_annotate.specs.Made.{made_notes, greatest}
use Rattle.pp_annotate.proofs.Pins.{bound_pins}
use Rattle.pp_annotate.proofs.Forms.{Forms, ArePlain, forms_plain, part_plain, plain_of_part, rising_forms, step_forms}
use Rattle.pp_annotate.proofs.Once.{step_expected}
use Rattle.pp_annotate.proofs.Alike.{alike}
use Rattle.pp_annotate.proofs.Rises.{first_part, first_forms, first_bundle, first_plain, first_same}
use Rattle.pp_annotate.proofs.Grows.{noted_in_full, plain_sequence, sequence_grows}
use Rattle.pp_annotate.proofs.Bundles.{bundles_few, own_kinds}
use Rattle.pp_annotate.proofs.Stands.{Stand, stand_append, stand_whole, stand_greatest, statement_places}
use Rattle.pp_annotate.proofs.Stands.{sequence_places}

-- ---- the bound at the first place of a body, from what the check tests

difference : (n b f l g : ℕ) → f ≡ b + (n - 1) * (l - f) → l ≡ f + g → f ≡ b + (n - 1) * g
difference n b f l g e k =
    let d : l - f ≡ g = omega (arith, k) in
    e ∙ ap (λ x. b + (n - 1) * x) d

risen_is : (stop b r f : ℕ) → f ≡ b + r → f < stop → f ≡ risen stop b r
risen_is stop b r f e small = omega (arith, e, small)

risen_none : (stop b r f : ℕ) → f ≡ b → r ≡ 0 → f < stop → f ≡ risen stop b r
risen_none stop b r f e z small = omega (arith, e, z, small)

-- pages have no bounds
no_bound : (n : Entries) (t : ℕ) → bound_at (plain_part n) t ≡ 0
no_bound [] t = refl
no_bound (Slot s r h ∷ n) t = no_bound n t
no_bound (Bundle s k ∷ n) t = no_bound n t

-- What lets the notes of claims be those that are made: bounds are counted in full, or there are no bundles.
abbrev pub MayBeMade : (stop : ℕ) → (kind : ℕ → Bool) → Claims → Type 0
MayBeMade stop kind c =
    (c.peak < stop) ⊎ (((s : ℕ) → kind s ≡ false) × ((k : ℕ) → plain_part (note_at c k) ≡ note_at c k))

module _ (g : Geometry) (c : Claims) (stop : ℕ) (some : 1 ≤ stop) (kind : ℕ → Bool)
    (few : (s : ℕ) → kind s ≡ true → s < most_slots)
    (may : MayBeMade stop kind c) where
  abbrev Here : ℕ → List Entries → Type 0
  Here k ns = Stand c.peak c.notes k ns

  -- bounds are counted in full
  in_full : (k : ℕ) (n : Entries) → note_at c k ≡ n → note_pins n ≤ c.peak → (t : ℕ) → bound_at n t < stop
  in_full k n e small t =
      elim may [
        | inl low ↦ omega (arith, bound_pins t n, small, low)
        | inr plain ↦
            let none = ap (λ x. bound_at x t) (sym e ∙ sym (plain.1 k)) ∙ no_bound (note_at c k) t in
            omega (arith, none, some)
      ]

  -- the first note of a loop's body is in form, and has the pages of the note before the loop
  record Begun (b : Sequence) (before first : Entries) : Type 0 where
    pub part : plain_part first ≡ plain_part before
    pub forms : Forms kind 0 first

  begun : (b : Sequence) (before first : Entries) → begins_turns (scatters b) before first ≡ true
      → Forms kind 0 before → Begun b before first
  begun b before first h f =
      let P : ℕ → Bool = λ s. is_begun (scatters b s) (bound_at before s) (bound_at first s) in
      let p =
      and_parts (is_in_form first)
      (same_note (plain_part first) (plain_part before) && (all_bundles P before && all_bundles P first)) h in
      let q =
      and_parts (same_note (plain_part first) (plain_part before)) (all_bundles P before && all_bundles P first) p.1 in
      let pages = note_same (plain_part first) (plain_part before) q.0 in
      let plain : ArePlain kind (plain_part first) =
      subst (λ x. ArePlain kind x) (sym pages) (part_plain kind before (forms_plain kind 0 before f)) in
      record { part = pages; forms = rising_forms kind 0 first p.0 (plain_of_part kind first plain) }

  -- its bounds are those that are made
  bounds_are : (turns : ℕ) (b : Sequence) (n first last : Entries) (t : ℕ) → IsOfKinds kind b
      → TurnsFit turns (scatters b t) (bound_at n t) (bound_at first t) (bound_at last t)
      → bound_at first t < stop → (scatters b t ≡ false → bound_at last t ≡ bound_at first t + growth b t)
      → bound_at first t ≡ bound_at (first_note stop kind turns b n) t
  bounds_are turns b n first last t is fit small grows =
      let by : scatters b t ≡ false → bound_at first t ≡ bound_at n t + (turns - 1) * growth b t = λ still.
      difference turns (bound_at n t) (bound_at first t) (bound_at last t) (growth b t) fit.starts (grows still) in
      elim (kind t) as (λ x. kind t ≡ x → bound_at first t ≡ bound_at (first_note stop kind turns b n) t) [
        | true ↦ λ k.
            let e = first_bundle stop kind turns b n t (few t k) k in
            elim (scatters b t) as (λ x. scatters b t ≡ x
            → bound_at first t ≡ bound_at (first_note stop kind turns b n) t) [
              | true ↦ λ s.
                  let none : rise turns b t ≡ 0 = ap (λ x. if x then 0 else (turns - 1) * growth b t) s in
                  risen_none stop (bound_at n t) (rise turns b t) (bound_at first t) (fit.stays s).0 none small ∙ sym e
              | false ↦ λ s.
                  let up : rise turns b t ≡ (turns - 1) * growth b t =
                  ap (λ x. if x then 0 else (turns - 1) * growth b t) s in
                  risen_is stop (bound_at n t) (rise turns b t) (bound_at first t)
                  (by s ∙ ap (λ x. bound_at n t + x) (sym up)) small
                  ∙ sym e
            ] refl
        | false ↦ λ k.
            let p = plain_sequence kind b t k is in
            let none : (turns - 1) * growth b t ≡ 0 = ap (λ x. (turns - 1) * x) p.1 ∙ omega arith in
            omega (arith, by p.0, none) ∙ sym (first_plain stop kind turns b n t k)
      ] refl

  mutual
    pub statement_written : (k : ℕ) (s : Statement) (n : Entries) → StatementKeeps kind s → note_at c k ≡ n
        → Forms kind 0 n → note_pins n ≤ c.peak → first_fault g c (statement_tests None k s) ≡ None
        → Here (k + 1) (statement_notes stop kind s n) × (expected_note c (outcome None k s) ≡ after_statement stop kind s n)
        × Forms kind 0 (after_statement stop kind s n)
    statement_written k (step s) n is e f small h = (
      tt,
      ap (noted_with None s) e ∙ noted_in_full stop s n (in_full k n e small) ∙ sym (step_expected stop g c k s n e h),
      step_forms kind stop some g c k s n is e h f,
    )
    statement_written k (loop turns b) n is e f small h =
        let end : ℕ = sequence_end (k + 1) b in
        let first : Entries = note_at c (k + 1) in
        let p =
        both_pass g c (turn_tests (k + 1) k b ++ sequence_tests None (k + 1) b)
        (loop_keeps end k b ∷ loop_grows end k (k + 1) turns b ∷ []) h in
        let q = both_pass g c (turn_tests (k + 1) k b) (sequence_tests None (k + 1) b) p.0 in
        let begins = turn_passes g c (k + 1) k b q.0 in
        let keeps = first_passes g c (loop_keeps end k b) (loop_grows end k (k + 1) turns b ∷ []) p.1 in
        let grows = first_passes g c (loop_grows end k (k + 1) turns b) [] keeps.1 in
        let fit = loop_fits turns b (note_at c k) first (note_at c end) begins.1 keeps.0 grows.0 in
        let starts : begins_turns (scatters b) n first ≡ true =
        ap (λ x. begins_turns (scatters b) x first) (sym e) ∙ begins.1 in
        let at = begun b n first starts f in
        let body = sequence_written (k + 1) b first is.1 refl at.forms begins.2 q.1 in
        let made : first ≡ first_note stop kind turns b n = elim may [
          | inl low ↦ alike kind 0 first (first_note stop kind turns b n) at.forms (first_forms stop kind turns b n some f)
              (at.part ∙ sym (first_part stop kind turns b n))
              (λ t. bounds_are turns b n first (after_sequence stop kind b first) t is.1
              (let u : TurnsFit turns (scatters b t) (bound_at n t) (bound_at first t)
              (bound_at (after_sequence stop kind b first) t) =
              subst (λ x. TurnsFit turns (scatters b t) (bound_at x t) (bound_at first t)
              (bound_at (after_sequence stop kind b first) t)) e
              (subst (λ x. TurnsFit turns (scatters b t) (bound_at (note_at c k) t) (bound_at first t) (bound_at x t))
              body.1 (fit.bounds t)) in u)
              (omega (arith, bound_pins t first, begins.2, low))
              (λ still. sequence_grows kind stop few b first t is.1 still (omega (arith, begins.2, low))
              (omega (arith, stand_greatest c.peak c.notes (k + 1 + 1) (sequence_notes stop kind b first) body.0, low))))
          | inr plain ↦ sym (plain.1 (k + 1)) ∙ at.part ∙ ap plain_part (sym e) ∙ plain.1 k ∙ e
              ∙ sym (first_same stop kind turns b n plain.0)
        ] in (
          (
            begins.0 ∙ ap Some made,
            subst (λ x. note_pins x ≤ c.peak) made begins.2,
            subst (λ x. Here (k + 1 + 1) (sequence_notes stop kind b x)) made body.0,
          ),
          body.1 ∙ ap (after_sequence stop kind b) made,
          subst (λ x. Forms kind 0 (after_sequence stop kind b x)) made body.2,
        )
    statement_written k (choice none) n is e f small h = (tt, e, f)
    statement_written k (choice (either b bs)) n is e f small h =
        let end : ℕ = sequence_end (k + 1) b in
        let p =
        both_pass g c (note_tests (k + 1) (same k) ++ sequence_tests None (k + 1) b)
        (later_tests None k end (end + 1) bs) h in
        let q = both_pass g c (note_tests (k + 1) (same k)) (sequence_tests None (k + 1) b) p.0 in
        let note = note_passes g c (k + 1) (same k) q.0 in
        let at_first : note_at c (k + 1) ≡ n = note.1 ∙ e in
        let body = sequence_written (k + 1) b n is.0 at_first f small q.1 in
        let first : Here (k + 1) (n ∷ sequence_notes stop kind b n) =
        (note.0 ∙ ap Some at_first, small, body.0) in
        let at : k + 1 + length (n ∷ sequence_notes stop kind b n) ≡ end + 1 =
        omega (arith, sequence_places stop kind (k + 1) b n) in (
          stand_append c.peak c.notes (k + 1) (end + 1) (n ∷ sequence_notes stop kind b n) (branches_notes stop kind bs n) at first
              (later_written k end (end + 1) bs n is.1 e f small p.1),
          body.1,
          body.2,
        )

    pub sequence_written : (k : ℕ) (b : Sequence) (n : Entries) → IsOfKinds kind b → note_at c k ≡ n
        → Forms kind 0 n → note_pins n ≤ c.peak → first_fault g c (sequence_tests None k b) ≡ None
        → Here (k + 1) (sequence_notes stop kind b n) × (note_at c (sequence_end k b) ≡ after_sequence stop kind b n)
        × Forms kind 0 (after_sequence stop kind b n)
    sequence_written k skip n is e f small h = (tt, e, f)
    sequence_written k (andthen s b) n is e f small h =
        let next : ℕ = statement_end k s in
        let m : Entries = after_statement stop kind s n in
        let p =
        both_pass g c (statement_tests None k s ++ note_tests next (outcome None k s)) (sequence_tests None next b) h in
        let q = both_pass g c (statement_tests None k s) (note_tests next (outcome None k s)) p.0 in
        let inner = statement_written k s n is.0 e f small q.0 in
        let note = note_passes g c next (outcome None k s) q.1 in
        let at_next : note_at c next ≡ m = note.1 ∙ inner.1 in
        let next_small : note_pins m ≤ c.peak = subst (λ x. note_pins x ≤ c.peak) at_next note.2 in
        let rest = sequence_written next b m is.1 at_next inner.2 next_small p.1 in
        let behind : Here next (m ∷ sequence_notes stop kind b m) = (note.0 ∙ ap Some at_next, next_small, rest.0) in (
          stand_append c.peak c.notes (k + 1) next (statement_notes stop kind s n) (m ∷ sequence_notes stop kind b m)
              (statement_places stop kind k s n) inner.0 behind,
          rest.1,
          rest.2,
        )

    -- of the second and later branches
    later_written : (before first k : ℕ) (bs : Alternatives) (n : Entries) → BranchesKeep kind bs → note_at c before ≡ n
        → Forms kind 0 n → note_pins n ≤ c.peak → first_fault g c (later_tests None before first k bs) ≡ None
        → Here k (branches_notes stop kind bs n)
    later_written before first k none n is e f small h = tt
    later_written before first k (either b bs) n is e f small h =
        let end : ℕ = sequence_end k b in
        let p =
        both_pass g c (note_tests k (same before) ++ sequence_tests None k b)
        (branch_agrees end first ∷ later_tests None before first (end + 1) bs) h in
        let q = both_pass g c (note_tests k (same before)) (sequence_tests None k b) p.0 in
        let rest = first_passes g c (branch_agrees end first) (later_tests None before first (end + 1) bs) p.1 in
        let note = note_passes g c k (same before) q.0 in
        let at_first : note_at c k ≡ n = note.1 ∙ e in
        let body : Here k (n ∷ sequence_notes stop kind b n) =
        (note.0 ∙ ap Some at_first, small, (sequence_written k b n is.0 at_first f small q.1).0) in
        let at : k + length (n ∷ sequence_notes stop kind b n) ≡ end + 1 = omega (arith, sequence_places stop kind k b n) in
        stand_append c.peak c.notes k (end + 1) (n ∷ sequence_notes stop kind b n) (branches_notes stop kind bs n) at body
        (later_written before first (end + 1) bs n is.1 e f small rest.1)

-- The notes of an accepted certificate are those that are made, each within its peak.
pub record Notes (p : Terms) (c : Claims) : Type 0 where
  pub made : c.notes ≡ made_notes p
  pub peak : greatest (made_notes p) ≤ c.peak

pub notes_are : (g : Geometry) (p : Terms) (c : Claims) → IsPlan p → AllPass g p c → Notes p c
notes_are g p c plan is =
    let kind : ℕ → Bool = uses_bundle p.body in
    let note = is.first in
    let stop : ℕ = most_counted p.layout in
    let low : c.peak < stop = omega (arith, is.peak, ap (λ (x : Geometry). x.frames) is.settings) in
    let rest =
    sequence_written g c stop (omega arith) kind (bundles_few p plan) (inl low) 0 p.body [] (own_kinds p plan) note.1 tt (omega arith)
    is.walk in
    let small = subst (λ x. note_pins x ≤ c.peak) note.1 note.2 in
    let all : Stand c.peak c.notes 0 (made_notes p) = (note.0 ∙ ap Some note.1, small, rest.0) in
    let count : length c.notes ≤ length (made_notes p) =
    omega (arith, is.few, sequence_places stop kind 0 p.body []) in
    record {
      made = stand_whole c.peak c.notes (made_notes p) all count;
      peak = stand_greatest c.peak c.notes 0 (made_notes p) all;
    }
