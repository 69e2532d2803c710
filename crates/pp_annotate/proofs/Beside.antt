-- A certificate whose tests pass has the pages that are made, whatever bounds it notes inside the loops.
use Rattle.std.proofs.Common.{◌≡◌, ℕ, ◌+◌, ◌<◌, ◌≤◌, Bool, true, false, Option, Some, None, List, [], ◌∷◌, ◌++◌, refl, sym, ap}
use Rattle.std.proofs.Common.{subst, ◌∙◌, arith}
use Rattle.std.specs.Prelude.{◌&&◌, ◌==◌, not, nat_lt, is_some, option_map, if◌then◌else◌}
use Rattle.std.proofs.lemmas.Bool.{and_parts, not-true, ltb-true, lt-ltb}
use Rattle.pp_settings.specs.Layout.{Geometry}
use Rattle.pp_plan.specs.Tree.{Step, fix, unfix, latch, unlatch, gather, scatter, Statement, step, loop, choice}
use Rattle.pp_plan.specs.Tree.{Sequence, skip, andthen, none, either, scatters}
use Rattle.pp_plan.specs.Rules.{IsStatement, IsSequence}
use Rattle.pp_cert.specs.declared.note.Held.{Held}
use Rattle.pp_cert.specs.declared.note.Held.TheVariants.{Free}
use Rattle.pp_cert.specs.declared.note.Entry.{Entry}
use Rattle.pp_cert.specs.declared.note.Entry.TheVariants.{Slot, Bundle}
use Rattle.pp_cert.specs.Held.{held_in}
use Rattle.pp_cert.specs.Slots.{slot_insert}
use Rattle.pp_cert.specs.Notes.{Entries, entry_slot, entry_held, entry_at, noted_at, bound_at, noted_as, without_page}
use Rattle.pp_cert.specs.Notes.{without_bundle, plain_part, one_more, noted_with, is_in_form, same_note, is_begun, all_bundles, begins_turns}
use Rattle.pp_cert.specs.Walk.{Claims, note_at, same, expected_note, outcome, loop_keeps, loop_grows, Test, slot_unused}
use Rattle.pp_cert.specs.Walk.{first_fault, turn_tests, note_tests, step_tests, statement_tests, sequence_tests}
use Rattle.pp_cert.specs.Walk.{later_tests, statement_end, sequence_end}
use Rattle.pp_cert.proofs.Pages.{page_of_part}
use Rattle.pp_cert.proofs.Passing.{first_passes, both_pass, note_passes, turn_passes, note_same}
use Rattle.pp_cert.proofs.SlotKinds.{StatementKeeps, IsOfKinds}
use Rattle.pp_annotate.specs.Growth.{first_note}
use Rattle.pp_annotate.specs.Made.{after_step, after_statement, after_sequence}
use Rattle.pp_annotate.proofs.Once.{page_added}
use Rattle.pp_annotate.proofs.Forms.{Forms, ArePlain, forms_plain, part_plain, plain_of_part, rising_forms, noted_forms}
use Rattle.pp_annotate.proofs.Alike.{page_from}
use Rattle.pp_annotate.proofs.Rises.{part_insert, part_without, first_part}
use Rattle.pp_annotate.proofs.Writable.{Rises, rises_forms, step_rises, first_rises}

-- ---- the pages after a step

abbrev pages_after : Step → Entries → Entries
pages_after (fix s r) n = slot_insert entry_slot (Slot s r Free) n
pages_after (unfix s) n = without_page s n
pages_after (latch s m) n = noted_as (held_in m) s n
pages_after (unlatch s) n = noted_as Free s n
pages_after (gather s r) n = n
pages_after (scatter s) n = n

part_unfix : (s : ℕ) (n : Entries) → plain_part (without_page s n) ≡ without_page s (plain_part n)
part_unfix s [] = refl
part_unfix s (Slot t r h ∷ n) =
    elim (t == s)
    as (λ b. plain_part (if b then without_page s n else Slot t r h ∷ without_page s n)
    ≡ (if b then without_page s (plain_part n) else Slot t r h ∷ without_page s (plain_part n))) [
      | true ↦ part_unfix s n
      | false ↦ ap (λ x. Slot t r h ∷ x) (part_unfix s n)
    ]
part_unfix s (Bundle t k ∷ n) = part_unfix s n

part_as : (held : Held) (s : ℕ) (n : Entries) → plain_part (noted_as held s n) ≡ noted_as held s (plain_part n)
part_as held s [] = refl
part_as held s (Slot t r h ∷ n) =
    elim (t == s)
    as (λ b. plain_part (if b then Slot t r held ∷ n else Slot t r h ∷ noted_as held s n)
    ≡ (if b then Slot t r held ∷ plain_part n else Slot t r h ∷ noted_as held s (plain_part n))) [
      | true ↦ refl
      | false ↦ ap (λ x. Slot t r h ∷ x) (part_as held s n)
    ]
part_as held s (Bundle t k ∷ n) = part_as held s n

-- what goes before all goes to the front
to_front : (x : Entry) (n : Entries) → ((e : Entry) (rest : Entries) → n ≡ e ∷ rest → entry_slot x < entry_slot e)
    → slot_insert entry_slot x n ≡ x ∷ n
to_front x [] h = refl
to_front x (e ∷ n) h =
    ap (λ b. if b then x ∷ e ∷ n else e ∷ slot_insert entry_slot x n)
    (lt-ltb (entry_slot x) (entry_slot e) (h e n refl))

module _ (kind : ℕ → Bool) where
  part_fix : (s r low : ℕ) (n : Entries) → Forms kind low n
      → plain_part (slot_insert entry_slot (Slot s r Free) n) ≡ slot_insert entry_slot (Slot s r Free) (plain_part n)
  part_fix s r low [] f = refl
  part_fix s r low (Slot t q h ∷ n) f =
      elim (nat_lt s t)
      as (λ b. plain_part (if b then Slot s r Free ∷ Slot t q h ∷ n else Slot t q h
      ∷ slot_insert entry_slot (Slot s r Free) n)
      ≡ (if b then Slot s r Free ∷ Slot t q h ∷ plain_part n else Slot t q h
      ∷ slot_insert entry_slot (Slot s r Free) (plain_part n))) [
        | true ↦ refl
        | false ↦ ap (λ x. Slot t q h ∷ x) (part_fix s r (t + 1) n f.3)
      ]
  part_fix s r low (Bundle t k ∷ n) f =
      elim (nat_lt s t) as (λ b. nat_lt s t ≡ b
      → plain_part (if b then Slot s r Free ∷ Bundle t k ∷ n else Bundle t k ∷ slot_insert entry_slot (Slot s r Free) n)
      ≡ slot_insert entry_slot (Slot s r Free) (plain_part n)) [
        | true ↦ λ l. sym (to_front (Slot s r Free) (plain_part n) (λ e rest p.
            omega (arith, ltb-true s t l, page_from kind (t + 1) n e rest f.3 p)))
        | false ↦ λ l. part_fix s r (t + 1) n f.3
      ] refl

  part_step : (stop : Option ℕ) (s : Step) (n : Entries) → Forms kind 0 n
      → plain_part (noted_with stop s n) ≡ pages_after s (plain_part n)
  part_step stop (fix s r) n f = part_fix s r 0 n f
  part_step stop (unfix s) n f = part_unfix s n
  part_step stop (latch s m) n f = part_as (held_in m) s n
  part_step stop (unlatch s) n f = part_as Free s n
  part_step stop (gather s r) n f = part_insert s (one_more stop (bound_at n s)) (without_bundle s n) ∙ part_without s n
  part_step stop (scatter s) n f = part_without s n

  -- the first note of a loop's body is in form, and has the pages of the note before the loop
  pub record Begun (before first : Entries) : Type 0 where
    pub part : plain_part first ≡ plain_part before
    pub forms : Forms kind 0 first

  pub begun : (b : Sequence) (before first : Entries) → begins_turns (scatters b) before first ≡ true
      → Forms kind 0 before → Begun before first
  begun b before first h f =
      let P : ℕ → Bool = λ s. is_begun (scatters b s) (bound_at before s) (bound_at first s) in
      let p =
      and_parts (is_in_form first)
      (same_note (plain_part first) (plain_part before) && (all_bundles P before && all_bundles P first)) h in
      let q =
      and_parts (same_note (plain_part first) (plain_part before)) (all_bundles P before && all_bundles P first) p.1 in
      let pages = note_same (plain_part first) (plain_part before) q.0 in
      let plain : ArePlain kind (plain_part first) =
      subst (λ x. ArePlain kind x) (sym pages) (part_plain kind before (forms_plain kind 0 before f)) in
      record { part = pages; forms = rising_forms kind 0 first p.0 (plain_of_part kind first plain) }

  module _ (slots regions stop : ℕ) (some : 1 ≤ stop) (few : (s : ℕ) → kind s ≡ true → s < slots) (g : Geometry)
      (d : Claims) where
    -- What such a certificate notes at a place beside what is made: its note is in form, and has the same pages.
    pub record Pages (theirs mine : Entries) : Type 0 where
      pub forms : Forms kind 0 theirs
      pub rises : Rises kind slots regions 0 mine
      pub part : plain_part theirs ≡ plain_part mine

    pub entries_same : (n m : Entries) → plain_part n ≡ plain_part m → (s : ℕ) → entry_at n s ≡ entry_at m s
    entries_same n m p s = sym (page_of_part n s) ∙ ap (λ x. entry_at x s) p ∙ page_of_part m s

    -- a fix that passes its test is noted there too
    step_added : (k : ℕ) (s : Step) (n : Entries) → plain_part (note_at d k) ≡ plain_part n
        → first_fault g d (step_tests k s) ≡ None → after_step stop s n ≡ noted_with (Some stop) s n
    step_added k (fix s r) n p h =
        let a = first_passes g d (slot_unused k s) [] h in
        let q = and_parts (not (is_some (noted_at (note_at d k) s))) (bound_at (note_at d k) s == 0) a.0 in
        let same_page = ap (λ o. is_some (option_map entry_held o)) (entries_same (note_at d k) n p s) in
        page_added s r n (sym same_page ∙ not-true (is_some (noted_at (note_at d k) s)) q.0)
    step_added k (unfix s) n p h = refl
    step_added k (latch s m) n p h = refl
    step_added k (unlatch s) n p h = refl
    step_added k (gather s r) n p h = refl
    step_added k (scatter s) n p h = refl

    -- at the first place of a loop's body
    pub turn_pages : (k turns : ℕ) (b : Sequence) (n : Entries) → Pages (note_at d k) n
        → begins_turns (scatters b) (note_at d k) (note_at d (k + 1)) ≡ true
        → Pages (note_at d (k + 1)) (first_note stop kind turns b n)
    turn_pages k turns b n a h =
        let start = begun b (note_at d k) (note_at d (k + 1)) h a.forms in
        record {
          forms = start.forms;
          rises = first_rises kind slots regions stop some few turns b n a.rises;
          part = start.part ∙ a.part ∙ sym (first_part stop kind turns b n);
        }

    mutual
      pub statement_pages : (k : ℕ) (s : Statement) (n : Entries) → StatementKeeps kind s
          → IsStatement slots regions s → Pages (note_at d k) n → first_fault g d (statement_tests None k s) ≡ None
          → Pages (expected_note d (outcome None k s)) (after_statement stop kind s n)
      statement_pages k (step s) n keeps is a h =
          let mine : Forms kind 0 n = rises_forms kind slots regions 0 n a.rises in
          record {
            forms = noted_forms kind None (λ bound. omega arith) g d k s (note_at d k) keeps refl h a.forms;
            rises = step_rises kind slots regions stop some few s n keeps is a.rises;
            part = part_step None s (note_at d k) a.forms
                ∙ ap (pages_after s) a.part
                ∙ sym (ap plain_part (step_added k s n a.part h) ∙ part_step (Some stop) s n mine);
          }
      statement_pages k (loop turns b) n keeps is a h =
          let end : ℕ = sequence_end (k + 1) b in
          let front : List Test = turn_tests (k + 1) k b in
          let p =
          both_pass g d (front ++ sequence_tests None (k + 1) b)
          (loop_keeps end k b ∷ loop_grows end k (k + 1) turns b ∷ []) h in
          let q = both_pass g d front (sequence_tests None (k + 1) b) p.0 in
          let begins = turn_passes g d (k + 1) k b q.0 in
          sequence_pages (k + 1) b (first_note stop kind turns b n) keeps.1 is.3 (turn_pages k turns b n a begins.1) q.1
      statement_pages k (choice none) n keeps is a h = a
      statement_pages k (choice (either b bs)) n keeps is a h =
          let end : ℕ = sequence_end (k + 1) b in
          let front : List Test = note_tests (k + 1) (same k) in
          let p = both_pass g d (front ++ sequence_tests None (k + 1) b) (later_tests None k end (end + 1) bs) h in
          let q = both_pass g d front (sequence_tests None (k + 1) b) p.0 in
          let note = note_passes g d (k + 1) (same k) q.0 in
          sequence_pages (k + 1) b n keeps.0 is.2.0 (subst (λ x. Pages x n) (sym note.1) a) q.1

      pub sequence_pages : (k : ℕ) (b : Sequence) (n : Entries) → IsOfKinds kind b → IsSequence slots regions b
          → Pages (note_at d k) n → first_fault g d (sequence_tests None k b) ≡ None
          → Pages (note_at d (sequence_end k b)) (after_sequence stop kind b n)
      sequence_pages k skip n keeps is a h = a
      sequence_pages k (andthen s b) n keeps is a h =
          let next : ℕ = statement_end k s in
          let between : List Test = note_tests next (outcome None k s) in
          let p = both_pass g d (statement_tests None k s ++ between) (sequence_tests None next b) h in
          let q = both_pass g d (statement_tests None k s) between p.0 in
          let note = note_passes g d next (outcome None k s) q.1 in
          let after = statement_pages k s n keeps.0 is.0 a q.0 in
          sequence_pages next b (after_statement stop kind s n) keeps.1 is.1
          (subst (λ x. Pages x (after_statement stop kind s n)) (sym note.1) after) p.1
