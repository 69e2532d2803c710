-- What is made of a loop may begin its turns, and a note that stands at its place and is the expected one passes its tests.
use Rattle.std.proofs.Common.{◌≡◌, ℕ, ◌-◌, ◌*◌, ◌<◌, ◌≤◌, Bool, true, false, Some, None, [], ◌∷◌, refl, sym, ap, subst}
use Rattle.std.proofs.Common.{◌∙◌, arith}
use Rattle.std.specs.Prelude.{◌==◌, ◌&&◌, is_some, if◌then◌else◌, slice_get}
use Rattle.std.proofs.lemmas.Bool.{le-leb}
use Rattle.std.proofs.lemmas.Bool.Decides.{nat_tests}
use Rattle.pp_settings.specs.Layout.{Geometry}
use Rattle.pp_settings.specs.Limits.{most_slots}
use Rattle.pp_plan.specs.Tree.{Sequence, scatters}
use Rattle.pp_cert.specs.declared.note.Entry.TheVariants.{Slot, Bundle}
use Rattle.pp_cert.specs.Notes.{Entries, note_pins, bound_at, plain_part, same_note, is_in_form, is_begun, all_bundles}
use Rattle.pp_cert.specs.Notes.{begins_turns}
use Rattle.pp_cert.specs.Walk.{Claims, note_at, Expectation, expected_note, there, as_expected, may_begin, within_peak}
use Rattle.pp_cert.specs.Walk.{passes, fault_of, first_fault, note_tests, turn_tests}
use Rattle.pp_cert.proofs.Passing.{note_itself}
use Rattle.pp_annotate.specs.Growth.{growth, rise, first_note}
use Rattle.pp_annotate.proofs.Forms.{Forms, forms_rising}
use Rattle.pp_annotate.proofs.Rises.{first_part, first_forms, first_bundle, first_plain, first_more}
use Rattle.pp_annotate.proofs.Low.{Low}
use Rattle.pp_annotate.proofs.Stands.{is_at}

pub all_from : (P : ℕ → Bool) (n : Entries) → ((s : ℕ) → P s ≡ true) → all_bundles P n ≡ true
all_from P [] h = refl
all_from P (Slot s r i ∷ n) h = all_from P n h
all_from P (Bundle s k ∷ n) h = ap (λ b. b && all_bundles P n) (h s) ∙ all_from P n h

same_is : (a b : ℕ) → a ≡ b → (a == b) ≡ true
same_is a b e = grind (arith, nat_tests)

module _ (stop : ℕ) (kind : ℕ → Bool) (few : (s : ℕ) → kind s ≡ true → s < most_slots) where
  -- a bundle that the body scatters has the bound that it has before the loop
  first_stays : (turns : ℕ) (b : Sequence) (n : Entries) (t : ℕ) → (kind t ≡ true → bound_at n t ≤ stop)
      → scatters b t ≡ true → bound_at (first_note stop kind turns b n) t ≡ bound_at n t
  first_stays turns b n t low is =
      elim (kind t) as (λ x. kind t ≡ x → bound_at (first_note stop kind turns b n) t ≡ bound_at n t) [
        | true ↦ λ k.
            let none : rise turns b t ≡ 0 = ap (λ x. if x then 0 else (turns - 1) * growth b t) is in
            first_bundle stop kind turns b n t (few t k) k ∙ omega (arith, none, low k)
        | false ↦ λ k. first_plain stop kind turns b n t k
      ] refl

  bound_begins : (turns : ℕ) (b : Sequence) (n : Entries) → Low stop kind n → (t : ℕ)
      → is_begun (scatters b t) (bound_at n t) (bound_at (first_note stop kind turns b n) t) ≡ true
  bound_begins turns b n low t =
      let f : ℕ = bound_at (first_note stop kind turns b n) t in
      elim (scatters b t) as (λ x. scatters b t ≡ x → is_begun x (bound_at n t) f ≡ true) [
        | true ↦ λ e. same_is f (bound_at n t) (first_stays turns b n t (low t) e)
        | false ↦ λ e. le-leb (bound_at n t) f (first_more stop kind turns b n few t (low t))
      ] refl

  pub begins : (turns : ℕ) (b : Sequence) (n : Entries) → 1 ≤ stop → Forms kind 0 n → Low stop kind n
      → begins_turns (scatters b) n (first_note stop kind turns b n) ≡ true
  begins turns b n some f low =
      let first : Entries = first_note stop kind turns b n in
      let P : ℕ → Bool = λ s. is_begun (scatters b s) (bound_at n s) (bound_at first s) in
      let form : is_in_form first ≡ true = forms_rising kind 0 first (first_forms stop kind turns b n some f) in
      let pages : same_note (plain_part first) (plain_part n) ≡ true =
      ap (λ m. same_note m (plain_part n)) (first_part stop kind turns b n) ∙ note_itself (plain_part n) in
      let all : (m : Entries) → all_bundles P m ≡ true = λ m. all_from P m (bound_begins turns b n low) in
      let before : all_bundles P n ≡ true = all n in
      let here : all_bundles P first ≡ true = all first in
      (λ i. form i && (pages i && (before i && here i)))

-- ---- notes that stand at their places

module _ (g : Geometry) (c : Claims) where
  small_at : (k : ℕ) (n : Entries) → note_at c k ≡ n → note_pins n ≤ c.peak → passes g c (within_peak k) ≡ true
  small_at k n is small =
      le-leb (note_pins (note_at c k)) c.peak (subst (λ m. note_pins m ≤ c.peak) (sym is) small)

  pub note_none : (k : ℕ) (x : Expectation) (n : Entries) → slice_get c.notes k ≡ Some n → note_pins n ≤ c.peak
      → expected_note c x ≡ n → first_fault g c (note_tests k x) ≡ None
  note_none k x n s small e =
      let is : note_at c k ≡ n = is_at c k n s in
      let expected : passes g c (as_expected k x) ≡ true = ap (λ m. same_note (note_at c k) m) (e ∙ sym is)
      ∙ note_itself (note_at c k) in
      ap (λ b. if b then first_fault g c (as_expected k x ∷ within_peak k ∷ []) else Some (fault_of (there k)))
      (ap is_some s)
      ∙ ap (λ b. if b then first_fault g c (within_peak k ∷ []) else Some (fault_of (as_expected k x))) expected
      ∙ ap (λ b. if b then None else Some (fault_of (within_peak k))) (small_at k n is small)

  pub turn_none : (k before : ℕ) (b : Sequence) (n first : Entries) → note_at c before ≡ n
      → slice_get c.notes k ≡ Some first → note_pins first ≤ c.peak → begins_turns (scatters b) n first ≡ true
      → first_fault g c (turn_tests k before b) ≡ None
  turn_none k before b n first e s small h =
      let is : note_at c k ≡ first = is_at c k first s in
      let begun : passes g c (may_begin k before b) ≡ true =
      (λ i. begins_turns (scatters b) (e i) (is i)) ∙ h in
      ap (λ t. if t then first_fault g c (may_begin k before b ∷ within_peak k ∷ []) else Some (fault_of (there k)))
      (ap is_some s)
      ∙ ap (λ t. if t then first_fault g c (within_peak k ∷ []) else Some (fault_of (may_begin k before b))) begun
      ∙ ap (λ t. if t then None else Some (fault_of (within_peak k))) (small_at k first is small)
