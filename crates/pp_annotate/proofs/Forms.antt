-- Notes whose entries stand by rising slot, none of which pins nothing, and where no bundle has a page of its own.
use Rattle.std.proofs.Common.{◌≡◌, ℕ, ◌+◌, ◌<◌, ◌≤◌, Bool, true, false, cond, Option, Some, None, [], ◌∷◌, refl, sym, ap, subst}
use Rattle.std.proofs.Common.{◌∙◌, arith}
use Rattle.std.specs.Prelude.{◌==◌, ◌&&◌, not, nat_lt, nat_le, is_some, if◌then◌else◌, option_map, unwrap_or}
use Rattle.std.proofs.lemmas.Bool.{and_parts, not-true, ltb-true, leb-true, lt-ltb, le-leb, eqb-true}
use Rattle.std.proofs.lemmas.Bool.Decides.{nat_tests}
use Rattle.pp_settings.specs.Layout.{Geometry}
use Rattle.pp_plan.specs.Tree.{Step, fix, unfix, latch, unlatch, gather, scatter}
use Rattle.pp_cert.specs.declared.note.Held.{Held}
use Rattle.pp_cert.specs.declared.note.Held.TheVariants.{Free}
use Rattle.pp_cert.specs.declared.note.Entry.{Entry}
use Rattle.pp_cert.specs.declared.note.Entry.TheVariants.{Slot, Bundle}
use Rattle.pp_cert.specs.Slots.{slot_insert}
use Rattle.pp_cert.specs.Held.{held_in}
use Rattle.pp_cert.specs.Notes.{Entries, entry_slot, entry_pins, entry_held, is_slot, is_bundle_of, entry_at, noted_at}
use Rattle.pp_cert.specs.Notes.{bundle_at, bound_at, plain_part, noted_as, without_page, without_bundle}
use Rattle.pp_cert.specs.Notes.{one_more, noted_with, with_bound, is_rising}
use Rattle.pp_cert.specs.Walk.{Claims, note_at, slot_unused, first_fault, step_tests}
use Rattle.pp_cert.proofs.Passing.{first_passes}
use Rattle.pp_cert.proofs.SlotKinds.{KeepsKinds}
use Rattle.pp_annotate.specs.Made.{after_step}
use Rattle.pp_annotate.proofs.Once.{step_expected}

-- No entry is of the slot.
abbrev pub Absent : ℕ → Entries → Type 0
Absent s [] = Unit {0}
Absent s (e ∷ n) = ((entry_slot e == s) ≡ false) × Absent s n

another : (m s : ℕ) → (m == s) ≡ false → nat_lt s m ≡ false → m + 1 ≤ s
another m s a b = grind (arith, nat_tests)

module _ (kind : ℕ → Bool) where
  -- no bundle has a page of its own
  abbrev pub IsPlain : Entry → Type 0
  IsPlain (Slot s r h) = kind s ≡ false
  IsPlain (Bundle s k) = Unit {0}

  abbrev pub ArePlain : Entries → Type 0
  ArePlain [] = Unit {0}
  ArePlain (e ∷ n) = IsPlain e × ArePlain n

  -- from slot `low` on
  abbrev pub Forms : ℕ → Entries → Type 0
  Forms low [] = Unit {0}
  Forms low (e ∷ n) = (low ≤ entry_slot e) × (1 ≤ entry_pins e) × IsPlain e × Forms (entry_slot e + 1) n

  pub forms_lower : (low lower : ℕ) (n : Entries) → lower ≤ low → Forms low n → Forms lower n
  forms_lower low lower [] h f = tt
  forms_lower low lower (e ∷ n) h f = (omega (arith, h, f.0), f.1, f.2, f.3)

  -- ---- in the check's words

  pub forms_rising : (low : ℕ) (n : Entries) → Forms low n → is_rising low n ≡ true
  forms_rising low [] f = refl
  forms_rising low (e ∷ n) f =
      let at : nat_le low (entry_slot e) ≡ true = le-leb low (entry_slot e) f.0 in
      let some : nat_lt 0 (entry_pins e) ≡ true = lt-ltb 0 (entry_pins e) (omega (arith, f.1)) in
      (λ i. at i && (some i && is_rising (entry_slot e + 1) n)) ∙ forms_rising (entry_slot e + 1) n f.3

  pub forms_plain : (low : ℕ) (n : Entries) → Forms low n → ArePlain n
  forms_plain low [] f = tt
  forms_plain low (e ∷ n) f = (f.2, forms_plain (entry_slot e + 1) n f.3)

  pub part_plain : (n : Entries) → ArePlain n → ArePlain (plain_part n)
  part_plain [] a = tt
  part_plain (Slot s r h ∷ n) a = (a.0, part_plain n a.1)
  part_plain (Bundle s k ∷ n) a = part_plain n a.1

  pub plain_of_part : (n : Entries) → ArePlain (plain_part n) → ArePlain n
  plain_of_part [] a = tt
  plain_of_part (Slot s r h ∷ n) a = (a.0, plain_of_part n a.1)
  plain_of_part (Bundle s k ∷ n) a = (tt, plain_of_part n a)

  pub rising_forms : (low : ℕ) (n : Entries) → is_rising low n ≡ true → ArePlain n → Forms low n
  rising_forms low [] h a = tt
  rising_forms low (e ∷ n) h a =
      let p = and_parts (nat_le low (entry_slot e)) (nat_lt 0 (entry_pins e) && is_rising (entry_slot e + 1) n) h in
      let q = and_parts (nat_lt 0 (entry_pins e)) (is_rising (entry_slot e + 1) n) p.1 in
      let some : 0 < entry_pins e = ltb-true 0 (entry_pins e) q.0 in
      (leb-true low (entry_slot e) p.0, omega (arith, some), a.0, rising_forms (entry_slot e + 1) n q.1 a.1)

  -- ---- one entry more

  pub forms_insert : (low : ℕ) (x : Entry) (n : Entries) → low ≤ entry_slot x → 1 ≤ entry_pins x → IsPlain x
      → Absent (entry_slot x) n → Forms low n → Forms low (slot_insert entry_slot x n)
  forms_insert low x [] at some plain absent f = (at, some, plain, tt)
  forms_insert low x (y ∷ n) at some plain absent f =
      elim (nat_lt (entry_slot x) (entry_slot y)) as (λ b. nat_lt (entry_slot x) (entry_slot y) ≡ b
      → Forms low (if b then x ∷ y ∷ n else y ∷ slot_insert entry_slot x n)) [
        | true ↦ λ t. (at, some, plain, (omega (arith, ltb-true (entry_slot x) (entry_slot y) t), f.1, f.2, f.3))
        | false ↦ λ t. (
          f.0,
          f.1,
          f.2,
          forms_insert (entry_slot y + 1) x n (another (entry_slot y) (entry_slot x) absent.0 t) some plain absent.1 f.3,
        )
      ] refl

  -- a slot that holds nothing has no entry
  pub absent_unused : (s low : ℕ) (n : Entries) → is_some (noted_at n s) ≡ false → bound_at n s ≡ 0 → Forms low n
      → Absent s n
  absent_unused s low [] i z f = tt
  absent_unused s low (Slot t r h ∷ n) i z f =
      elim (t == s) as (λ b. (t == s) ≡ b
      → is_some (option_map entry_held (cond b (Some (Slot t r h)) (entry_at n s))) ≡ false
      → ((t == s) ≡ false) × Absent s n) [
        | true ↦ λ e j. absurd (cc)
        | false ↦ λ e j. (e, absent_unused s (t + 1) n j z f.3)
      ] refl i
  absent_unused s low (Bundle t k ∷ n) i z f =
      elim (t == s) as (λ b. (t == s) ≡ b
      → unwrap_or (option_map entry_pins (cond b (Some (Bundle t k)) (bundle_at n s))) 0 ≡ 0
      → ((t == s) ≡ false) × Absent s n) [
        | true ↦ λ e j. absurd (omega (arith, j, f.1))
        | false ↦ λ e j. (e, absent_unused s (t + 1) n i j f.3)
      ] refl z

  apart : (t s : ℕ) → kind t ≡ false → kind s ≡ true → (t == s) ≡ false
  apart t s h k =
      elim (t == s) as (λ b. (t == s) ≡ b → b ≡ false) [
        | true ↦ λ e. absurd (let x : kind t ≡ kind s = ap kind (eqb-true t s e) in cc (x, h, k))
        | false ↦ λ e. refl
      ] refl

  -- a bundle has no entry but its own
  pub absent_bundle : (s low : ℕ) (n : Entries) → kind s ≡ true → Forms low n → Absent s (without_bundle s n)
  absent_bundle s low [] k f = tt
  absent_bundle s low (Slot t r h ∷ n) k f = (apart t s f.2 k, absent_bundle s (t + 1) n k f.3)
  absent_bundle s low (Bundle t x ∷ n) k f =
      elim (t == s) as (λ b. (t == s) ≡ b
      → Absent s (if b then without_bundle s n else Bundle t x ∷ without_bundle s n)) [
        | true ↦ λ e. absent_bundle s (t + 1) n k f.3
        | false ↦ λ e. (e, absent_bundle s (t + 1) n k f.3)
      ] refl

  -- ---- after a step

  pub forms_without_bundle : (low s : ℕ) (n : Entries) → Forms low n → Forms low (without_bundle s n)
  forms_without_bundle low s [] f = tt
  forms_without_bundle low s (y ∷ n) f =
      let rest = forms_without_bundle (entry_slot y + 1) s n f.3 in
      elim (is_bundle_of s y) as (λ b. Forms low (if b then without_bundle s n else y ∷ without_bundle s n)) [
        | true ↦ forms_lower (entry_slot y + 1) low (without_bundle s n) (omega (arith, f.0)) rest
        | false ↦ (f.0, f.1, f.2, rest)
      ]

  forms_without_page : (low s : ℕ) (n : Entries) → Forms low n → Forms low (without_page s n)
  forms_without_page low s [] f = tt
  forms_without_page low s (y ∷ n) f =
      let rest = forms_without_page (entry_slot y + 1) s n f.3 in
      elim (is_slot s y) as (λ b. Forms low (if b then without_page s n else y ∷ without_page s n)) [
        | true ↦ forms_lower (entry_slot y + 1) low (without_page s n) (omega (arith, f.0)) rest
        | false ↦ (f.0, f.1, f.2, rest)
      ]

  forms_as : (low : ℕ) (held : Held) (s : ℕ) (n : Entries) → Forms low n → Forms low (noted_as held s n)
  forms_as low held s [] f = tt
  forms_as low held s (Bundle t k ∷ n) f = (f.0, f.1, f.2, forms_as (t + 1) held s n f.3)
  forms_as low held s (Slot t q h ∷ n) f =
      elim (t == s) as (λ b. Forms low (if b then Slot t q held ∷ n else Slot t q h ∷ noted_as held s n)) [
        | true ↦ (f.0, f.1, f.2, f.3)
        | false ↦ (f.0, f.1, f.2, forms_as (t + 1) held s n f.3)
      ]

  pub forms_bound : (s k : ℕ) (n : Entries) → kind s ≡ true → 1 ≤ k → Forms 0 n → Forms 0 (with_bound s k n)
  forms_bound s k n is some f =
      forms_insert 0 (Bundle s k) (without_bundle s n) (omega arith) some tt (absent_bundle s 0 n is f)
      (forms_without_bundle 0 s n f)

  pub noted_forms : (stop : Option ℕ) → ((bound : ℕ) → 1 ≤ one_more stop bound) → (g : Geometry) (c : Claims) (k : ℕ)
      (s : Step) (n : Entries) → KeepsKinds kind s → note_at c k ≡ n → first_fault g c (step_tests k s) ≡ None → Forms 0 n → Forms 0 (noted_with stop s n)
  noted_forms stop some g c k (fix s r) n is e h f =
      let p = first_passes g c (slot_unused k s) [] h in
      let q = and_parts (not (is_some (noted_at (note_at c k) s))) (bound_at (note_at c k) s == 0) p.0 in
      let free : is_some (noted_at n s) ≡ false = ap (λ x. is_some (noted_at x s)) (sym e)
      ∙ not-true (is_some (noted_at (note_at c k) s)) q.0 in
      let empty : bound_at n s ≡ 0 = ap (λ x. bound_at x s) (sym e) ∙ eqb-true (bound_at (note_at c k) s) 0 q.1 in
      forms_insert 0 (Slot s r Free) n (omega arith) (omega arith) is (absent_unused s 0 n free empty f) f
  noted_forms stop some g c k (unfix s) n is e h f = forms_without_page 0 s n f
  noted_forms stop some g c k (latch s m) n is e h f = forms_as 0 (held_in m) s n f
  noted_forms stop some g c k (unlatch s) n is e h f = forms_as 0 Free s n f
  noted_forms stop some g c k (gather s r) n is e h f =
      forms_bound s (one_more stop (bound_at n s)) n is (some (bound_at n s)) f
  noted_forms stop some g c k (scatter s) n is e h f = forms_without_bundle 0 s n f

  pub step_forms : (stop : ℕ) → 1 ≤ stop → (g : Geometry) (c : Claims) (k : ℕ) (s : Step) (n : Entries)
      → KeepsKinds kind s → note_at c k ≡ n → first_fault g c (step_tests k s) ≡ None → Forms 0 n → Forms 0 (after_step stop s n)
  step_forms stop some g c k s n is e h f =
      subst (λ x. Forms 0 x) (sym (step_expected stop g c k s n e h))
      (noted_forms (Some stop) (λ bound. omega (arith, some)) g c k s n is e h f)
