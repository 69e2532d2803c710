-- Tests that pass, and notes and layouts that are the same.
use Rattle.std.proofs.Common.{◌≡◌, ℕ, ◌+◌, ◌-◌, ◌*◌, ◌≤◌, Bool, true, false, cond, Option, Some, None, List, [], ◌∷◌}
use Rattle.std.proofs.Common.{◌++◌, length, refl, sym, ap, ◌∙◌, arith, inl, inr}
use Rattle.std.specs.Prelude.{◌⊎◌, ◌&&◌, ◌||◌, ◌==◌, not, nat_le, is_some, if◌then◌else◌, slice_get, unwrap_or}
use Rattle.std.specs.Cmp.Lexicographic.{pointwise}
use Rattle.std.proofs.lemmas.Bool.{and_parts, leb-true, eqb-true}
use Rattle.pp_settings.specs.declared.extent.Extent.{Extent}
use Rattle.pp_settings.specs.Layout.{Geometry}
use Rattle.pp_plan.specs.Tree.{Step, fix, unfix, latch, unlatch, gather, scatter, Sequence, scatters}
use Rattle.pp_plan.specs.Terms.{Terms}
use Rattle.pp_cert.specs.declared.note.Held.{Held}
use Rattle.pp_cert.specs.declared.note.Held.TheVariants.{Free, S, X}
use Rattle.pp_cert.specs.declared.note.Entry.{Entry}
use Rattle.pp_cert.specs.declared.note.Entry.TheVariants.{Slot, Bundle}
use Rattle.pp_cert.specs.declared.check_error.CheckError.{CheckError}
use Rattle.pp_cert.specs.Notes.{Entries, note_pins, entry_slot, is_bundle, is_bundle_of, entry_at, bundle_at, bound_at}
use Rattle.pp_cert.specs.Notes.{plain_part, same_held, same_entry, same_note, is_in_form, is_begun, is_back, has_grown}
use Rattle.pp_cert.specs.Notes.{all_bundles, begins_turns, ends_as_begun, grows_by_turns, noted_after, noted_with}
use Rattle.pp_cert.specs.Longest.{sequence_longest}
use Rattle.pp_cert.specs.Walk.{Claims, note_at, Expectation, empty, expected_note, Test, same_settings, there}
use Rattle.pp_cert.specs.Walk.{as_expected, may_begin, turn_tests, within_peak, holds_nothing, no_more_notes, steps_allowed, steps_enough}
use Rattle.pp_cert.specs.Walk.{peak_allowed, passes, fault_of, first_fault, note_tests, sequence_tests, sequence_end}
use Rattle.pp_cert.specs.Walk.{tests, same_extent, same_layout, most_steps}
use Rattle.pp_cert.proofs.Slots.{same_number}
use Rattle.pp_cert.proofs.Pages.{bound_on, page_of_part}

-- ---- tests that pass

if_none : (b : Bool) (o : Option CheckError) (fault : CheckError) → (if b then o else Some fault) ≡ None → (b ≡ true)
    × (o ≡ None)
if_none true o fault h = (refl, h)
if_none false o fault h = absurd (cc)

pub first_passes : (g : Geometry) (c : Claims) (t : Test) (ts : List Test) → first_fault g c (t ∷ ts) ≡ None
    → (passes g c t ≡ true) × (first_fault g c ts ≡ None)
first_passes g c t ts h = if_none (passes g c t) (first_fault g c ts) (fault_of t) h

pub both_pass : (g : Geometry) (c : Claims) (xs ys : List Test) → first_fault g c (xs ++ ys) ≡ None
    → (first_fault g c xs ≡ None) × (first_fault g c ys ≡ None)
both_pass g c [] ys h = (refl, h)
both_pass g c (x ∷ xs) ys h =
    let p = first_passes g c x (xs ++ ys) h in
    let q = both_pass g c xs ys p.1 in
    (ap (λ b. if b then first_fault g c xs else Some (fault_of x)) p.0 ∙ q.0, q.1)

-- ---- equal notes

held_same : (a b : Held) → same_held a b ≡ true → a ≡ b
held_same Free Free h = refl
held_same Free S h = absurd (cc)
held_same Free X h = absurd (cc)
held_same S Free h = absurd (cc)
held_same S S h = refl
held_same S X h = absurd (cc)
held_same X Free h = absurd (cc)
held_same X S h = absurd (cc)
held_same X X h = refl

entry_same : (a b : Entry) → same_entry a b ≡ true → a ≡ b
entry_same (Slot s r h) (Slot t q k) e =
    let p = and_parts ((s == t) && (r == q)) (same_held h k) e in
    let u = and_parts (s == t) (r == q) p.0 in
    let slots : s ≡ t = eqb-true s t u.0 in
    let regions : r ≡ q = eqb-true r q u.1 in
    let helds : h ≡ k = held_same h k p.1 in
    λ i. Slot (slots i) (regions i) (helds i)
entry_same (Bundle s b) (Bundle t d) e =
    let p = and_parts (s == t) (b == d) e in
    let slots : s ≡ t = eqb-true s t p.0 in
    let bounds : b ≡ d = eqb-true b d p.1 in
    λ i. Bundle (slots i) (bounds i)
entry_same (Slot s r h) (Bundle t d) e = absurd (cc)
entry_same (Bundle s b) (Slot t q k) e = absurd (cc)

-- Lists whose elements are the same by pairs are the same.
lists_same : {A : Type 0} (same : A → A → Bool) → ((a b : A) → same a b ≡ true → a ≡ b) → (xs ys : List A)
    → pointwise same xs ys ≡ true → xs ≡ ys
lists_same same one [] [] h = refl
lists_same same one [] (y ∷ ys) h = absurd (cc)
lists_same same one (x ∷ xs) [] h = absurd (cc)
lists_same same one (x ∷ xs) (y ∷ ys) h =
    let p = and_parts (same x y) (pointwise same xs ys) h in
    let first : x ≡ y = one x y p.0 in
    let rest : xs ≡ ys = lists_same same one xs ys p.1 in
    λ i. first i ∷ rest i

pub note_same : (a b : Entries) → same_note a b ≡ true → a ≡ b
note_same = lists_same same_entry entry_same

held_itself : (a : Held) → same_held a a ≡ true
held_itself Free = refl
held_itself S = refl
held_itself X = refl

entry_itself : (a : Entry) → same_entry a a ≡ true
entry_itself (Slot s r h) =
    (λ i. (same_number s i && r == r) && same_held h h)
    ∙ (λ i. same_number r i && same_held h h)
    ∙ held_itself h
entry_itself (Bundle s k) = (λ i. same_number s i && k == k) ∙ same_number k

-- A note is the same as itself.
pub note_itself : (a : Entries) → same_note a a ≡ true
note_itself [] = refl
note_itself (x ∷ xs) = ap (λ b. b && same_note xs xs) (entry_itself x) ∙ note_itself xs

-- ---- equal layouts

extent_same : (d e : Extent) → same_extent d e ≡ true → d ≡ e
extent_same d e h =
    let p = and_parts ((d.first == e.first) && (d.count == e.count)) (d.class == e.class) h in
    let q = and_parts (d.first == e.first) (d.count == e.count) p.0 in
    let firsts : d.first ≡ e.first = eqb-true d.first e.first q.0 in
    let counts : d.count ≡ e.count = eqb-true d.count e.count q.1 in
    let classes : d.class ≡ e.class = eqb-true d.class e.class p.1 in
    λ i. record { first = firsts i; count = counts i; class = classes i }

pub layout_same : (g h : Geometry) → same_layout g h ≡ true → g ≡ h
layout_same g h e =
    let p = and_parts (g.frames == h.frames) (pointwise same_extent g.extents h.extents) e in
    let frames : g.frames ≡ h.frames = eqb-true g.frames h.frames p.0 in
    let extents : g.extents ≡ h.extents = lists_same same_extent extent_same g.extents h.extents p.1 in
    λ i. record { frames = frames i; extents = extents i }

-- ---- the tests of a note

some_of : (o : Option Entries) → is_some o ≡ true → o ≡ Some (unwrap_or o [])
some_of None h = absurd (cc)
some_of (Some n) h = refl

-- A note that passes its tests stands at its place, is the expected one, and is small.
pub note_passes : (g : Geometry) (c : Claims) (k : ℕ) (e : Expectation) → first_fault g c (note_tests k e) ≡ None
    → (slice_get c.notes k ≡ Some (note_at c k)) × (note_at c k ≡ expected_note c e) × (note_pins (note_at c k) ≤ c.peak)
note_passes g c k e h =
    let p = first_passes g c (there k) (as_expected k e ∷ within_peak k ∷ []) h in
    let q = first_passes g c (as_expected k e) (within_peak k ∷ []) p.1 in
    let r = first_passes g c (within_peak k) [] q.1 in (
      some_of (slice_get c.notes k) p.0,
      note_same (note_at c k) (expected_note c e) q.0,
      leb-true (note_pins (note_at c k)) c.peak r.0,
    )

-- ---- a loop

-- what is tested of each bundle of a note holds of each slot that has a bound in it
by_entries : (P : ℕ → Bool) (n : Entries) (s : ℕ) → all_bundles P n ≡ true → (P s ≡ true) ⊎ (bound_at n s ≡ 0)
by_entries P [] s h = inr refl
by_entries P (y ∷ n) s h =
    let p = and_parts (not (is_bundle y) || P (entry_slot y)) (all_bundles P n) h in
    elim (is_bundle_of s y) as (λ b. is_bundle_of s y ≡ b
    → (P s ≡ true) ⊎ (bound_on (cond b (Some y) (bundle_at n s)) ≡ 0)) [
      | true ↦ λ e. inl (here y e p.0)
      | false ↦ λ e. by_entries P n s p.1
    ] refl
  where
    here : (y : Entry) → is_bundle_of s y ≡ true → (not (is_bundle y) || P (entry_slot y)) ≡ true → P s ≡ true
    here (Slot t r k) e t_ = absurd (cc)
    here (Bundle t k) e t_ = ap P (sym (eqb-true t s e)) ∙ t_

begun_zero : (sc : Bool) (b f : ℕ) → b ≡ 0 → f ≡ 0 → is_begun sc b f ≡ true
begun_zero sc b f h k =
    (λ i. is_begun sc (h i) (k i)) ∙ elim sc as (λ x. is_begun x 0 0 ≡ true) [ true ↦ refl | false ↦ refl ]

back_zero : (sc : Bool) (b l : ℕ) → b ≡ 0 → l ≡ 0 → is_back sc b l ≡ true
back_zero sc b l h k =
    (λ i. is_back sc (h i) (k i)) ∙ elim sc as (λ x. is_back x 0 0 ≡ true) [ true ↦ refl | false ↦ refl ]

times_zero : (m : ℕ) → m * 0 ≡ 0
times_zero m = omega arith

grown_zero : (turns : ℕ) (sc : Bool) (b f l : ℕ) → b ≡ 0 → f ≡ 0 → l ≡ 0 → has_grown turns sc b f l ≡ true
grown_zero turns sc b f l h k j =
    (λ i. has_grown turns sc (h i) (k i) (j i)) ∙ elim sc as (λ x. has_grown turns x 0 0 0 ≡ true) [
      | true ↦ refl
      | false ↦ ap (λ x. 0 == x) (let z : 0 + (turns - 1) * (0 - 0) ≡ 0 = omega (arith, times_zero (turns - 1)) in z)
    ]

-- what is tested of the bundles of two notes, or of three, holds at each slot
at_two : (P : ℕ → Bool) (m n : Entries) (s : ℕ) → all_bundles P m ≡ true → all_bundles P n ≡ true
    → (bound_at m s ≡ 0 → bound_at n s ≡ 0 → P s ≡ true) → P s ≡ true
at_two P m n s h k none =
    elim (by_entries P m s h) [
      | inl a ↦ a
      | inr a ↦ elim (by_entries P n s k) [ inl b ↦ b | inr b ↦ none a b ]
    ]

at_three : (P : ℕ → Bool) (m n o : Entries) (s : ℕ) → all_bundles P m ≡ true → all_bundles P n ≡ true
    → all_bundles P o ≡ true → (bound_at m s ≡ 0 → bound_at n s ≡ 0 → bound_at o s ≡ 0 → P s ≡ true) → P s ≡ true
at_three P m n o s h k j none =
    elim (by_entries P o s j) [ inl a ↦ a | inr a ↦ at_two P m n s h k (λ b d. none b d a) ]

-- What holds of a slot in a loop whose tests pass: the bound at the body's end is that at its first place or more, the bound
-- at the first place is that of the last turn, and a bundle that is scattered has one bound.
pub record TurnsFit (turns : ℕ) (scattered : Bool) (before first last : ℕ) : Type 0 where
  pub rises : first ≤ last
  pub starts : first ≡ before + (turns - 1) * (last - first)
  pub stays : scattered ≡ true → (first ≡ before) × (last ≡ before)

turns_fit : (turns : ℕ) (sc : Bool) (b f l : ℕ) → is_begun sc b f ≡ true → is_back sc b l ≡ true
    → has_grown turns sc b f l ≡ true → TurnsFit turns sc b f l
turns_fit turns true b f l h k g =
    let e : f ≡ b = eqb-true f b h in
    let d : l ≡ b = eqb-true l b k in
    let z : l - f ≡ 0 = omega (arith, e, d) in
    record {
      rises = omega (arith, e, d);
      starts = e ∙ omega (arith, ap (λ x. (turns - 1) * x) z, times_zero (turns - 1));
      stays = λ t. (e, d);
    }
turns_fit turns false b f l h k g =
    let p = and_parts (nat_le f l) (f == b + (turns - 1) * (l - f)) g in
    record {
      rises = leb-true f l p.0;
      starts = eqb-true f (b + (turns - 1) * (l - f)) p.1;
      stays = λ t. absurd (cc);
    }

pages_same : (a b : Entries) → same_note (plain_part a) (plain_part b) ≡ true → (s : ℕ) → entry_at a s ≡ entry_at b s
pages_same a b h s =
    sym (page_of_part a s) ∙ ap (λ n. entry_at n s) (note_same (plain_part a) (plain_part b) h) ∙ page_of_part b s

-- The notes at a loop's place, at its body's first place and at its body's end.
pub record LoopFits (turns : ℕ) (b : Sequence) (before first last : Entries) : Type 0 where
  pub first_pages : (s : ℕ) → entry_at first s ≡ entry_at before s
  pub last_pages : (s : ℕ) → entry_at last s ≡ entry_at before s
  pub bounds : (s : ℕ) → TurnsFit turns (scatters b s) (bound_at before s) (bound_at first s) (bound_at last s)

pub loop_fits : (turns : ℕ) (b : Sequence) (before first last : Entries)
    → begins_turns (scatters b) before first ≡ true → ends_as_begun (scatters b) before last ≡ true
    → grows_by_turns turns (scatters b) before first last ≡ true → LoopFits turns b before first last
loop_fits turns b before first last h k g =
    let P : ℕ → Bool = λ s. is_begun (scatters b s) (bound_at before s) (bound_at first s) in
    let Q : ℕ → Bool = λ s. is_back (scatters b s) (bound_at before s) (bound_at last s) in
    let R : ℕ → Bool = λ s. has_grown turns (scatters b s) (bound_at before s) (bound_at first s) (bound_at last s) in
    let p =
    and_parts (is_in_form first)
    (same_note (plain_part first) (plain_part before) && (all_bundles P before && all_bundles P first)) h in
    let q = and_parts (same_note (plain_part first) (plain_part before)) (all_bundles P before && all_bundles P first) p.1 in
    let r = and_parts (all_bundles P before) (all_bundles P first) q.1 in
    let t = and_parts (same_note (plain_part last) (plain_part before)) (all_bundles Q before && all_bundles Q last) k in
    let u = and_parts (all_bundles Q before) (all_bundles Q last) t.1 in
    let v = and_parts (all_bundles R before) (all_bundles R first && all_bundles R last) g in
    let w = and_parts (all_bundles R first) (all_bundles R last) v.1 in
    record {
      first_pages = pages_same first before q.0;
      last_pages = pages_same last before t.0;
      bounds = λ s. turns_fit turns (scatters b s) (bound_at before s) (bound_at first s) (bound_at last s)
          (at_two P before first s r.0 r.1
          (begun_zero (scatters b s) (bound_at before s) (bound_at first s)))
          (at_two Q before last s u.0 u.1 (back_zero (scatters b s) (bound_at before s) (bound_at last s)))
          (at_three R before first last s v.0 w.0 w.1
          (grown_zero turns (scatters b s) (bound_at before s) (bound_at first s) (bound_at last s)));
    }

-- The first note of a loop's body that passes its tests stands at its place, may begin the turns, and is small.
pub turn_passes : (g : Geometry) (c : Claims) (k before : ℕ) (b : Sequence)
    → first_fault g c (turn_tests k before b) ≡ None
    → (slice_get c.notes k ≡ Some (note_at c k)) × (begins_turns (scatters b) (note_at c before) (note_at c k) ≡ true)
    × (note_pins (note_at c k) ≤ c.peak)
turn_passes g c k before b h =
    let p = first_passes g c (there k) (may_begin k before b ∷ within_peak k ∷ []) h in
    let q = first_passes g c (may_begin k before b) (within_peak k ∷ []) p.1 in
    let r = first_passes g c (within_peak k) [] q.1 in
    (some_of (slice_get c.notes k) p.0, q.0, leb-true (note_pins (note_at c k)) c.peak r.0)

-- ---- all tests of a plan

-- What holds where every test of the claims passes.
pub record AllPass (g : Geometry) (p : Terms) (c : Claims) : Type 0 where
  pub settings : g ≡ p.layout
  pub first : (slice_get c.notes 0 ≡ Some (note_at c 0)) × (note_at c 0 ≡ []) × (note_pins (note_at c 0) ≤ c.peak)
  pub walk : first_fault g c (sequence_tests None 0 p.body) ≡ None
  pub last : length (note_at c (sequence_end 0 p.body)) ≡ 0
  pub few : length c.notes ≤ sequence_end 0 p.body + 1
  pub limit : c.steps ≤ most_steps
  pub enough : sequence_longest p.body ≤ c.steps
  pub peak : c.peak ≤ g.frames

pub all_pass : (g : Geometry) (p : Terms) (c : Claims) → first_fault g c (tests p) ≡ None → AllPass g p c
all_pass g p c h =
    let k : ℕ = sequence_end 0 p.body in
    let longest : ℕ = sequence_longest p.body in
    let finals : List Test = steps_allowed ∷ steps_enough longest ∷ peak_allowed ∷ [] in
    let lasts : List Test = holds_nothing k ∷ no_more_notes (k + 1) ∷ finals in
    let a = both_pass g c (same_settings p.layout ∷ note_tests 0 empty ++ sequence_tests None 0 p.body) lasts h in
    let b = both_pass g c (same_settings p.layout ∷ note_tests 0 empty) (sequence_tests None 0 p.body) a.0 in
    let d = first_passes g c (same_settings p.layout) (note_tests 0 empty) b.0 in
    let e1 = first_passes g c (holds_nothing k) (no_more_notes (k + 1) ∷ finals) a.1 in
    let e2 = first_passes g c (no_more_notes (k + 1)) finals e1.1 in
    let e3 = first_passes g c steps_allowed (steps_enough longest ∷ peak_allowed ∷ []) e2.1 in
    let e4 = first_passes g c (steps_enough longest) (peak_allowed ∷ []) e3.1 in
    let e5 = first_passes g c peak_allowed [] e4.1 in
    record {
      settings = layout_same g p.layout d.0;
      first = note_passes g c 0 empty d.1;
      walk = b.1;
      last = eqb-true (length (note_at c k)) 0 e1.0;
      few = leb-true (length c.notes) (k + 1) e2.0;
      limit = leb-true c.steps most_steps e3.0;
      enough = leb-true longest c.steps e4.0;
      peak = leb-true c.peak g.frames e5.0;
    }

-- bounds that are told in full are those of the step
pub noted_told : (s : Step) (n : Entries) → noted_with None s n ≡ noted_after s n
noted_told (fix s r) n = refl
noted_told (unfix s) n = refl
noted_told (latch s m) n = refl
noted_told (unlatch s) n = refl
noted_told (gather s r) n = refl
noted_told (scatter s) n = refl
