-- What is made of a plan can be written as a text, where it is accepted.
use Rattle.std.proofs.Common.{◌≡◌, ℕ, zero, suc, ◌+◌, ◌<◌, ◌≤◌, Bool, true, false, cond, Some, None, List, [], ◌∷◌, ◌++◌}
use Rattle.std.proofs.Common.{length, get_or, refl, sym, ap, subst, ◌∙◌, arith}
use Rattle.std.specs.Prelude.{◌==◌, nat_lt, is_some, option_map, if◌then◌else◌, All}
use Rattle.std.proofs.lemmas.Bool.{ltb-true, eqb-true}
use Rattle.std.proofs.lemmas.Bool.Decides.{nat_tests}
use Rattle.std.proofs.lemmas.List.{length-map}
use Rattle.std.proofs.lemmas.List.Elements.{All-nil, All-cons, All-append, All-weaker}
use Rattle.std.proofs.lemmas.List.Kept.{AllPairs-cons}
use Rattle.pp_settings.specs.Layout.{Geometry}
use Rattle.pp_settings.specs.Settings.{Configuration, geometry_of}
use Rattle.pp_settings.specs.Limits.{most_slots}
use Rattle.pp_plan.specs.Tree.{Step, fix, unfix, latch, unlatch, gather, scatter, Statement, step, loop, choice}
use Rattle.pp_plan.specs.Tree.{Sequence, skip, andthen, Alternatives, none, either}
use Rattle.pp_plan.specs.Rules.{IsStep, IsStatement, IsSequence, AreAlternatives, uses_bundle}
use Rattle.pp_plan.specs.Terms.{Terms, IsPlan}
use Rattle.pp_cert.specs.declared.note.Held.{Held}
use Rattle.pp_cert.specs.declared.note.Held.TheVariants.{Free}
use Rattle.pp_cert.specs.declared.note.Entry.{Entry}
use Rattle.pp_cert.specs.declared.note.Entry.TheVariants.{Slot, Bundle}
use Rattle.pp_cert.specs.Claims.{IsEntry, IsNote, AreClaims}
use Rattle.pp_cert.specs.Slots.{slot_insert}
use Rattle.pp_cert.specs.Held.{held_in}
use Rattle.pp_cert.specs.Longest.{sequence_longest}
use Rattle.pp_cert.specs.Notes.{Entries, entry_slot, entry_held, note_pins, is_slot, is_bundle_of, entry_at, noted_at, bound_at}
use Rattle.pp_cert.specs.Notes.{noted_as, one_more, without_page, without_bundle, with_bound}
use Rattle.pp_cert.specs.Walk.{empty, Test, same_settings, holds_nothing, no_more_notes, steps_allowed, steps_enough}
use Rattle.pp_cert.specs.Walk.{peak_allowed, first_fault, note_tests, sequence_tests, sequence_end}
use Rattle.pp_cert.specs.Limits.{most_bound, most_counted, most_entries}
use Rattle.pp_cert.proofs.Passing.{first_passes, both_pass, layout_same}
use Rattle.pp_cert.proofs.Places.{sequence_end-most}
use Rattle.pp_cert.proofs.SlotKinds.{KeepsKinds, StatementKeeps, IsOfKinds, BranchesKeep}
use Rattle.pp_annotate.specs.Growth.{rise, risen, with_rise, risen_below, first_note}
use Rattle.pp_annotate.specs.Made.{after_step, after_statement, after_sequence, statement_notes, sequence_notes}
use Rattle.pp_annotate.specs.Made.{branches_notes, made_notes, greatest, made}
use Rattle.pp_annotate.specs.Annotation.{counted_tests}
use Rattle.pp_annotate.proofs.Forms.{Forms, Absent, absent_bundle}
use Rattle.pp_annotate.proofs.Rises.{above_it}
use Rattle.pp_annotate.proofs.Bundles.{sequence_few, own_kinds}
use Rattle.pp_annotate.proofs.Told.{peak_of}
use Rattle.pp_annotate.proofs.Stands.{sequence_places}

-- ---- notes whose slots rise

another : (m s : ℕ) → (m == s) ≡ false → nat_lt s m ≡ false → m + 1 ≤ s
another m s a b = grind (arith, nat_tests)

module _ (kind : ℕ → Bool) (slots regions : ℕ) where
  -- a page of a plain slot, whose region is one of the settings', or a bundle with a page
  abbrev IsKnown : Entry → Type 0
  IsKnown (Slot s r h) = (r < regions) × (kind s ≡ false)
  IsKnown (Bundle s k) = (1 ≤ k) × (kind s ≡ true)

  -- the slots rise from `low` on and are below `slots`, and the entries are known
  abbrev pub Rises : ℕ → Entries → Type 0
  Rises low [] = low ≤ slots
  Rises low (e ∷ es) = (low ≤ entry_slot e) × IsKnown e × Rises (entry_slot e + 1) es

  pub rises_size : (low : ℕ) (n : Entries) → Rises low n → low + length n ≤ slots
  rises_size low [] r = omega (arith, r)
  rises_size low (e ∷ es) r = omega (arith, r.0, rises_size (entry_slot e + 1) es r.2)

  rises_lower : (low lower : ℕ) (n : Entries) → lower ≤ low → Rises low n → Rises lower n
  rises_lower low lower [] h r = omega (arith, h, r)
  rises_lower low lower (e ∷ es) h r = (omega (arith, h, r.0), r.1, r.2)

  pub rises_forms : (low : ℕ) (n : Entries) → Rises low n → Forms kind low n
  rises_forms low [] r = tt
  rises_forms low (Slot s q h ∷ n) r = (r.0, omega arith, r.1.1, rises_forms (s + 1) n r.2)
  rises_forms low (Bundle s k ∷ n) r = (r.0, r.1.0, tt, rises_forms (s + 1) n r.2)

  rises_insert : (low : ℕ) (x : Entry) (n : Entries) → low ≤ entry_slot x → entry_slot x < slots → IsKnown x
      → Absent (entry_slot x) n → Rises low n → Rises low (slot_insert entry_slot x n)
  rises_insert low x [] at within known absent r = (at, known, omega (arith, within))
  rises_insert low x (y ∷ n) at within known absent r =
      elim (nat_lt (entry_slot x) (entry_slot y)) as (λ b. nat_lt (entry_slot x) (entry_slot y) ≡ b
      → Rises low (if b then x ∷ y ∷ n else y ∷ slot_insert entry_slot x n)) [
        | true ↦ λ t. (at, known, (omega (arith, ltb-true (entry_slot x) (entry_slot y) t), r.1, r.2))
        | false ↦ λ t. (
          r.0,
          r.1,
          rises_insert (entry_slot y + 1) x n (another (entry_slot y) (entry_slot x) absent.0 t) within known absent.1 r.2,
        )
      ] refl

  rises_remove : (low s : ℕ) (n : Entries) → Rises low n → Rises low (without_page s n)
  rises_remove low s [] r = r
  rises_remove low s (y ∷ ys) r =
      let rest = rises_remove (entry_slot y + 1) s ys r.2 in
      elim (is_slot s y) as (λ b. Rises low (if b then without_page s ys else y ∷ without_page s ys)) [
        | true ↦ rises_lower (entry_slot y + 1) low (without_page s ys) (omega (arith, r.0)) rest
        | false ↦ (r.0, r.1, rest)
      ]

  rises_scatter : (low s : ℕ) (n : Entries) → Rises low n → Rises low (without_bundle s n)
  rises_scatter low s [] r = r
  rises_scatter low s (y ∷ ys) r =
      let rest = rises_scatter (entry_slot y + 1) s ys r.2 in
      elim (is_bundle_of s y) as (λ b. Rises low (if b then without_bundle s ys else y ∷ without_bundle s ys)) [
        | true ↦ rises_lower (entry_slot y + 1) low (without_bundle s ys) (omega (arith, r.0)) rest
        | false ↦ (r.0, r.1, rest)
      ]

  rises_bound : (s k : ℕ) (n : Entries) → s < slots → kind s ≡ true → 1 ≤ k → Rises 0 n → Rises 0 (with_bound s k n)
  rises_bound s k n within is some r =
      rises_insert 0 (Bundle s k) (without_bundle s n) (omega arith) within (some, is)
      (absent_bundle kind s 0 n is (rises_forms 0 n r)) (rises_scatter 0 s n r)

  rises_held_as : (low : ℕ) (held : Held) (s : ℕ) (n : Entries) → Rises low n → Rises low (noted_as held s n)
  rises_held_as low held s [] r = r
  rises_held_as low held s (Bundle t k ∷ ys) r = (r.0, r.1, rises_held_as (t + 1) held s ys r.2)
  rises_held_as low held s (Slot t q h ∷ ys) r =
      elim (t == s) as (λ b. Rises low (if b then Slot t q held ∷ ys else Slot t q h ∷ noted_as held s ys)) [
        | true ↦ (r.0, r.1, r.2)
        | false ↦ (r.0, r.1, rises_held_as (t + 1) held s ys r.2)
      ]

  -- ---- the first note of a loop's body

  rise_rises : (stop s m : ℕ) (n : Entries) → 1 ≤ stop → s < slots → kind s ≡ true → Rises 0 n
      → Rises 0 (with_rise s (risen stop (bound_at n s) m) n)
  rise_rises stop s m n some within is r =
      let k : ℕ = risen stop (bound_at n s) m in
      elim (k == bound_at n s) as (λ b. (k == bound_at n s) ≡ b → Rises 0 (if b then n else with_bound s k n)) [
        | true ↦ λ e. r
        | false ↦ λ e. rises_bound s k n within is (above_it stop (bound_at n s) m some e) r
      ] refl

  module _ (stop : ℕ) (some : 1 ≤ stop) (few : (s : ℕ) → kind s ≡ true → s < slots) where
    below_rises : (m turns : ℕ) (b : Sequence) (n : Entries) → Rises 0 n → Rises 0 (risen_below stop m kind turns b n)
    unfolding risen_below
    below_rises zero turns b n r = r
    below_rises (suc m) turns b n r =
        let at : Entries = risen_below stop m kind turns b n in
        elim (kind m) as (λ t. kind m ≡ t
        → Rises 0 (if t then with_rise m (risen stop (bound_at at m) (rise turns b m)) at else at)) [
          | true ↦ λ e. rise_rises stop m (rise turns b m) at some (few m e) e (below_rises m turns b n r)
          | false ↦ λ e. below_rises m turns b n r
        ] refl

    pub first_rises : (turns : ℕ) (b : Sequence) (n : Entries) → Rises 0 n → Rises 0 (first_note stop kind turns b n)
    unfolding first_note
    first_rises turns b n r = below_rises most_slots turns b n r

    -- ---- all notes

    -- a slot without a page of its own has no entry where it is no bundle
    absent_page : (s low : ℕ) (n : Entries) → kind s ≡ false → is_some (noted_at n s) ≡ false → Rises low n → Absent s n
    absent_page s low [] plain h r = tt
    absent_page s low (Slot t q h ∷ n) plain free r =
        elim (t == s) as (λ b. (t == s) ≡ b → is_some (option_map entry_held (cond b (Some (Slot t q h)) (entry_at n s))) ≡ false
        → ((t == s) ≡ false) × Absent s n) [
          | true ↦ λ e j. absurd (cc)
          | false ↦ λ e j. (e, absent_page s (t + 1) n plain j r.2)
        ] refl free
    absent_page s low (Bundle t k ∷ n) plain free r =
        let rest = absent_page s (t + 1) n plain free r.2 in
        elim (t == s) as (λ b. (t == s) ≡ b → ((t == s) ≡ false) × Absent s n) [
          | true ↦ λ e. absurd (let same : kind t ≡ kind s = ap kind (eqb-true t s e) in let is = r.1.1 in cc (same, is, plain))
          | false ↦ λ e. (e, rest)
        ] refl

    pub step_rises : (s : Step) (n : Entries) → KeepsKinds kind s → IsStep slots regions s → Rises 0 n
        → Rises 0 (after_step stop s n)
    step_rises (fix s r) n keeps is rises =
        elim (is_some (noted_at n s)) as (λ b. is_some (noted_at n s) ≡ b
        → Rises 0 (if b then n else slot_insert entry_slot (Slot s r Free) n)) [
          | true ↦ λ e. rises
          | false ↦ λ e.
              rises_insert 0 (Slot s r Free) n (omega arith) is.0 (is.1, keeps) (absent_page s 0 n keeps e rises) rises
        ] refl
    step_rises (unfix s) n keeps is rises = rises_remove 0 s n rises
    step_rises (latch s m) n keeps is rises = rises_held_as 0 (held_in m) s n rises
    step_rises (unlatch s) n keeps is rises = rises_held_as 0 Free s n rises
    step_rises (gather s r) n keeps is rises =
        rises_bound s (one_more (Some stop) (bound_at n s)) n is.0 keeps (omega (arith, some)) rises
    step_rises (scatter s) n keeps is rises = rises_scatter 0 s n rises

    abbrev AllRise : List Entries → Type 0
    AllRise ns = All (Rises 0) ns

    mutual
      pub statement_rises : (s : Statement) (n : Entries) → StatementKeeps kind s → IsStatement slots regions s → Rises 0 n
          → AllRise (statement_notes stop kind s n) × Rises 0 (after_statement stop kind s n)
      statement_rises (step s) n keeps is r = (All-nil (Rises 0), step_rises s n keeps is r)
      statement_rises (loop m b) n keeps is r =
          let first : Entries = first_note stop kind m b n in
          let start : Rises 0 first = first_rises m b n r in
          let body = sequence_rises b first keeps.1 is.3 start in
          (All-cons (Rises 0) first (sequence_notes stop kind b first) start body.0, body.1)
      statement_rises (choice none) n keeps is r = (All-nil (Rises 0), r)
      statement_rises (choice (either b bs)) n keeps is r =
          (branches_rise (either b bs) n keeps is.2 r, (sequence_rises b n keeps.0 is.2.0 r).1)

      sequence_rises : (b : Sequence) (n : Entries) → IsOfKinds kind b → IsSequence slots regions b → Rises 0 n
          → AllRise (sequence_notes stop kind b n) × Rises 0 (after_sequence stop kind b n)
      sequence_rises skip n keeps is r = (All-nil (Rises 0), r)
      sequence_rises (andthen s b) n keeps is r =
          let m : Entries = after_statement stop kind s n in
          let inner = statement_rises s n keeps.0 is.0 r in
          let rest = sequence_rises b m keeps.1 is.1 inner.1 in (
            All-append (Rises 0) (statement_notes stop kind s n) (m ∷ sequence_notes stop kind b m) inner.0
                (All-cons (Rises 0) m (sequence_notes stop kind b m) inner.1 rest.0),
            rest.1,
          )

      branches_rise : (bs : Alternatives) (n : Entries) → BranchesKeep kind bs → AreAlternatives slots regions bs
          → Rises 0 n → AllRise (branches_notes stop kind bs n)
      branches_rise none n keeps is r = All-nil (Rises 0)
      branches_rise (either b bs) n keeps is r =
          All-append (Rises 0) (n ∷ sequence_notes stop kind b n) (branches_notes stop kind bs n)
          (All-cons (Rises 0) n (sequence_notes stop kind b n) r (sequence_rises b n keeps.0 is.0 r).0)
          (branches_rise bs n keeps.1 is.1 r)

-- ---- such a note is in form

rises_above : (kind : ℕ → Bool) (slots regions low : ℕ) (n : Entries) → Rises kind slots regions low n
    → All (λ e. low ≤ entry_slot e) n
rises_above kind slots regions low [] r = All-nil (λ e. low ≤ entry_slot e)
rises_above kind slots regions low (e ∷ es) r =
    All-cons (λ d. low ≤ entry_slot d) e es r.0
    (All-weaker (λ d. entry_slot e + 1 ≤ entry_slot d) (λ d. low ≤ entry_slot d) (λ d h. omega (arith, h, r.0)) es
    (rises_above kind slots regions (entry_slot e + 1) es r.2))

module _ (c : Configuration) (p : Terms) where
  abbrev kinds : ℕ → Bool
  kinds = uses_bundle p.body

  abbrev RisesFrom : ℕ → Entries → Type 0
  RisesFrom low n = Rises kinds (length p.slots) (length c.regions) low n

  is_entry : (e : Entry) → entry_slot e < length p.slots → IsKnown kinds (length p.slots) (length c.regions) e
      → note_pins (e ∷ []) ≤ most_bound (geometry_of c) → IsEntry c p e
  is_entry (Slot s r h) within known small = record { slot = within; kind = known.1; region = known.0; bound = tt }
  is_entry (Bundle s k) within known small = record {
    slot = within;
    kind = known.1;
    region = tt;
    bound = (known.0, omega (arith, small));
  }

  is_note : (low : ℕ) (n : Entries) → RisesFrom low n → note_pins n ≤ most_bound (geometry_of c) → IsNote c p n
  is_note low [] r small = record { entries = All-nil (IsEntry c p); rising = λ i j d h l. absurd (omega (arith, l)) }
  is_note low (e ∷ es) r small =
      let rest = is_note (entry_slot e + 1) es r.2 (omega (arith, small)) in
      let within : entry_slot e < length p.slots =
      omega (arith, rises_size kinds (length p.slots) (length c.regions) (entry_slot e + 1) es r.2) in
      let above : All (λ d. entry_slot e < entry_slot d) es =
      All-weaker (λ d. entry_slot e + 1 ≤ entry_slot d) (λ d. entry_slot e < entry_slot d) (λ d h. omega (arith, h)) es
      (rises_above kinds (length p.slots) (length c.regions) (entry_slot e + 1) es r.2) in
      record {
        entries = All-cons (IsEntry c p) e es (is_entry e within r.1 (omega (arith, small))) rest.entries;
        rising = AllPairs-cons (λ d f. entry_slot d < entry_slot f) e es above rest.rising;
      }

-- each pins no more than the one with most
all_within : (m : ℕ) (ns : List Entries) → greatest ns ≤ m → All (λ (n : Entries). note_pins n ≤ m) ns
all_within m [] h = All-nil (λ (n : Entries). note_pins n ≤ m)
all_within m (n ∷ ns) h =
    All-cons (λ (n : Entries). note_pins n ≤ m) n ns (omega (arith, h)) (all_within m ns (omega (arith, h)))

-- The notes that are made rise by slot, whether the plan is accepted or not.
all_rise : (p : Terms) (regions : ℕ) → IsPlan p → length p.layout.extents ≡ regions
    → All (Rises (uses_bundle p.body) (length p.slots) regions 0) (made_notes p)
all_rise p regions plan count =
    let kind : ℕ → Bool = uses_bundle p.body in
    let slots : ℕ = length p.slots in
    let parts : IsSequence slots regions p.body = subst (λ (r : ℕ). IsSequence slots r p.body) count plan.body.parts in
    let few : (s : ℕ) → kind s ≡ true → s < slots = λ s k. sequence_few slots regions p.body s parts k in
    let none_yet : Rises kind slots regions 0 [] = omega arith in
    All-cons (Rises kind slots regions 0) [] (sequence_notes (most_counted p.layout) kind p.body []) none_yet
    (sequence_rises kind slots regions (most_counted p.layout) (omega arith) few p.body [] (own_kinds p plan) parts none_yet).0

rise_few : (p : Terms) (regions : ℕ) → IsPlan p
    → All (Rises (uses_bundle p.body) (length p.slots) regions 0) (made_notes p)
    → All (λ (n : Entries). length n ≤ most_entries) (made_notes p)
rise_few p regions plan all =
    let kind : ℕ → Bool = uses_bundle p.body in
    let slots : ℕ = length p.slots in
    All-weaker (Rises kind slots regions 0) (λ (n : Entries). length n ≤ most_entries)
    (λ n r. omega (arith, rises_size kind slots regions 0 n r, plan.count)) (made_notes p) all

-- So each has at most one entry for each slot.
pub made_few : (p : Terms) → IsPlan p → All (λ (n : Entries). length n ≤ most_entries) (made_notes p)
made_few p plan = rise_few p (length p.layout.extents) plan (all_rise p (length p.layout.extents) plan refl)

pub writable : (c : Configuration) (p : Terms) → IsPlan p
    → first_fault (geometry_of c) (made p) (counted_tests p) ≡ None → AreClaims c p (made p)
writable c p plan h =
    let g : Geometry = geometry_of c in
    let stop : ℕ = most_counted p.layout in
    let kind : ℕ → Bool = uses_bundle p.body in
    let slots : ℕ = length p.slots in
    let regions : ℕ = length c.regions in
    let front : List Test = same_settings p.layout ∷ note_tests 0 empty in
    let end : ℕ = sequence_end 0 p.body in
    let longest : ℕ = sequence_longest p.body in
    let finals : List Test =
    holds_nothing end ∷ no_more_notes (end + 1) ∷ steps_allowed ∷ steps_enough longest ∷ peak_allowed ∷ [] in
    let q = both_pass g (made p) (front ++ sequence_tests (Some stop) 0 p.body) finals h in
    let r = both_pass g (made p) front (sequence_tests (Some stop) 0 p.body) q.0 in
    let settings = layout_same g p.layout (first_passes g (made p) (same_settings p.layout) (note_tests 0 empty) r.0).0 in
    let count : length p.layout.extents ≡ regions = ap (λ (x : Geometry). length x.extents) (sym settings)
    ∙ length-map c.regions (λ r. r.extent) in
    let low : (made p).peak ≤ most_bound g = omega (arith, peak_of g (made p) end (end + 1) longest q.1) in
    let parts : IsSequence slots regions p.body = subst (λ (r : ℕ). IsSequence slots r p.body) count plan.body.parts in
    let rise : All (Rises kind slots regions 0) (made_notes p) = all_rise p regions plan count in
    let within : All (λ (n : Entries). note_pins n ≤ most_bound g) (made_notes p) =
    all_within (most_bound g) (made_notes p) low in
    record {
      few = record {
        notes_few =
            omega (
              arith,
              sequence_places stop kind 0 p.body [],
              sequence_end-most slots regions 0 p.body parts,
              plan.body.count,
            );
        entries_few = rise_few p regions plan rise;
      };
      notes = λ k d l. is_note c p 0 (get_or (made_notes p) k d) (rise k d l) (within k d l);
    }
