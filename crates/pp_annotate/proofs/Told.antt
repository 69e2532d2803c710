-- Where no other test of what is made fails, bounds grow in its loops as the turns want it; and the other way round.
use Rattle.std.proofs.Common.{◌≡◌, ℕ, zero, suc, ◌+◌, ◌-◌, ◌*◌, ◌<◌, ◌≤◌, Bool, true, false, Some, None, List, [], ◌∷◌}
use Rattle.std.proofs.Common.{◌++◌, length, refl, sym, ap, ◌∙◌, arith}
use Rattle.std.specs.Prelude.{◌==◌, ◌&&◌, nat_le, is_some, if◌then◌else◌, slice_get, unwrap_or}
use Rattle.std.proofs.lemmas.Bool.{leb-true, le-leb}
use Rattle.std.proofs.lemmas.Bool.Decides.{nat_tests}
use Rattle.pp_settings.specs.Layout.{Geometry}
use Rattle.pp_settings.specs.Limits.{most_slots}
use Rattle.pp_plan.specs.Tree.{Statement, step, loop, choice, Sequence, skip, andthen, Alternatives, none, either}
use Rattle.pp_plan.specs.Tree.{scatters}
use Rattle.pp_plan.specs.Rules.{uses_bundle}
use Rattle.pp_plan.specs.Terms.{Terms, IsPlan}
use Rattle.pp_cert.specs.declared.check_error.CheckError.TheVariants.{NotesShort, NoteDiffers}
use Rattle.pp_cert.specs.Limits.{most_counted}
use Rattle.pp_cert.specs.Notes.{Entries, note_pins, bound_at, same_note, has_grown, all_bundles, grows_by_turns}
use Rattle.pp_cert.specs.Longest.{sequence_longest}
use Rattle.pp_cert.specs.Walk.{Claims, note_at, Expectation, empty, same, expected_note, within_peak, outcome, Test}
use Rattle.pp_cert.specs.Walk.{same_settings, loop_keeps, loop_grows}
use Rattle.pp_cert.specs.Walk.{branch_agrees, holds_nothing, no_more_notes, steps_allowed, steps_enough, peak_allowed}
use Rattle.pp_cert.specs.Walk.{passes, fault_of, first_fault, note_tests, turn_tests, statement_tests, sequence_tests}
use Rattle.pp_cert.specs.Walk.{later_tests, Certifies, statement_end, sequence_end}
use Rattle.pp_cert.proofs.Faults.{past_first}
use Rattle.pp_cert.proofs.Passing.{first_passes, both_pass, layout_same}
use Rattle.pp_cert.proofs.SlotKinds.{StatementKeeps, IsOfKinds, BranchesKeep}
use Rattle.pp_annotate.specs.Growth.{growth, first_note}
use Rattle.pp_annotate.specs.Made.{after_statement, after_sequence, statement_notes, sequence_notes, branches_notes}
use Rattle.pp_annotate.specs.Made.{made_notes, made, greatest}
use Rattle.pp_annotate.specs.Annotation.{counted_tests}
use Rattle.pp_annotate.proofs.Pins.{bound_pins}
use Rattle.pp_annotate.proofs.Grows.{first_is, noted_in_full, sequence_grows}
use Rattle.pp_annotate.proofs.Bundles.{bundles_few, own_kinds}
use Rattle.pp_annotate.proofs.Stands.{Stand, stand_split, stand_itself, stand_greatest, statement_places}
use Rattle.pp_annotate.proofs.Stands.{sequence_places, is_at, ends_at}
use Rattle.pp_annotate.proofs.Begins.{all_from}

pub join_none : (g : Geometry) (c : Claims) (xs ys : List Test) → first_fault g c xs ≡ None
    → first_fault g c ys ≡ None → first_fault g c (xs ++ ys) ≡ None
join_none g c xs ys a b = past_first g c xs ys a ∙ b

cons_none : (g : Geometry) (c : Claims) (t : Test) (ts : List Test) → passes g c t ≡ true
    → first_fault g c ts ≡ None → first_fault g c (t ∷ ts) ≡ None
cons_none g c t ts a b = ap (λ x. if x then first_fault g c ts else Some (fault_of t)) a ∙ b

-- tests of a note that is expected to be the same
alike : (g : Geometry) (c : Claims) (k : ℕ) (x y : Expectation) → expected_note c x ≡ expected_note c y
    → first_fault g c (note_tests k x) ≡ None → first_fault g c (note_tests k y) ≡ None
alike g c k x y e h =
    ap (λ m. if is_some (slice_get c.notes k) then (if same_note (note_at c k) m then
    (first_fault g c (within_peak k ∷ [])) else Some (NoteDiffers k)) else Some (NotesShort k)) (sym e)
    ∙ h

-- ---- without the tests of growth

-- where all bounds of the notes are counted in full
module _ (g : Geometry) (c : Claims) (stop : ℕ) (small : (k : ℕ) → note_pins (note_at c k) < stop) where
  expected_told : (k : ℕ) (s : Statement)
      → expected_note c (outcome None k s) ≡ expected_note c (outcome (Some stop) k s)
  expected_told k (step s) =
      noted_in_full stop s (note_at c k) (λ t. omega (arith, bound_pins t (note_at c k), small k))
  expected_told k (loop n b) = refl
  expected_told k (choice none) = refl
  expected_told k (choice (either b bs)) = refl

  mutual
    statement_untold : (k : ℕ) (s : Statement) → first_fault g c (statement_tests None k s) ≡ None
        → first_fault g c (statement_tests (Some stop) k s) ≡ None
    statement_untold k (step s) h = h
    statement_untold k (loop turns b) h =
        let end : ℕ = sequence_end (k + 1) b in
        let front : List Test = turn_tests (k + 1) k b in
        let p =
        both_pass g c (front ++ sequence_tests None (k + 1) b)
        (loop_keeps end k b ∷ loop_grows end k (k + 1) turns b ∷ []) h in
        let q = both_pass g c front (sequence_tests None (k + 1) b) p.0 in
        let keeps = first_passes g c (loop_keeps end k b) (loop_grows end k (k + 1) turns b ∷ []) p.1 in
        join_none g c (front ++ sequence_tests (Some stop) (k + 1) b) (loop_keeps end k b ∷ [])
        (join_none g c front (sequence_tests (Some stop) (k + 1) b) q.0 (sequence_untold (k + 1) b q.1))
        (cons_none g c (loop_keeps end k b) [] keeps.0 refl)
    statement_untold k (choice none) h = h
    statement_untold k (choice (either b bs)) h =
        let end : ℕ = sequence_end (k + 1) b in
        let front : List Test = note_tests (k + 1) (same k) in
        let p = both_pass g c (front ++ sequence_tests None (k + 1) b) (later_tests None k end (end + 1) bs) h in
        let q = both_pass g c front (sequence_tests None (k + 1) b) p.0 in
        join_none g c (front ++ sequence_tests (Some stop) (k + 1) b) (later_tests (Some stop) k end (end + 1) bs)
        (join_none g c front (sequence_tests (Some stop) (k + 1) b) q.0 (sequence_untold (k + 1) b q.1))
        (later_untold k end (end + 1) bs p.1)

    pub sequence_untold : (k : ℕ) (b : Sequence) → first_fault g c (sequence_tests None k b) ≡ None
        → first_fault g c (sequence_tests (Some stop) k b) ≡ None
    sequence_untold k skip h = h
    sequence_untold k (andthen s b) h =
        let next : ℕ = statement_end k s in
        let told : List Test = note_tests next (outcome None k s) in
        let untold : List Test = note_tests next (outcome (Some stop) k s) in
        let p = both_pass g c (statement_tests None k s ++ told) (sequence_tests None next b) h in
        let q = both_pass g c (statement_tests None k s) told p.0 in
        let between = alike g c next (outcome None k s) (outcome (Some stop) k s) (expected_told k s) q.1 in
        join_none g c (statement_tests (Some stop) k s ++ untold) (sequence_tests (Some stop) next b)
        (join_none g c (statement_tests (Some stop) k s) untold (statement_untold k s q.0) between)
        (sequence_untold next b p.1)

    later_untold : (before first k : ℕ) (bs : Alternatives) → first_fault g c (later_tests None before first k bs) ≡ None
        → first_fault g c (later_tests (Some stop) before first k bs) ≡ None
    later_untold before first k none h = h
    later_untold before first k (either b bs) h =
        let end : ℕ = sequence_end k b in
        let front : List Test = note_tests k (same before) in
        let p =
        both_pass g c (front ++ sequence_tests None k b)
        (branch_agrees end first ∷ later_tests None before first (end + 1) bs) h in
        let q = both_pass g c front (sequence_tests None k b) p.0 in
        let rest = first_passes g c (branch_agrees end first) (later_tests None before first (end + 1) bs) p.1 in
        join_none g c (front ++ sequence_tests (Some stop) k b)
        (branch_agrees end first ∷ later_tests (Some stop) before first (end + 1) bs)
        (join_none g c front (sequence_tests (Some stop) k b) q.0 (sequence_untold k b q.1))
        (cons_none g c (branch_agrees end first) (later_tests (Some stop) before first (end + 1) bs) rest.0
        (later_untold before first (end + 1) bs rest.1))

-- ---- with them

same_is : (a b : ℕ) → a ≡ b → (a == b) ≡ true
same_is a b e = grind (arith, nat_tests)

-- the bounds of a bundle that has grown so
grown : (turns : ℕ) (sc : Bool) (b f l g : ℕ) → (sc ≡ false → (l ≡ f + g) × (f ≡ b + (turns - 1) * g))
    → has_grown turns sc b f l ≡ true
grown turns true b f l g h = refl
grown turns false b f l g h =
    let e = h refl in
    let d : g ≡ l - f = omega (arith, e.0) in
    let rises : nat_le f l ≡ true = le-leb f l (omega (arith, e.0)) in
    let sum : (f == b + (turns - 1) * (l - f)) ≡ true =
    same_is f (b + (turns - 1) * (l - f)) (e.1 ∙ ap (λ x. b + (turns - 1) * x) d) in
    (λ i. rises i && sum i)

module _ (g : Geometry) (c : Claims) (stop : ℕ) (kind : ℕ → Bool) (few : (s : ℕ) → kind s ≡ true → s < most_slots)
    (low : c.peak < stop) (small : (k : ℕ) → note_pins (note_at c k) < stop) where
  abbrev Here : ℕ → List Entries → Type 0
  Here k ns = Stand c.peak c.notes k ns

  grows : (k turns : ℕ) (b : Sequence) (n : Entries) → IsOfKinds kind b → note_at c k ≡ n
      → Here (k + 1) (statement_notes stop kind (loop turns b) n)
      → passes g c (loop_grows (sequence_end (k + 1) b) k (k + 1) turns b) ≡ true
  grows k turns b n is e h =
      let first : Entries = first_note stop kind turns b n in
      let last : Entries = after_sequence stop kind b first in
      let at_first : note_at c (k + 1) ≡ first = is_at c (k + 1) first h.0 in
      let at_last : note_at c (sequence_end (k + 1) b) ≡ last = ends_at c stop kind (k + 1) b first at_first h.2 in
      let P : ℕ → Bool = λ s. has_grown turns (scatters b s) (bound_at n s) (bound_at first s) (bound_at last s) in
      let all : (s : ℕ) → P s ≡ true = λ s.
      grown turns (scatters b s) (bound_at n s) (bound_at first s) (bound_at last s) (growth b s) (λ still. (
        sequence_grows kind stop few b first s is still (omega (arith, h.1, low))
            (omega (arith, stand_greatest c.peak c.notes (k + 1 + 1) (sequence_notes stop kind b first) h.2, low)),
        first_is kind stop few turns b n s is still (omega (arith, bound_pins s first, h.1, low)),
      )) in
      let before_ok : all_bundles P n ≡ true = all_from P n all in
      let first_ok : all_bundles P first ≡ true = all_from P first all in
      let last_ok : all_bundles P last ≡ true = all_from P last all in
      (λ i. grows_by_turns turns (scatters b) (e i) (at_first i) (at_last i))
      ∙ (λ i. before_ok i && (first_ok i && last_ok i))

  mutual
    statement_told : (k : ℕ) (s : Statement) (n : Entries) → StatementKeeps kind s → note_at c k ≡ n
        → Here (k + 1) (statement_notes stop kind s n) → first_fault g c (statement_tests (Some stop) k s) ≡ None
        → first_fault g c (statement_tests None k s) ≡ None
    statement_told k (step s) n is e h t = t
    statement_told k (loop turns b) n is e h t =
        let end : ℕ = sequence_end (k + 1) b in
        let first : Entries = first_note stop kind turns b n in
        let front : List Test = turn_tests (k + 1) k b in
        let p = both_pass g c (front ++ sequence_tests (Some stop) (k + 1) b) (loop_keeps end k b ∷ []) t in
        let q = both_pass g c front (sequence_tests (Some stop) (k + 1) b) p.0 in
        let keeps = first_passes g c (loop_keeps end k b) [] p.1 in
        let body = sequence_told (k + 1) b first is.1 (is_at c (k + 1) first h.0) h.2 q.1 in
        join_none g c (front ++ sequence_tests None (k + 1) b)
        (loop_keeps end k b ∷ loop_grows end k (k + 1) turns b ∷ [])
        (join_none g c front (sequence_tests None (k + 1) b) q.0 body)
        (cons_none g c (loop_keeps end k b) (loop_grows end k (k + 1) turns b ∷ []) keeps.0
        (cons_none g c (loop_grows end k (k + 1) turns b) [] (grows k turns b n is.1 e h) refl))
    statement_told k (choice none) n is e h t = t
    statement_told k (choice (either b bs)) n is e h t =
        let end : ℕ = sequence_end (k + 1) b in
        let front : List Test = note_tests (k + 1) (same k) in
        let at : k + 1 + length (n ∷ sequence_notes stop kind b n) ≡ end + 1 =
        omega (arith, sequence_places stop kind (k + 1) b n) in
        let s =
        stand_split c.peak c.notes (k + 1) (end + 1) (n ∷ sequence_notes stop kind b n) (branches_notes stop kind bs n) at h in
        let p = both_pass g c (front ++ sequence_tests (Some stop) (k + 1) b) (later_tests (Some stop) k end (end + 1) bs) t in
        let q = both_pass g c front (sequence_tests (Some stop) (k + 1) b) p.0 in
        join_none g c (front ++ sequence_tests None (k + 1) b) (later_tests None k end (end + 1) bs)
        (join_none g c front (sequence_tests None (k + 1) b) q.0
        (sequence_told (k + 1) b n is.0 (is_at c (k + 1) n s.0.0) s.0.2 q.1))
        (later_told k end (end + 1) bs n is.1 s.1 p.1)

    pub sequence_told : (k : ℕ) (b : Sequence) (n : Entries) → IsOfKinds kind b → note_at c k ≡ n
        → Here (k + 1) (sequence_notes stop kind b n) → first_fault g c (sequence_tests (Some stop) k b) ≡ None
        → first_fault g c (sequence_tests None k b) ≡ None
    sequence_told k skip n is e h t = t
    sequence_told k (andthen s b) n is e h t =
        let next : ℕ = statement_end k s in
        let m : Entries = after_statement stop kind s n in
        let told : List Test = note_tests next (outcome None k s) in
        let untold : List Test = note_tests next (outcome (Some stop) k s) in
        let r =
        stand_split c.peak c.notes (k + 1) next (statement_notes stop kind s n) (m ∷ sequence_notes stop kind b m)
        (statement_places stop kind k s n) h in
        let p = both_pass g c (statement_tests (Some stop) k s ++ untold) (sequence_tests (Some stop) next b) t in
        let q = both_pass g c (statement_tests (Some stop) k s) untold p.0 in
        let between =
        alike g c next (outcome (Some stop) k s) (outcome None k s) (sym (expected_told g c stop small k s)) q.1 in
        join_none g c (statement_tests None k s ++ told) (sequence_tests None next b)
        (join_none g c (statement_tests None k s) told (statement_told k s n is.0 e r.0 q.0) between)
        (sequence_told next b m is.1 (is_at c next m r.1.0) r.1.2 p.1)

    -- of the second and later branches
    later_told : (before first k : ℕ) (bs : Alternatives) (n : Entries) → BranchesKeep kind bs
        → Here k (branches_notes stop kind bs n) → first_fault g c (later_tests (Some stop) before first k bs) ≡ None
        → first_fault g c (later_tests None before first k bs) ≡ None
    later_told before first k none n is h t = t
    later_told before first k (either b bs) n is h t =
        let end : ℕ = sequence_end k b in
        let front : List Test = note_tests k (same before) in
        let at : k + length (n ∷ sequence_notes stop kind b n) ≡ end + 1 = omega (arith, sequence_places stop kind k b n) in
        let s =
        stand_split c.peak c.notes k (end + 1) (n ∷ sequence_notes stop kind b n) (branches_notes stop kind bs n) at h in
        let p =
        both_pass g c (front ++ sequence_tests (Some stop) k b)
        (branch_agrees end first ∷ later_tests (Some stop) before first (end + 1) bs) t in
        let q = both_pass g c front (sequence_tests (Some stop) k b) p.0 in
        let rest = first_passes g c (branch_agrees end first) (later_tests (Some stop) before first (end + 1) bs) p.1 in
        join_none g c (front ++ sequence_tests None k b)
        (branch_agrees end first ∷ later_tests None before first (end + 1) bs)
        (join_none g c front (sequence_tests None k b) q.0
        (sequence_told k b n is.0 (is_at c k n s.0.0) s.0.2 q.1))
        (cons_none g c (branch_agrees end first) (later_tests None before first (end + 1) bs) rest.0
        (later_told before first (end + 1) bs n is.1 s.1 rest.1))

-- ---- of a plan

pub within_greatest : (ns : List Entries) (k : ℕ) → note_pins (unwrap_or (slice_get ns k) []) ≤ greatest ns
within_greatest [] k = omega arith
within_greatest (n ∷ ns) zero = omega arith
within_greatest (n ∷ ns) (suc k) = omega (arith, within_greatest ns k)

-- the tests before and after those of the body
abbrev fronts : Terms → List Test
fronts p = same_settings p.layout ∷ note_tests 0 empty

abbrev backs : Terms → List Test
backs p =
    holds_nothing (sequence_end 0 p.body)
    ∷ no_more_notes (sequence_end 0 p.body + 1)
    ∷ steps_allowed
    ∷ steps_enough (sequence_longest p.body)
    ∷ peak_allowed
    ∷ []

pub peak_of : (g : Geometry) (c : Claims) (k m l : ℕ)
    → first_fault g c (holds_nothing k ∷ no_more_notes m ∷ steps_allowed ∷ steps_enough l ∷ peak_allowed ∷ []) ≡ None
    → c.peak ≤ g.frames
peak_of g c k m l h =
    let a = first_passes g c (holds_nothing k) (no_more_notes m ∷ steps_allowed ∷ steps_enough l ∷ peak_allowed ∷ []) h in
    let b = first_passes g c (no_more_notes m) (steps_allowed ∷ steps_enough l ∷ peak_allowed ∷ []) a.1 in
    let d = first_passes g c steps_allowed (steps_enough l ∷ peak_allowed ∷ []) b.1 in
    let e = first_passes g c (steps_enough l) (peak_allowed ∷ []) d.1 in
    leb-true c.peak g.frames (first_passes g c peak_allowed [] e.1).0

-- What is made is accepted where no test apart from those of growth fails.
pub made_told : (g : Geometry) (p : Terms) → IsPlan p → first_fault g (made p) (counted_tests p) ≡ None
    → Certifies g p (made p)
made_told g p plan h =
    let c : Claims = made p in
    let stop : ℕ = most_counted p.layout in
    let kind : ℕ → Bool = uses_bundle p.body in
    let here : Stand c.peak c.notes 0 (made_notes p) = stand_itself (made_notes p) in
    let q = both_pass g c (fronts p ++ sequence_tests (Some stop) 0 p.body) (backs p) h in
    let r = both_pass g c (fronts p) (sequence_tests (Some stop) 0 p.body) q.0 in
    let settings = first_passes g c (same_settings p.layout) (note_tests 0 empty) r.0 in
    let same_frames = ap (λ (x : Geometry). x.frames) (layout_same g p.layout settings.0) in
    let peak =
    peak_of g c (sequence_end 0 p.body) (sequence_end 0 p.body + 1) (sequence_longest p.body) q.1 in
    let low : c.peak < stop = omega (arith, peak, same_frames) in
    let small : (k : ℕ) → note_pins (note_at c k) < stop = λ k.
    omega (arith, within_greatest (made_notes p) k, low) in
    let body =
    sequence_told g c stop kind (bundles_few p plan) low small 0 p.body [] (own_kinds p plan) refl here.2 r.1 in
    join_none g c (fronts p ++ sequence_tests None 0 p.body) (backs p)
    (join_none g c (fronts p) (sequence_tests None 0 p.body) r.0 body) q.1

-- Where what is made is accepted, none of the others fails.
pub made_untold : (g : Geometry) (p : Terms) → IsPlan p → Certifies g p (made p)
    → first_fault g (made p) (counted_tests p) ≡ None
made_untold g p plan h =
    let c : Claims = made p in
    let stop : ℕ = most_counted p.layout in
    let q = both_pass g c (fronts p ++ sequence_tests None 0 p.body) (backs p) h in
    let r = both_pass g c (fronts p) (sequence_tests None 0 p.body) q.0 in
    let settings = first_passes g c (same_settings p.layout) (note_tests 0 empty) r.0 in
    let same_frames = ap (λ (x : Geometry). x.frames) (layout_same g p.layout settings.0) in
    let peak =
    peak_of g c (sequence_end 0 p.body) (sequence_end 0 p.body + 1) (sequence_longest p.body) q.1 in
    let small : (k : ℕ) → note_pins (note_at c k) < stop = λ k.
    omega (arith, within_greatest (made_notes p) k, peak, same_frames) in
    join_none g c (fronts p ++ sequence_tests (Some stop) 0 p.body) (backs p)
    (join_none g c (fronts p) (sequence_tests (Some stop) 0 p.body) r.0 (sequence_untold g c stop small 0 p.body r.1)) q.1
