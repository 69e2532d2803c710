-- What a certificate has to say of a plan: the places of its notes, the tests in the order of a walk over the plan,
-- and the first of them that fails.
use Rattle.std.specs.Prelude.{◌≡◌, ℕ, ◌+◌, Bool, ◌==◌, ◌&&◌, not, nat_le, nat_lt, if◌then◌else◌}
use Rattle.std.specs.Prelude.{Option, None, Some, is_some}
use Rattle.std.specs.Prelude.{Result, Ok, Err, List, [], ◌∷◌, ◌++◌, length, slice_get, unwrap_or}
use Rattle.std.specs.Cmp.Lexicographic.{pointwise}
use Rattle.pp_settings.specs.Layout.{Geometry}
use Rattle.pp_settings.specs.declared.extent.Extent.{Extent}
use Rattle.pp_plan.specs.Tree.{Step, fix, unfix, latch, unlatch, gather, scatter, Statement, step, loop, choice}
use Rattle.pp_plan.specs.Tree.{Sequence, skip, andthen, Alternatives, none, either, scatters}
use Rattle.pp_plan.specs.Terms.{Terms}
use Rattle.pp_cert.specs.declared.certificate.Certificate.{Certificate}
pub use Rattle.pp_cert.specs.Claims.{Claims, claims_of}
pub use Rattle.pp_cert.specs.Limits.{most_steps}
use Rattle.pp_cert.specs.declared.check_error.CheckError.{CheckError}
use Rattle.pp_cert.specs.declared.check_error.CheckError.TheVariants.{NotesShort, NotesLong, NoteDiffers, SlotInUse}
use Rattle.pp_cert.specs.declared.check_error.CheckError.TheVariants.{NotFixed, StillLatched, NotLatched, AgainstOrder}
use Rattle.pp_cert.specs.declared.check_error.CheckError.TheVariants.{OverPeak, LoopChanges, BranchDiffers, EndsHolding}
use Rattle.pp_cert.specs.declared.check_error.CheckError.TheVariants.{StepsTooFew, StepsTooMany, PeakTooBig}
use Rattle.pp_cert.specs.declared.check_error.CheckError.TheVariants.{OtherSettings}
use Rattle.pp_cert.specs.Held.{is_latched_page}
use Rattle.pp_cert.specs.Notes.{Entries, note_pins, same_note, noted_at, bound_at, noted_with, is_above_latched}
use Rattle.pp_cert.specs.Notes.{begins_turns, ends_as_begun, grows_by_turns}
use Rattle.pp_cert.specs.Longest.{sequence_longest}

-- The note at place k; the empty one where none is left.
abbrev pub note_at : Claims → ℕ → Entries
note_at c k = unwrap_or (slice_get c.notes k) []

-- ---- places

-- Before each statement of a body there is one, then come those of the statement's own bodies in order, and at each
-- body's end there is one.

abbrev mutual
  -- The next place after those of a statement that stands at place k.
  pub statement_end : ℕ → Statement → ℕ
  statement_end k (step s) = k + 1
  statement_end k (loop n b) = sequence_end (k + 1) b + 1
  statement_end k (choice bs) = alternatives_end (k + 1) bs

  -- The place at the end of a body whose first place is k.
  pub sequence_end : ℕ → Sequence → ℕ
  sequence_end k skip = k
  sequence_end k (andthen s b) = sequence_end (statement_end k s) b

  -- The next place after those of branches, the first of which begins at place k.
  pub alternatives_end : ℕ → Alternatives → ℕ
  alternatives_end k none = k
  alternatives_end k (either b bs) = alternatives_end (sequence_end k b + 1) bs

-- ---- expected notes

-- What a note is to be: empty, the same as the note at an earlier place, or what is noted after a step from there, with
-- bounds that are told exactly, or counted up to a stop where there is one.
pub data Expectation : Type 0 where
  empty : Expectation
  same : (place : ℕ) → Expectation
  after : (stop : Option ℕ) → Step → (place : ℕ) → Expectation

-- The expected note, written from the notes at lower places.
abbrev pub expected_note : Claims → Expectation → Entries
expected_note c empty = []
expected_note c (same k) = note_at c k
expected_note c (after stop s k) = noted_with stop s (note_at c k)

-- What is held after the statement at place k. A loop leaves what is held at the end of its last turn, which is what its
-- body's end notes: the bound of a bundle that grows is `before + n * (last - first)`, which is `last` where its tests pass.
-- A choice leaves what is held at the end of its first branch.
abbrev pub outcome : (stop : Option ℕ) → ℕ → Statement → Expectation
outcome stop k (step s) = after stop s k
outcome stop k (loop n b) = same (sequence_end (k + 1) b)
outcome stop k (choice none) = same k
outcome stop k (choice (either b bs)) = same (sequence_end (k + 1) b)

-- ---- the tests

-- A test of a certificate. A place is that of the note that is looked at.
pub data Test : Type 0 where
  -- the plan was read for this layout
  same_settings : Geometry → Test
  -- there is a note
  there : (place : ℕ) → Test
  -- it is the expected one
  as_expected : (place : ℕ) → Expectation → Test
  -- it may stand at the first place of this body of a loop, before which the note at `before` stands
  may_begin : (place before : ℕ) → Sequence → Test
  -- it pins at most as many pages as the peak: one for each slot's page, and each bundle's bound
  within_peak : (place : ℕ) → Test
  -- the slot holds nothing, or a page of its own; its page isn't latched, or is; its class is above every class that is
  -- latched
  slot_unused : (place slot : ℕ) → Test
  slot_fixed : (place slot : ℕ) → Test
  slot_unlatched : (place slot : ℕ) → Test
  slot_latched : (place slot : ℕ) → Test
  slot_in_order : (place slot : ℕ) → Test
  -- the bundle's bound isn't 0
  bundle_gathered : (place slot : ℕ) → Test
  -- it has the slots' pages of the note before the loop, and the bounds of the bundles that this body scatters
  loop_keeps : (place before : ℕ) → Sequence → Test
  -- the bounds of the others have grown since the body's first place as so many turns of it want
  loop_grows : (place before first turns : ℕ) → Sequence → Test
  -- it is the note at the end of the first branch
  branch_agrees : (place first : ℕ) → Test
  -- it is empty
  holds_nothing : (place : ℕ) → Test
  -- there are no more notes than these
  no_more_notes : (count : ℕ) → Test
  -- at most 1,000,000 steps, at least as many as the longest trace has, and a peak of at most the frames
  steps_allowed : Test
  steps_enough : (longest : ℕ) → Test
  peak_allowed : Test

abbrev pub same_extent : Extent → Extent → Bool
same_extent d e = d.first == e.first && d.count == e.count && d.class == e.class

-- Whether two layouts are the same.
abbrev pub same_layout : Geometry → Geometry → Bool
same_layout g h = g.frames == h.frames && pointwise same_extent g.extents h.extents

-- Whether the test holds of what the certificate claims, under the settings' layout.
abbrev pub passes : Geometry → Claims → Test → Bool
passes g c (same_settings h) = same_layout g h
passes g c (there k) = is_some (slice_get c.notes k)
passes g c (as_expected k e) = same_note (note_at c k) (expected_note c e)
passes g c (may_begin k before b) = begins_turns (scatters b) (note_at c before) (note_at c k)
passes g c (within_peak k) = nat_le (note_pins (note_at c k)) c.peak
passes g c (slot_unused k s) = not (is_some (noted_at (note_at c k) s)) && bound_at (note_at c k) s == 0
passes g c (slot_fixed k s) = is_some (noted_at (note_at c k) s)
passes g c (slot_unlatched k s) = not (is_latched_page (noted_at (note_at c k) s))
passes g c (slot_latched k s) = is_latched_page (noted_at (note_at c k) s)
passes g c (slot_in_order k s) = is_above_latched g (note_at c k) s
passes g c (bundle_gathered k s) = nat_lt 0 (bound_at (note_at c k) s)
passes g c (loop_keeps k before b) = ends_as_begun (scatters b) (note_at c before) (note_at c k)
passes g c (loop_grows k before first turns b) =
    grows_by_turns turns (scatters b) (note_at c before) (note_at c first) (note_at c k)
passes g c (branch_agrees k first) = same_note (note_at c k) (note_at c first)
passes g c (holds_nothing k) = length (note_at c k) == 0
passes g c (no_more_notes n) = nat_le (length c.notes) n
passes g c steps_allowed = nat_le c.steps most_steps
passes g c (steps_enough n) = nat_le n c.steps
passes g c peak_allowed = nat_le c.peak g.frames

-- What is answered where the test fails.
abbrev pub fault_of : Test → CheckError
fault_of (same_settings h) = OtherSettings
fault_of (there k) = NotesShort k
fault_of (as_expected k e) = NoteDiffers k
fault_of (may_begin k before b) = NoteDiffers k
fault_of (within_peak k) = OverPeak k
fault_of (slot_unused k s) = SlotInUse k
fault_of (slot_fixed k s) = NotFixed k
fault_of (slot_unlatched k s) = StillLatched k
fault_of (slot_latched k s) = NotLatched k
fault_of (slot_in_order k s) = AgainstOrder k
fault_of (bundle_gathered k s) = NotFixed k
fault_of (loop_keeps k before b) = LoopChanges k
fault_of (loop_grows k before first turns b) = LoopChanges k
fault_of (branch_agrees k first) = BranchDiffers k
fault_of (holds_nothing k) = EndsHolding k
fault_of (no_more_notes n) = NotesLong n
fault_of steps_allowed = StepsTooMany
fault_of (steps_enough n) = StepsTooFew
fault_of peak_allowed = PeakTooBig

-- ---- the tests in the order of the walk

-- Of each note that is wanted.
abbrev pub note_tests : ℕ → Expectation → List Test
note_tests k e = there k ∷ as_expected k e ∷ within_peak k ∷ []

-- Of the first note of a loop's body.
abbrev pub turn_tests : (place before : ℕ) → Sequence → List Test
turn_tests k before b = there k ∷ may_begin k before b ∷ within_peak k ∷ []

-- Of a step, at the place of the note before it. A gather wants nothing, since no slot is a bundle and a plain one.
abbrev pub step_tests : ℕ → Step → List Test
step_tests k (fix s r) = slot_unused k s ∷ []
step_tests k (unfix s) = slot_fixed k s ∷ slot_unlatched k s ∷ []
step_tests k (latch s m) = slot_fixed k s ∷ slot_unlatched k s ∷ slot_in_order k s ∷ []
step_tests k (unlatch s) = slot_fixed k s ∷ slot_latched k s ∷ []
step_tests k (gather s r) = []
step_tests k (scatter s) = bundle_gathered k s ∷ []

-- Of the bounds that grow in a loop, where they are told exactly; none where they are counted up to a stop, as a maker of
-- certificates counts them.
abbrev pub grow_tests : (stop : Option ℕ) → (place before first turns : ℕ) → Sequence → List Test
grow_tests None k before first turns b = loop_grows k before first turns b ∷ []
grow_tests (Some stop) k before first turns b = []

abbrev mutual
  -- Of a statement at place k: a step's own; those of a loop's body, from its first note on, and of its last note beside
  -- the first and the one before the loop; those of a choice's branches, which end alike.
  pub statement_tests : (stop : Option ℕ) → ℕ → Statement → List Test
  statement_tests stop k (step s) = step_tests k s
  statement_tests stop k (loop n b) =
      turn_tests (k + 1) k b
      ++ sequence_tests stop (k + 1) b
      ++ loop_keeps (sequence_end (k + 1) b) k b
      ∷ grow_tests stop (sequence_end (k + 1) b) k (k + 1) n b
  statement_tests stop k (choice none) = []
  statement_tests stop k (choice (either b bs)) =
      note_tests (k + 1) (same k) ++ sequence_tests stop (k + 1) b ++ later_tests stop k (sequence_end (k + 1) b)
      (sequence_end (k + 1) b + 1) bs

  -- Of a body after its first note, at place k: for each statement its own, and then those of the note after it.
  pub sequence_tests : (stop : Option ℕ) → ℕ → Sequence → List Test
  sequence_tests stop k skip = []
  sequence_tests stop k (andthen s b) =
      statement_tests stop k s
      ++ note_tests (statement_end k s) (outcome stop k s)
      ++ sequence_tests stop (statement_end k s) b

  -- Of the second and later branches of the choice at place `before`, the next of which begins at place k; the first
  -- branch ends at place `first`.
  pub later_tests : (stop : Option ℕ) → (before first k : ℕ) → Alternatives → List Test
  later_tests stop before first k none = []
  later_tests stop before first k (either b bs) =
      note_tests k (same before)
      ++ sequence_tests stop k b
      ++ branch_agrees (sequence_end k b) first
      ∷ later_tests stop before first (sequence_end k b + 1) bs

-- All tests of a certificate of the plan, with bounds that are told exactly, or counted up to a stop where there is one.
abbrev pub tests_with : (stop : Option ℕ) → Terms → List Test
tests_with stop p =
    same_settings p.layout
    ∷ note_tests 0 empty
    ++ sequence_tests stop 0 p.body
    ++ holds_nothing (sequence_end 0 p.body)
    ∷ no_more_notes (sequence_end 0 p.body + 1)
    ∷ steps_allowed
    ∷ steps_enough (sequence_longest p.body)
    ∷ peak_allowed
    ∷ []

-- All tests of a certificate of the plan.
abbrev pub tests : Terms → List Test
tests p = tests_with None p

-- ---- the first fault

-- What the first test that fails answers, if one fails.
abbrev pub first_fault : Geometry → Claims → List Test → Option CheckError
first_fault g c [] = None
first_fault g c (t ∷ ts) = if passes g c t then first_fault g c ts else Some (fault_of t)

-- No test of the claims fails under the settings' layout: the check accepts them.
abbrev pub Certifies : Geometry → Terms → Claims → Type 0
Certifies g p c = first_fault g c (tests p) ≡ None

-- The value where there is no fault, else the fault.
abbrev pub unless_fault : {A : Type 0} → Option CheckError → A → Result A CheckError
unless_fault None a = Ok a
unless_fault (Some fault) a = Err fault

-- ---- what the parts of the walk answer

-- What a walk through the tests answers that goes on at place k.
abbrev pub walked : Geometry → Certificate → List Test → ℕ → Result ℕ CheckError
walked g c ts k = unless_fault (first_fault g (claims_of c) ts) k

-- What the note at place k answers, where it is known whether it is the expected one.
abbrev pub note_fault : Claims → ℕ → Bool → Option CheckError
note_fault c k is_expected =
    if is_some (slice_get c.notes k) then (if is_expected then
    (if nat_le (note_pins (note_at c k)) c.peak then None else Some (OverPeak k)) else Some (NoteDiffers k)) else Some
    (NotesShort k)
