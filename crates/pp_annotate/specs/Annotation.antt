-- What the maker of certificates answers, and what holds of it.
use Rattle.std.specs.Prelude.{◌≡◌, ◌≤◌, true, false, Option, None, Some, Result, Ok, Err, List, [], ◌∷◌, ◌++◌, length, All}
use Rattle.std.specs.Prelude.{if◌then◌else◌}
use Rattle.pp_settings.specs.Layout.{Geometry}
use Rattle.pp_plan.specs.Rules.{uses_bundle}
use Rattle.pp_plan.specs.Terms.{Terms}
use Rattle.pp_plan.specs.Traces.{Begins}
use Rattle.pp_plan.specs.PlanTraces.{IsTraceOf}
use Rattle.pp_plan.specs.declared.action.Action.{Action}
use Rattle.pp_cert.specs.declared.certificate.Certificate.{Certificate}
use Rattle.pp_cert.specs.declared.check_error.CheckError.{CheckError}
use Rattle.pp_cert.specs.declared.check_error.CheckError.TheVariants.{NotesShort, NotesLong, NoteDiffers, SlotInUse}
use Rattle.pp_cert.specs.declared.check_error.CheckError.TheVariants.{NotFixed, StillLatched, NotLatched, AgainstOrder}
use Rattle.pp_cert.specs.declared.check_error.CheckError.TheVariants.{OverPeak, LoopChanges, BranchDiffers, EndsHolding}
use Rattle.pp_cert.specs.declared.check_error.CheckError.TheVariants.{StepsTooFew, StepsTooMany, PeakTooBig}
use Rattle.pp_cert.specs.declared.check_error.CheckError.TheVariants.{OtherSettings}
use Rattle.pp_cert.specs.Limits.{most_counted}
use Rattle.pp_cert.specs.Held.{pins}
use Rattle.pp_cert.specs.Notes.{entry_slot, is_bundle}
use Rattle.pp_cert.specs.Walk.{Claims, claims_of, Certifies, tests, tests_with, first_fault, unless_fault, passes}
use Rattle.pp_cert.specs.Walk.{fault_of}
use Rattle.pp_cert.specs.Walk.{Test, same_settings, there, as_expected, may_begin, within_peak, slot_unused, slot_fixed}
use Rattle.pp_cert.specs.Walk.{slot_unlatched, slot_latched, slot_in_order, bundle_gathered, loop_keeps, loop_grows}
use Rattle.pp_cert.specs.Walk.{branch_agrees, holds_nothing, no_more_notes, steps_allowed, steps_enough, peak_allowed}
use Rattle.pp_annotate.specs.declared.error.AnnotateError.{AnnotateError}
use Rattle.pp_annotate.specs.declared.error.AnnotateError.TheVariants.{Fault, OutOfMemory}
use Rattle.pp_annotate.specs.Made.{made}

-- The tests that a maker of certificates makes of a plan: bounds are counted up to the stop of the plan's layout, and no test
-- says that they grow in a loop as its turns want it.
abbrev pub counted_tests : Terms → List Test
counted_tests p = tests_with (Some (most_counted p.layout)) p

-- What is made of the plan where no test of it fails, else the first fault. That bounds grow in a loop as its turns want it
-- isn't tested: they do where they are counted in full, and a bound that isn't is more than the frames.
abbrev pub annotation : Geometry → Terms → Result Claims CheckError
annotation g p = unless_fault (first_fault g (made p) (counted_tests p)) (made p)

-- What the code returned is this; want of memory says nothing of the plan.
abbrev pub AnswersAs : Result Certificate AnnotateError → Result Claims CheckError → Type 0
AnswersAs (Ok c) answer = answer ≡ Ok (claims_of c)
AnswersAs (Err (Fault fault)) answer = answer ≡ Err fault
AnswersAs (Err OutOfMemory) answer = Unit {0}

-- P of the fault, where the code answered one.
abbrev pub IfFault : Result Certificate AnnotateError → (CheckError → Type 0) → Type 0
IfFault (Ok c) P = Unit {0}
IfFault (Err (Fault fault)) P = P fault
IfFault (Err OutOfMemory) P = Unit {0}

-- A fault that lies in the plan or the settings, and not in how a certificate was written: no note is missing, left
-- over or another one, and neither the peak nor the steps are too small.
abbrev pub IsPlansFault : CheckError → Type 0
IsPlansFault (NotesShort k) = ⊥
IsPlansFault (NotesLong k) = ⊥
IsPlansFault (NoteDiffers k) = ⊥
IsPlansFault (SlotInUse k) = Unit {0}
IsPlansFault (NotFixed k) = Unit {0}
IsPlansFault (StillLatched k) = Unit {0}
IsPlansFault (NotLatched k) = Unit {0}
IsPlansFault (AgainstOrder k) = Unit {0}
IsPlansFault (OverPeak k) = ⊥
IsPlansFault (LoopChanges k) = Unit {0}
IsPlansFault (BranchDiffers k) = Unit {0}
IsPlansFault (EndsHolding k) = Unit {0}
IsPlansFault StepsTooFew = ⊥
IsPlansFault StepsTooMany = Unit {0}
IsPlansFault PeakTooBig = Unit {0}
IsPlansFault OtherSettings = Unit {0}

-- A plan's fault that is told before those of the limits of steps and peak: of what the plan does, or that it was read
-- for other settings.
abbrev pub IsBeforeLimits : CheckError → Type 0
IsBeforeLimits StepsTooMany = ⊥
IsBeforeLimits PeakTooBig = ⊥
IsBeforeLimits fault = IsPlansFault fault

-- Peak and steps are tight: some beginning of a trace has exactly as many pins as the peak says, and some trace has exactly as
-- many actions as the steps say.
pub record IsTight (p : Terms) (c : Claims) : Type 0 where
  pub peak : (t : List Action) × (pins t ≡ c.peak) × Begins p.layout p.body t
  pub steps : (t : List Action) × (length t ≡ c.steps) × IsTraceOf p t

-- No accepted certificate of the plan has a smaller peak or fewer steps.
abbrev pub IsLeast : Geometry → Terms → Claims → Type 0
IsLeast g p c = (d : Claims) → Certifies g p d → (c.peak ≤ d.peak) × (c.steps ≤ d.steps)

-- No certificate of the plan is accepted.
abbrev pub HasNone : Geometry → Terms → Type 0
HasNone g p = (d : Claims) → ¬ (Certifies g p d)

-- No entry of a note is a bundle's.
abbrev pub HasPagesAlone : Claims → Type 0
HasPagesAlone d = All (λ note. All (λ e. is_bundle e ≡ false) note) d.notes

-- The first of the tests that fails.
abbrev pub first_failed : Geometry → Claims → List Test → Option Test
first_failed g d [] = None
first_failed g d (t ∷ ts) = if passes g d t then first_failed g d ts else Some t

-- A test of what the plan does, or of the settings that it was read for. The others are of how notes, peak and steps are
-- written, of how bounds grow in a loop, and of the limits.
abbrev pub IsOfPlan : Test → Type 0
IsOfPlan (same_settings h) = Unit {0}
IsOfPlan (there k) = ⊥
IsOfPlan (as_expected k e) = ⊥
IsOfPlan (may_begin k before b) = ⊥
IsOfPlan (within_peak k) = ⊥
IsOfPlan (slot_unused k s) = Unit {0}
IsOfPlan (slot_fixed k s) = Unit {0}
IsOfPlan (slot_unlatched k s) = Unit {0}
IsOfPlan (slot_latched k s) = Unit {0}
IsOfPlan (slot_in_order k s) = Unit {0}
IsOfPlan (bundle_gathered k s) = Unit {0}
IsOfPlan (loop_keeps k before b) = Unit {0}
IsOfPlan (loop_grows k before first turns b) = ⊥
IsOfPlan (branch_agrees k first) = Unit {0}
IsOfPlan (holds_nothing k) = Unit {0}
IsOfPlan (no_more_notes n) = ⊥
IsOfPlan steps_allowed = ⊥
IsOfPlan (steps_enough n) = ⊥
IsOfPlan peak_allowed = ⊥

-- Each entry of a bundle is of a slot that the plan uses as one.
abbrev pub HasOwnBundles : Terms → Claims → Type 0
HasOwnBundles p d = All (λ note. All (λ e. is_bundle e ≡ true → uses_bundle p.body (entry_slot e) ≡ true) note) d.notes

-- No certificate whose bundles are the plan's own comes past the fault: one of the tests has it, and each such certificate fails
-- that one or one before it.
pub record IsWall (g : Geometry) (p : Terms) (f : CheckError) : Type 0 where
  pub test : Test
  pub fault : fault_of test ≡ f
  pub before : List Test
  pub behind : List Test
  pub stands : tests p ≡ before ++ test ∷ behind
  pub holds : (d : Claims) → HasOwnBundles p d → ¬ (first_fault g d (before ++ test ∷ []) ≡ None)
