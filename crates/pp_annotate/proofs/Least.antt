-- Where some certificate of a plan is accepted, the one that is made is accepted, and is the least.
use Rattle.std.proofs.Common.{◌≡◌, ℕ, ◌+◌, ◌≤◌, min, true, Some, None, List, [], ◌∷◌, ◌++◌, refl}
use Rattle.std.proofs.Common.{sym, ap, subst, ◌∙◌, arith}
use Rattle.std.specs.Prelude.{if◌then◌else◌}
use Rattle.std.proofs.lemmas.Bool.{leb-true, le-leb}
use Rattle.pp_settings.specs.Layout.{Geometry}
use Rattle.pp_plan.specs.Tree.{Step, fix, unfix, latch, unlatch, gather, scatter, Statement, step, loop, choice}
use Rattle.pp_plan.specs.Tree.{Sequence, skip, andthen, Alternatives, none, either}
use Rattle.pp_plan.specs.Terms.{Terms, IsPlan}
use Rattle.pp_cert.specs.declared.check_error.CheckError.{CheckError}
use Rattle.pp_cert.specs.Notes.{Entries, note_pins}
use Rattle.pp_cert.specs.Longest.{sequence_longest}
use Rattle.pp_cert.specs.Walk.{Claims, note_at, outcome, Test, same_settings, there, as_expected, may_begin, within_peak}
use Rattle.pp_cert.specs.Walk.{slot_unused, slot_fixed, slot_unlatched, slot_latched, slot_in_order, bundle_gathered}
use Rattle.pp_cert.specs.Walk.{loop_keeps, loop_grows, branch_agrees, holds_nothing, no_more_notes, steps_allowed}
use Rattle.pp_cert.specs.Walk.{steps_enough, peak_allowed}
use Rattle.pp_cert.specs.Walk.{Certifies, passes, fault_of, first_fault, note_tests, step_tests, statement_tests}
use Rattle.pp_cert.specs.Walk.{sequence_tests, later_tests, tests, statement_end, sequence_end, most_steps}
use Rattle.pp_cert.specs.Limits.{counted}
use Rattle.pp_cert.proofs.Passing.{first_passes, all_pass}
use Rattle.pp_annotate.specs.Made.{made_notes, greatest, made}
use Rattle.pp_annotate.specs.Annotation.{counted_tests, IsLeast, HasNone}
use Rattle.pp_annotate.proofs.Written.{notes_are}
use Rattle.pp_annotate.proofs.Told.{within_greatest, made_untold}

-- ---- a test of the steps asks for so many at most

abbrev Asks : ℕ → Test → Type 0
Asks m (steps_enough n) = n ≤ m
Asks m _ = Unit {0}

abbrev AllAsk : ℕ → List Test → Type 0
AllAsk m [] = Unit {0}
AllAsk m (t ∷ ts) = Asks m t × AllAsk m ts

ask_both : (m : ℕ) (xs ys : List Test) → AllAsk m xs → AllAsk m ys → AllAsk m (xs ++ ys)
ask_both m [] ys a b = b
ask_both m (x ∷ xs) ys a b = (a.0, ask_both m xs ys a.1 b)

step_asks : (m k : ℕ) (s : Step) → AllAsk m (step_tests k s)
step_asks m k (fix s r) = (tt, tt)
step_asks m k (unfix s) = (tt, (tt, tt))
step_asks m k (latch s o) = (tt, (tt, (tt, tt)))
step_asks m k (unlatch s) = (tt, (tt, tt))
step_asks m k (gather s r) = tt
step_asks m k (scatter s) = (tt, tt)

mutual
  statement_asks : (m k : ℕ) (s : Statement) → AllAsk m (statement_tests None k s)
  statement_asks m k (step s) = step_asks m k s
  statement_asks m k (loop c b) = (
    tt,
    (
      tt,
      (
        tt,
        ask_both m (sequence_tests None (k + 1) b)
            (loop_keeps (sequence_end (k + 1) b) k b ∷ loop_grows (sequence_end (k + 1) b) k (k + 1) c b ∷ [])
            (sequence_asks m (k + 1) b) (tt, (tt, tt)),
      ),
    ),
  )
  statement_asks m k (choice none) = tt
  statement_asks m k (choice (either b bs)) =
      let end : ℕ = sequence_end (k + 1) b in (
        tt,
        (
          tt,
          (
            tt,
            ask_both m (sequence_tests None (k + 1) b) (later_tests None k end (end + 1) bs) (sequence_asks m (k + 1) b)
                (later_asks m k end (end + 1) bs),
          ),
        ),
      )

  sequence_asks : (m k : ℕ) (b : Sequence) → AllAsk m (sequence_tests None k b)
  sequence_asks m k skip = tt
  sequence_asks m k (andthen s b) =
      let next : ℕ = statement_end k s in
      ask_both m (statement_tests None k s ++ note_tests next (outcome None k s)) (sequence_tests None next b)
      (ask_both m (statement_tests None k s) (note_tests next (outcome None k s)) (statement_asks m k s) (tt, (tt, (tt, tt))))
      (sequence_asks m next b)

  later_asks : (m before first k : ℕ) (bs : Alternatives) → AllAsk m (later_tests None before first k bs)
  later_asks m before first k none = tt
  later_asks m before first k (either b bs) =
      let end : ℕ = sequence_end k b in (
        tt,
        (
          tt,
          (
            tt,
            ask_both m (sequence_tests None k b) (branch_agrees end first ∷ later_tests None before first (end + 1) bs)
                (sequence_asks m k b) (tt, later_asks m before first (end + 1) bs),
          ),
        ),
      )

tests_ask : (m : ℕ) (p : Terms) → sequence_longest p.body ≤ m → AllAsk m (tests p)
tests_ask m p h = (
  tt,
  (
    tt,
    (
      tt,
      (
        tt,
        ask_both m (sequence_tests None 0 p.body)
            (holds_nothing (sequence_end 0 p.body) ∷ no_more_notes (sequence_end 0 p.body + 1) ∷ steps_allowed ∷
            steps_enough (sequence_longest p.body) ∷ peak_allowed ∷ []) (sequence_asks m 0 p.body)
            (tt, (tt, (tt, (h, (tt, tt))))),
      ),
    ),
  ),
)

-- ---- the same notes with a smaller peak and fewer steps

module _ (g : Geometry) (ns : List Entries) (peak steps most count : ℕ) (small : greatest ns ≤ peak)
    (smaller : peak ≤ most) (fewer : steps ≤ count) where
  abbrev this : Claims
  this = record { notes = ns; peak = peak; steps = steps }

  abbrev other : Claims
  other = record { notes = ns; peak = most; steps = count }

  keeps : (t : Test) → Asks steps t → passes g other t ≡ true → passes g this t ≡ true
  keeps (same_settings h) a e = e
  keeps (there k) a e = e
  keeps (as_expected k x) a e = e
  keeps (may_begin k before b) a e = e
  keeps (within_peak k) a e = le-leb (note_pins (note_at this k)) peak (omega (arith, within_greatest ns k, small))
  keeps (slot_unused k s) a e = e
  keeps (slot_fixed k s) a e = e
  keeps (slot_unlatched k s) a e = e
  keeps (slot_latched k s) a e = e
  keeps (slot_in_order k s) a e = e
  keeps (bundle_gathered k s) a e = e
  keeps (loop_keeps k before b) a e = e
  keeps (loop_grows k before first turns b) a e = e
  keeps (branch_agrees k f) a e = e
  keeps (holds_nothing k) a e = e
  keeps (no_more_notes n) a e = e
  keeps steps_allowed a e = le-leb steps most_steps (omega (arith, fewer, leb-true count most_steps e))
  keeps (steps_enough n) a e = le-leb n steps a
  keeps peak_allowed a e = le-leb peak g.frames (omega (arith, smaller, leb-true most g.frames e))

  pub keeps_all : (ts : List Test) → AllAsk steps ts → first_fault g other ts ≡ None → first_fault g this ts ≡ None
  keeps_all [] a h = refl
  keeps_all (t ∷ ts) a h =
      let p = first_passes g other t ts h in
      ap (λ b. if b then first_fault g this ts else Some (fault_of t)) (keeps t a.0 p.0) ∙ keeps_all ts a.1 p.1

-- ---- what is made

-- where some certificate is accepted, the longest trace is counted in full
pub counted_whole : (longest : ℕ) → longest ≤ most_steps → min longest counted ≡ longest
counted_whole longest h = omega (arith, h)

-- where some certificate is accepted, the one made is
made_accepted : (g : Geometry) (p : Terms) (d : Claims) → IsPlan p → Certifies g p d → Certifies g p (made p)
made_accepted g p d plan h =
    let is = all_pass g p d h in
    let notes = notes_are g p d plan is in
    let longest : ℕ = sequence_longest p.body in
    let all : longest ≡ min longest counted = sym (counted_whole longest (omega (arith, is.limit, is.enough))) in
    let moved : first_fault g (record { notes = made_notes p; peak = d.peak; steps = d.steps }) (tests p) ≡ None =
    subst (λ ns. first_fault g (record { notes = ns; peak = d.peak; steps = d.steps }) (tests p) ≡ None) notes.made
    h in
    keeps_all g (made_notes p) (greatest (made_notes p)) (min longest counted) d.peak d.steps (omega arith) notes.peak
    (omega (arith, is.enough)) (tests p) (tests_ask (min longest counted) p (omega (arith, all))) moved

-- it is the least one
pub made_least : (g : Geometry) (p : Terms) → IsPlan p → IsLeast g p (made p)
made_least g p plan d h =
    let is = all_pass g p d h in
    ((notes_are g p d plan is).peak, omega (arith, is.enough))

-- where it has a fault, no certificate is accepted
pub none_accepted : (g : Geometry) (p : Terms) → IsPlan p → (fault : CheckError)
    → first_fault g (made p) (counted_tests p) ≡ Some fault → HasNone g p
none_accepted g p plan fault e d h =
    absurd (let ok = made_untold g p plan (made_accepted g p d plan h) in cc)
