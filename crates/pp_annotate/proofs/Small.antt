-- The notes that are made of a plan pin few pages: a step adds one at most, and a loop as many as are counted for each slot and
-- what its body adds.
use Rattle.std.proofs.Common.{◌≡◌, ℕ, ◌+◌, ◌*◌, ◌≤◌, ◌<◌, ◌^◌, Bool, true, false, Some, [], ◌∷◌, ◌++◌, List, refl, arith}
use Rattle.std.specs.Prelude.{if◌then◌else◌}
use Rattle.pp_settings.specs.Limits.{most_frames}
use Rattle.pp_plan.specs.Tree.{Step, fix, unfix, latch, unlatch, gather, scatter, Statement, step, loop, choice}
use Rattle.pp_plan.specs.Tree.{Sequence, skip, andthen, Alternatives, none, either, statement_count, sequence_count}
use Rattle.pp_plan.specs.Tree.{alternatives_count}
use Rattle.pp_plan.specs.Rules.{uses_bundle}
use Rattle.pp_plan.specs.Terms.{Terms, IsPlan}
use Rattle.pp_cert.specs.declared.note.Entry.{Entry}
use Rattle.pp_cert.specs.declared.note.Entry.TheVariants.{Slot, Bundle}
use Rattle.pp_cert.specs.declared.note.Held.{Held}
use Rattle.pp_cert.specs.declared.note.Held.TheVariants.{Free}
use Rattle.pp_cert.specs.Limits.{most_counted}
use Rattle.pp_cert.specs.Held.{held_in}
use Rattle.pp_cert.specs.Notes.{Entries, entry_pins, note_pins, is_slot, entry_as, noted_as, without_page}
use Rattle.pp_cert.specs.Notes.{bound_at, one_more as one_page_more}
use Rattle.pp_annotate.specs.Growth.{first_note}
use Rattle.pp_annotate.specs.Made.{after_step, after_statement, after_sequence, after_first, statement_notes}
use Rattle.pp_annotate.specs.Made.{sequence_notes, branches_notes, made_notes, greatest}
use Rattle.pp_annotate.proofs.Pins.{others_pins, bounded_pins}
use Rattle.pp_annotate.proofs.Once.{page_pins}
use Rattle.pp_annotate.proofs.Rises.{first_pins}

-- ---- one step

no_more : (s : ℕ) (n : Entries) → note_pins (without_page s n) ≤ note_pins n
no_more s [] = omega arith
no_more s (y ∷ n) =
    elim (is_slot s y) as (λ b. note_pins (if b then without_page s n else y ∷ without_page s n) ≤ note_pins (y ∷ n)) [
      | true ↦ omega (arith, no_more s n)
      | false ↦ omega (arith, no_more s n)
    ]

same_pins : (held : Held) (e : Entry) → entry_pins (entry_as held e) ≡ entry_pins e
same_pins held (Slot s r h) = refl
same_pins held (Bundle s k) = refl

as_many : (held : Held) (s : ℕ) (n : Entries) → note_pins (noted_as held s n) ≡ note_pins n
as_many held s [] = refl
as_many held s (y ∷ n) =
    elim (is_slot s y)
    as (λ b. note_pins (if b then entry_as held y ∷ n else y ∷ noted_as held s n) ≡ note_pins (y ∷ n)) [
      | true ↦ omega (arith, same_pins held y)
      | false ↦ omega (arith, as_many held s n)
    ]

step_small : (stop : ℕ) (s : Step) (n : Entries) → note_pins (after_step stop s n) ≤ note_pins n + 1
step_small stop (fix s r) n = page_pins s r n
step_small stop (unfix s) n = omega (arith, no_more s n)
step_small stop (latch s m) n = omega (arith, as_many (held_in m) s n)
step_small stop (unlatch s) n = omega (arith, as_many Free s n)
step_small stop (gather s r) n = omega (arith, bounded_pins s (one_page_more (Some stop) (bound_at n s)) n)
step_small stop (scatter s) n = omega (arith, others_pins s n)

-- ---- notes

greatest_both : (ms ns : List Entries) (m : ℕ) → greatest ms ≤ m → greatest ns ≤ m → greatest (ms ++ ns) ≤ m
greatest_both [] ns m a b = b
greatest_both (x ∷ ms) ns m a b =
    let rest = greatest_both ms ns m (omega (arith, a)) b in
    omega (arith, a, rest)

-- so many pins for each statement
abbrev each : ℕ
each = 536870945

module _ (stop : ℕ) (low : stop ≤ most_frames + 1) (kind : ℕ → Bool) where
  mutual
    statement_small : (s : Statement) (n : Entries) (m : ℕ) → note_pins n + each * statement_count s ≤ m
        → (greatest (statement_notes stop kind s n) ≤ m)
        × (note_pins (after_statement stop kind s n) ≤ note_pins n + each * statement_count s)
    statement_small (step s) n m h = (omega arith, omega (arith, step_small stop s n))
    statement_small (loop c b) n m h =
        let first : Entries = first_note stop kind c b n in
        let at_first = first_pins stop kind c b n in
        let body = sequence_small b first m (omega (arith, h, at_first)) in
        (omega (arith, h, at_first, body.0), omega (arith, at_first, body.1))
    statement_small (choice bs) n m h =
        let all = branches_small bs n m (omega (arith, h)) in
        (all.0, omega (arith, all.1))

    sequence_small : (b : Sequence) (n : Entries) (m : ℕ) → note_pins n + each * sequence_count b ≤ m
        → (greatest (sequence_notes stop kind b n) ≤ m)
        × (note_pins (after_sequence stop kind b n) ≤ note_pins n + each * sequence_count b)
    sequence_small skip n m h = (omega arith, omega arith)
    sequence_small (andthen s b) n m h =
        let next : Entries = after_statement stop kind s n in
        let first = statement_small s n m (omega (arith, h)) in
        let rest = sequence_small b next m (omega (arith, h, first.1)) in
        let later : greatest (next ∷ sequence_notes stop kind b next) ≤ m = omega (arith, h, first.1, rest.0) in (
          greatest_both (statement_notes stop kind s n) (next ∷ sequence_notes stop kind b next) m first.0 later,
          omega (arith, first.1, rest.1),
        )

    branches_small : (bs : Alternatives) (n : Entries) (m : ℕ) → note_pins n + each * alternatives_count bs ≤ m
        → (greatest (branches_notes stop kind bs n) ≤ m)
        × (note_pins (after_first stop kind bs n) ≤ note_pins n + each * alternatives_count bs)
    branches_small none n m h = (omega arith, omega arith)
    branches_small (either b bs) n m h =
        let first = sequence_small b n m (omega (arith, h)) in
        let later = branches_small bs n m (omega (arith, h)) in
        let here : greatest (n ∷ sequence_notes stop kind b n) ≤ m = omega (arith, h, first.0) in (
          greatest_both (n ∷ sequence_notes stop kind b n) (branches_notes stop kind bs n) m here later.0,
          omega (arith, first.1),
        )

pub made_small : (p : Terms) → IsPlan p → greatest (made_notes p) < 2 ^ 64
made_small p plan =
    let stop : ℕ = most_counted p.layout in
    let all =
    sequence_small stop (omega (arith, plan.layout.frames.1)) (uses_bundle p.body) p.body []
    (each * sequence_count p.body) (omega arith) in
    omega (arith, all.0, plan.body.count)
