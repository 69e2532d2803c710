-- The certificate that is made of a plan: what is held at each place, noted statement by statement. Nothing is tested
-- here: a statement that may not happen is noted as if it did. `is_bundle` tells which slots are bundles, and `stop` where
-- counting their pages stops.
use Rattle.std.specs.Prelude.{ℕ, min, max, Bool, Some, is_some, if◌then◌else◌, List, [], ◌∷◌, ◌++◌}
use Rattle.pp_plan.specs.Tree.{Step, fix, unfix, latch, unlatch, gather, scatter, Statement, step, loop, choice}
use Rattle.pp_plan.specs.Tree.{Sequence, skip, andthen, Alternatives, none, either}
use Rattle.pp_plan.specs.Rules.{uses_bundle}
use Rattle.pp_plan.specs.Terms.{Terms}
use Rattle.pp_cert.specs.Limits.{counted, most_counted}
use Rattle.pp_cert.specs.Claims.{Claims}
use Rattle.pp_cert.specs.declared.note.Entry.{Entry}
use Rattle.pp_cert.specs.declared.note.Entry.TheVariants.{Slot}
use Rattle.pp_cert.specs.declared.note.Held.TheVariants.{Free}
use Rattle.pp_cert.specs.Slots.{slot_insert}
use Rattle.pp_cert.specs.Notes.{Entries, entry_slot, noted_at, note_pins, noted_with}
use Rattle.pp_cert.specs.Longest.{sequence_longest}
use Rattle.pp_annotate.specs.Growth.{first_note}

-- ---- what is noted after a part of a plan, where `n` is noted before it

-- With one more page, at its place by rising slot; the same where its slot has a page already. So no slot is noted twice.
abbrev pub with_page : Entry → Entries → Entries
with_page e n = if is_some (noted_at n (entry_slot e)) then n else slot_insert entry_slot e n

-- After a step: what the check expects where the step may happen, with bounds that are counted up to the stop.
abbrev pub after_step : (stop : ℕ) → Step → Entries → Entries
after_step stop (fix s r) n = with_page (Slot s r Free) n
after_step stop (unfix s) n = noted_with (Some stop) (unfix s) n
after_step stop (latch s m) n = noted_with (Some stop) (latch s m) n
after_step stop (unlatch s) n = noted_with (Some stop) (unlatch s) n
after_step stop (gather s r) n = noted_with (Some stop) (gather s r) n
after_step stop (scatter s) n = noted_with (Some stop) (scatter s) n

abbrev mutual
  -- After a loop what is noted at the end of its body; after a choice what is noted at the end of its first branch.
  pub after_statement : (stop : ℕ) → (is_bundle : ℕ → Bool) → Statement → Entries → Entries
  after_statement stop is_bundle (step s) n = after_step stop s n
  after_statement stop is_bundle (loop c b) n = after_sequence stop is_bundle b (first_note stop is_bundle c b n)
  after_statement stop is_bundle (choice bs) n = after_first stop is_bundle bs n

  pub after_sequence : (stop : ℕ) → (is_bundle : ℕ → Bool) → Sequence → Entries → Entries
  after_sequence stop is_bundle skip n = n
  after_sequence stop is_bundle (andthen s b) n = after_sequence stop is_bundle b (after_statement stop is_bundle s n)

  -- At the end of the first branch; the same as before where there is none.
  pub after_first : (stop : ℕ) → (is_bundle : ℕ → Bool) → Alternatives → Entries → Entries
  after_first stop is_bundle none n = n
  after_first stop is_bundle (either b bs) n = after_sequence stop is_bundle b n

-- ---- the notes, in the order of their places

abbrev mutual
  -- Those inside a statement: of its bodies. A loop's begins with what is noted before its last turn, and a branch with what
  -- is noted before the choice.
  pub statement_notes : (stop : ℕ) → (is_bundle : ℕ → Bool) → Statement → Entries → List Entries
  statement_notes stop is_bundle (step s) n = []
  statement_notes stop is_bundle (loop c b) n =
      first_note stop is_bundle c b n ∷ sequence_notes stop is_bundle b (first_note stop is_bundle c b n)
  statement_notes stop is_bundle (choice bs) n = branches_notes stop is_bundle bs n

  -- Those of a body after its first one: for each statement the ones inside it, and then the one after it.
  pub sequence_notes : (stop : ℕ) → (is_bundle : ℕ → Bool) → Sequence → Entries → List Entries
  sequence_notes stop is_bundle skip n = []
  sequence_notes stop is_bundle (andthen s b) n =
      statement_notes stop is_bundle s n ++ after_statement stop is_bundle s n
      ∷ sequence_notes stop is_bundle b (after_statement stop is_bundle s n)

  pub branches_notes : (stop : ℕ) → (is_bundle : ℕ → Bool) → Alternatives → Entries → List Entries
  branches_notes stop is_bundle none n = []
  branches_notes stop is_bundle (either b bs) n = (n ∷ sequence_notes stop is_bundle b n) ++ branches_notes stop is_bundle bs n

-- All notes of a plan; the first one is empty.
abbrev pub made_notes : Terms → List Entries
made_notes p = [] ∷ sequence_notes (most_counted p.layout) (uses_bundle p.body) p.body []

-- The most pages that a note pins.
abbrev pub greatest : List Entries → ℕ
greatest [] = 0
greatest (n ∷ ns) = max (note_pins n) (greatest ns)

-- The notes, the pins of the one with most as peak, and the longest trace's length as steps, counted up to one more than
-- the steps that are allowed.
abbrev pub made : Terms → Claims
made p = record {
  notes = made_notes p;
  peak = greatest (made_notes p);
  steps = min (sequence_longest p.body) counted;
}
