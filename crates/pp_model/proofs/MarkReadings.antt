-- What the map of the marks answers of a page, in the words of the state: of each page of the pool, and of a page past
-- the last one.
use Rattle.std.proofs.Common.{◌≡◌, ◌∙◌, ℕ, ◌+◌, ◌^◌, ◌<◌, ◌≤◌, Bool, true, false, Option, Some, None, length, refl}
use Rattle.std.proofs.Common.{sym, ap, inl, inr, arith}
use Rattle.std.specs.Prelude.{not, nat_lt, ◌&&◌, is_some, IsSome, unwrap_or}
use Rattle.std.proofs.lemmas.Bool.{cases_lt}
use Rattle.std.proofs.lemmas.List.{get_or_past}
use Rattle.pp_arc.specs.FourLists.{is_cached}
use Rattle.pp_plan.specs.declared.mode.Mode.{Mode}
use Rattle.pp_plan.specs.declared.mode.Mode.TheVariants as mode
use Rattle.pp_frames.specs.Marks as map
use Rattle.pp_frames.specs.Marks.{PageMarks}
use Rattle.pp_model.specs.Submitting.{most_events}
use Rattle.pp_model.specs.Pool.{Note, State, untouched, note_of, frame_of, is_dirty, known_mark, mark_at}
use Rattle.pp_model.specs.Holders.{latches_of, is_taken}
use Rattle.pp_model.specs.Budget.{bound}
use Rattle.pp_model.specs.Using.{goes_with}
use Rattle.pp_model.specs.Reached.{IsReached}
use Rattle.pp_model.specs.Marks.{marks}
use Rattle.pp_model.proofs.MarkParts.{marks_is}
use Rattle.pp_model.proofs.MarkChanges.{count_told, latches_told, pins_told}
use Rattle.pp_model.proofs.Framed.{framed}
use Rattle.pp_model.proofs.MarkBounds.{marks_are_small, bound_within, need_is_small}
use Rattle.pp_model.proofs.MarkSteps.{latch_mode_of}

past_map : (s : State) (q : ℕ) → length s.notes ≤ q → map.marks_of (marks s) q ≡ map.untouched_marks
past_map s q le = get_or_past (marks s).pages q map.untouched_marks (omega (arith, le, count_told s))

past_note : (s : State) (q : ℕ) → length s.notes ≤ q → note_of s q ≡ untouched
past_note s q le = get_or_past s.notes q untouched le

-- ---- what is noted of a page

pub dirty_is : (s : State) (q : ℕ) → map.is_dirty (marks s) q ≡ is_dirty s q
dirty_is s q =
    elim (cases_lt q (length s.notes)) [
      | inl lt ↦ ap (λ (x : PageMarks). x.dirty) (marks_is s q lt)
      | inr le ↦ ap (λ (x : PageMarks). x.dirty) (past_map s q le) ∙ sym (ap (λ (x : Note). x.dirty) (past_note s q le))
    ]

pub stamp_is : (s : State) (q : ℕ) → map.stamp_of (marks s) q ≡ known_mark s q
stamp_is s q =
    elim (cases_lt q (length s.notes)) [
      | inl lt ↦ ap (λ (x : PageMarks). x.stamp) (marks_is s q lt)
      | inr le ↦ ap (λ (x : PageMarks). x.stamp) (past_map s q le) ∙ sym (ap (λ (x : Note). x.mark) (past_note s q le))
    ]

-- ---- pins and latches

-- A page is taken where it has a pin, and a latch goes with those that stand as the map says.
pub taken_is : (s : State) (q : ℕ) → q < length s.notes → nat_lt 0 (map.pins_of (marks s) q) ≡ is_taken s q
taken_is s q lt = ap (nat_lt 0) (pins_told s q lt)

pub goes_is : (s : State) (m : Mode) (q : ℕ) → q < length s.notes
    → map.is_compatible (latch_mode_of m) (map.latches_of (marks s) q) ≡ goes_with s m q
goes_is s mode.S q lt = ap (map.is_compatible (latch_mode_of mode.S)) (latches_told s q lt)
goes_is s mode.X q lt = ap (map.is_compatible (latch_mode_of mode.X)) (latches_told s q lt)

-- ---- frames

same_truth : (a : Bool) (o : Option ℕ) → (a ≡ true → IsSome o) → (IsSome o → a ≡ true) → is_some o ≡ a
same_truth true o some back = some refl
same_truth false None some back = refl
same_truth false (Some x) some back = sym (back refl)

-- A page has a frame where it is cached.
pub framed_is : (s : State) → IsReached s → (q : ℕ) → is_some (frame_of s q) ≡ is_cached s.lists q
framed_is s h q =
    same_truth (is_cached s.lists q) (frame_of s q) ((framed s h).placed q) ((framed s h).cached q)

-- The page itself lets a flush begin where it is cached, newer than the device's, and not latched X.
pub flushable_is : (s : State) → IsReached s → (q : ℕ) → q < length s.notes
    → map.is_flushable (map.marks_of (marks s) q)
    ≡ (is_dirty s q && is_cached s.lists q && not (map.is_exclusive (latches_of s q)))
flushable_is s h q lt =
    ap map.is_flushable (marks_is s q lt)
    ∙ (λ i. is_dirty s q && framed_is s h q i && not (map.is_exclusive (latches_of s q)))

-- ---- marks

-- The mark that a page has, or 0, and the bound come to at most 2^62 and the most events of a journal.
small_at : (top most now : ℕ) (o : Option ℕ) → ((m : ℕ) → o ≡ Some m → m + now ≤ top + most) → now ≤ most
    → unwrap_or o 0 + now ≤ top + most
small_at top most now None all fits = omega arith
small_at top most now (Some m) all fits = all m refl

pub mark_at_is_small : (s : State) → IsReached s → (q : ℕ) → mark_at s q + bound s ≤ 2 ^ 63 + most_events s.settings.span
mark_at_is_small s h q =
    small_at (2 ^ 63) (most_events s.settings.span) (bound s) (known_mark s q) (λ m e. marks_are_small s h q m e)
    (omega (arith, bound_within s h, need_is_small s h))
