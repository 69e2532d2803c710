-- The notes that a core's marks give are those of the state that the core stands for.
use Rattle.std.proofs.Common.{◌≡◌, ◌∙◌, length, sym, ap, refl}
use Rattle.std.specs.Prelude.{map}
use Rattle.std.specs.List.{range_with_len}
use Rattle.std.proofs.lemmas.List.FromFn.{fill_by_all, length-map-range_with_len}
use Rattle.pp_frames.specs.Marks.{PageMarks, page_count}
use Rattle.pp_model.specs.Pool.{State, Note, untouched}
use Rattle.pp_model.specs.Marks.{marks_at, marks}
use Rattle.pp_model.proofs.MarkParts.{marks_is}
use Rattle.pp_outset.specs.Outsets.{note_in, notes_in}

-- What is marked of a page, without its pins and latches.
abbrev note_by : PageMarks → Note
note_by m = record { frame = m.frame; dirty = m.dirty; mark = m.stamp }

pub marked : (s : State) → page_count (marks s) ≡ length s.notes
marked s = length-map-range_with_len (marks_at s) 0 (length s.notes)

pub noted : (s : State) → notes_in (marks s) ≡ s.notes
noted s =
    ap (λ n. map (note_in (marks s)) (range_with_len 0 n)) (marked s)
    ∙ sym (fill_by_all (note_in (marks s)) s.notes (length s.notes) untouched refl
    (λ k lt. ap note_by (sym (marks_is s k lt))))
