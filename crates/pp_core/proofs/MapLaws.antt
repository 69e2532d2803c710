-- The map of the marks: what a write of one kind leaves of the others.
use Rattle.std.proofs.Common.{◌≡◌, ℕ, zero, suc, ◌-◌, List, [], ◌∷◌, refl}
use Rattle.std.specs.Prelude.{slice_set, slice_index_or}
use Rattle.pp_frames.specs.Marks as map
use Rattle.pp_frames.specs.Marks.{PageMap, PageMarks, untouched_marks}
use Rattle.pp_core.specs.Effects.{unpinned}

same_frame : (xs : List PageMarks) (p : ℕ) (x : PageMarks) → x.frame ≡ (slice_index_or xs p untouched_marks).frame
    → (slice_index_or (slice_set xs p x) p untouched_marks).frame ≡ (slice_index_or xs p untouched_marks).frame
same_frame [] p x e = refl
same_frame (y ∷ ys) zero x e = e
same_frame (y ∷ ys) (suc p) x e = same_frame ys p x e

-- The frames stay where a pin goes.
pub frame_unpinned : (m : PageMap) (page : ℕ) → map.frame_of (unpinned m page) page ≡ map.frame_of m page
frame_unpinned m page =
    same_frame m.pages page (record (map.marks_of m page) { pins = map.pins_of m page - 1 }) refl
