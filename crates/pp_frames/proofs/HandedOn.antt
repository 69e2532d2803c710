-- What it does to the map, and to what the code keeps of it, that a page gets the frame of another one. That one then
-- stands in none: two moves, of which the set of the free frames shows the second alone.
use Rattle.std.proofs.Common.{◌≡◌, ℕ, ◌<◌, Bool, true, false, List, length, set, Option, Some, None, refl, ap, sym}
use Rattle.std.proofs.Common.{◌∙◌, arith}
use Rattle.std.proofs.lemmas.Bool.{false≢true}
use Rattle.std.proofs.lemmas.List.{set-set, set_comm, set-get_or, get_or-set_same, length-set}
use Rattle.std.specs.Prelude.{is_some, IsSome, ◌&&◌, not, unwrap_or}
use Rattle.pp_frames.specs.Numbers.{is_member}
use Rattle.pp_frames.specs.Marks.{PageMap, page_count, marks_of, frame_of, pins_of, is_flushable, with_frame}
use Rattle.pp_frames.specs.Marks.{PageMarks, IsFree, is_exclusive}
use Rattle.pp_frames.specs.Kept.{Parts, IsKept, put}
use Rattle.pp_frames.proofs.Steps.{marks_here, placed_below}
use Rattle.pp_frames.proofs.Moves.{kept_moved}

-- ---- the free frames

-- A frame that isn't free, made free and taken again, leaves the set as the frame that was left in between.
handed : (s : List Bool) (f : ℕ) (o : Option ℕ) → is_member s f ≡ false → (o ≡ Some f → ⊥)
    → put s o true ≡ set (put (set s f true) o true) f false
handed s f None out away =
    sym (set-set s f true false ∙ ap (set s f) (sym out) ∙ set-get_or s f false)
handed s f (Some g) out away =
    sym (set_comm (set s f true) g f true false (λ e. away (ap (λ (k : ℕ). Some k) e))
    ∙ ap (λ l. set l g true) (set-set s f true false ∙ ap (set s f) (sym out) ∙ set-get_or s f false))

not_member : (b : Bool) → (b ≡ true → ⊥) → b ≡ false
not_member false isnt = refl
not_member true isnt = absurd (isnt refl)

-- ---- one page

no_flush : (b c : Bool) → (b && false && c) ≡ false
no_flush true c = refl
no_flush false c = refl

-- A page that stands in no frame lets no flush begin.
pub unplaced_rests : (a : PageMarks) → is_flushable (record a { frame = None }) ≡ false
unplaced_rests a = no_flush a.dirty (not (is_exclusive a.latches))

-- The frame of a page that stands in one, as it is read.
pub read_frame : (o was : Option ℕ) (r : ℕ) → was ≡ o → IsSome o → r ≡ unwrap_or was 0 → o ≡ Some r
read_frame None was r e some re = absurd (false≢true some)
read_frame (Some f) was r e some re = sym (ap (λ (k : ℕ). Some k) (re ∙ ap (λ w. unwrap_or w 0) e))

-- ---- the first move: the page that is left stands in no frame

module _ (p : Parts) (v frame : ℕ) (kept : IsKept p)
    (stands : frame_of p.marks v ≡ Some frame)
    (unpinned : pins_of p.marks v ≡ 0) where
  v_low : v < page_count p.marks
  v_low = placed_below p.marks v (ap is_some stands)

  frame_low : frame < length p.free
  frame_low = omega (arith, kept.sound.in_range v frame stands, kept.frames)

  -- what would be kept between the two
  abbrev between : Parts
  between =
      record {
        marks = with_frame p.marks v None;
        pins = p.pins;
        dirty = p.dirty;
        free = set p.free frame true;
        flushable = set p.flushable v false;
      }

  rests : set p.flushable v false ≡ set p.flushable v (is_flushable (marks_of (with_frame p.marks v None) v))
  rests =
      ap (set p.flushable v)
      (sym (ap is_flushable (marks_here p.marks v (record (marks_of p.marks v) { frame = None }) v_low)
      ∙ unplaced_rests (marks_of p.marks v)))

  pub between_kept : IsKept between
  between_kept =
      kept_moved p v None (with_frame p.marks v None) (set p.free frame true) (set p.flushable v false) kept v_low
      unpinned
      tt refl (ap (λ (o : Option ℕ). put p.free o true) (sym stands)) rests

  same_size : length (set p.free frame true) ≡ length p.free
  same_size = length-set p.free frame true

  was_taken : is_member p.free frame ≡ false
  was_taken = not_member (is_member p.free frame) (λ is. (kept.free frame frame_low).0 is v stands)

  -- the frame that is handed on
  pub is_free_between : (frame < p.marks.frames) × IsFree (with_frame p.marks v None) frame
  is_free_between = (
    kept.sound.in_range v frame stands,
    (between_kept.free frame (omega (arith, frame_low, same_size))).0
        (get_or-set_same p.free frame true false frame_low),
  )

  -- ---- the second move: the other page stands in that frame

  pub handed_kept : (page : ℕ) (new : PageMap) (free last : List Bool)
      → page < page_count (with_frame p.marks v None)
      → pins_of (with_frame p.marks v None) page ≡ 0
      → new ≡ with_frame (with_frame p.marks v None) page (Some frame)
      → free ≡ put p.free (frame_of (with_frame p.marks v None) page) true
      → last ≡ set (set p.flushable v false) page (is_flushable (marks_of new page))
      → IsKept (record { marks = new; pins = p.pins; dirty = p.dirty; free = free; flushable = last })
  handed_kept page new free last low page_unpinned new_is free_is last_set =
      kept_moved between page (Some frame) new free last between_kept low page_unpinned is_free_between new_is
      (free_is ∙ handed p.free frame (frame_of (with_frame p.marks v None) page) was_taken (is_free_between.1 page))
      last_set
