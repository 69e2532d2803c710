-- What a page without pins does to the map, and to what the code keeps of it, when it goes into another frame or into
-- none.
use Rattle.std.proofs.Common.{◌≡◌, ◌≢◌, ℕ, ◌<◌, Bool, true, false, List, length, set, Option, Some, None, refl, ap, sym}
use Rattle.std.proofs.Common.{◌∙◌, arith, inl, inr, ◌↔◌, subst}
use Rattle.std.proofs.lemmas.Bool.{cases_eq, false≢true}
use Rattle.std.proofs.lemmas.List.{get_or-set_same, get_or-set_other, length-set}
use Rattle.std.specs.Prelude.{IsSome, IfSome}
use Rattle.pp_frames.specs.Numbers.{is_member}
use Rattle.pp_frames.specs.Marks.{Latches, Shared, Exclusive}
use Rattle.pp_frames.specs.Marks.{latch_count, PageMarks, PageMap, page_count, marks_of, frame_of, pins_of, latches_of}
use Rattle.pp_frames.specs.Marks.{all_pins, is_flushable, with_frame, IsFree, IsSound}
use Rattle.pp_frames.specs.Kept.{Parts, IsKept, put}
use Rattle.pp_frames.proofs.Tables.{cases_some}
use Rattle.pp_frames.proofs.Steps.{marks_here, marks_there, all_pins_with, all_dirty_with, flushable_with, flushes}

-- ---- a number put into a set or out of it

pub length-put : (s : List Bool) (o : Option ℕ) (b : Bool) → length (put s o b) ≡ length s
length-put s None b = refl
length-put s (Some k) b = length-set s k b

put_same : (s : List Bool) (o : Option ℕ) (b : Bool) (f : ℕ) → f < length s → o ≡ Some f → is_member (put s o b) f ≡ b
put_same s o b f lt is = rw is (get_or-set_same s f b false lt)

put_other : (s : List Bool) (o : Option ℕ) (b : Bool) (f : ℕ) → (o ≡ Some f → ⊥)
    → is_member (put s o b) f ≡ is_member s f
put_other s None b f away = refl
put_other s (Some k) b f away = get_or-set_other s k f b false (λ e. away (ap (λ (g : ℕ). Some g) (sym e)))

-- ---- a page in another frame

module _ (m : PageMap) (page : ℕ) (frame : Option ℕ) (lt : page < page_count m) (sound : IsSound m)
    (unpinned : pins_of m page ≡ 0)
    (free : IfSome frame (λ f. (f < m.frames) × IsFree m f)) where
  goes_to : (f : ℕ) → frame ≡ Some f → (f < m.frames) × IsFree m f
  goes_to f is = rw is at free

  here : frame_of (with_frame m page frame) page ≡ frame
  here = ap (λ (a : PageMarks). a.frame) (marks_here m page (record (marks_of m page) { frame = frame }) lt)

  there : (k : ℕ) → k ≢ page → frame_of (with_frame m page frame) k ≡ frame_of m k
  there k away =
      ap (λ (a : PageMarks). a.frame) (marks_there m page (record (marks_of m page) { frame = frame }) lt k away)

  pins_same : (k : ℕ) → pins_of (with_frame m page frame) k ≡ pins_of m k
  pins_same k =
      elim (cases_eq k page) [
        | inl same ↦ rw same
            (ap (λ (a : PageMarks). a.pins) (marks_here m page (record (marks_of m page) { frame = frame }) lt))
        | inr away ↦ ap (λ (a : PageMarks). a.pins)
            (marks_there m page (record (marks_of m page) { frame = frame }) lt k away)
      ]

  latches_same : (k : ℕ) → latches_of (with_frame m page frame) k ≡ latches_of m k
  latches_same k =
      elim (cases_eq k page) [
        | inl same ↦ rw same
            (ap (λ (a : PageMarks). a.latches) (marks_here m page (record (marks_of m page) { frame = frame }) lt))
        | inr away ↦ ap (λ (a : PageMarks). a.latches)
            (marks_there m page (record (marks_of m page) { frame = frame }) lt k away)
      ]

  -- a page in the frame that this one goes to is this one
  alone : (k f : ℕ) → frame ≡ Some f → frame_of (with_frame m page frame) k ≡ Some f → k ≡ page
  alone k f is stands =
      elim (cases_eq k page) [
        | inl same ↦ same
        | inr away ↦ absurd ((goes_to f is).1 k (sym (there k away) ∙ stands))
      ]

  -- any other frame that a page is in, it was in before
  as_before : (k f : ℕ) → (frame ≡ Some f → ⊥) → frame_of (with_frame m page frame) k ≡ Some f
      → (k ≢ page) × (frame_of m k ≡ Some f)
  as_before k f other stands =
      let away : k ≢ page = λ same. other (sym here ∙ (rw same at stands)) in
      (away, sym (there k away) ∙ stands)

  moved_in_range : (k f : ℕ) → frame_of (with_frame m page frame) k ≡ Some f → f < m.frames
  moved_in_range k f stands =
      elim (cases_some frame f) [
        | inl is ↦ (goes_to f is).0
        | inr other ↦ sound.in_range k f (as_before k f other stands).1
      ]

  moved_no_twice : (p q f : ℕ) → frame_of (with_frame m page frame) p ≡ Some f
      → frame_of (with_frame m page frame) q ≡ Some f → p ≡ q
  moved_no_twice p q f ep eq =
      elim (cases_some frame f) [
        | inl is ↦ alone p f is ep ∙ sym (alone q f is eq)
        | inr other ↦ sound.no_frame_twice p q f (as_before p f other ep).1 (as_before q f other eq).1
      ]

  moved_placed : (k : ℕ) → 0 < pins_of (with_frame m page frame) k → IsSome (frame_of (with_frame m page frame) k)
  moved_placed k some =
      elim (cases_eq k page) [
        | inl same ↦ let none : pins_of m k ≡ 0 =
            ap (pins_of m) same ∙ unpinned in absurd (omega (arith, some, pins_same k, none))
        | inr away ↦ rw (there k away) (sound.pinned_is_placed k (omega (arith, some, pins_same k)))
      ]

  pub all_pins_moved : all_pins (with_frame m page frame) ≡ all_pins m
  all_pins_moved = omega (arith, all_pins_with m page (record (marks_of m page) { frame = frame }) lt)

  pub sound_moved : IsSound (with_frame m page frame)
  sound_moved =
      record {
        in_range = moved_in_range;
        no_frame_twice = moved_no_twice;
        pinned_is_placed = moved_placed;
        latched_is_pinned = λ k. omega (arith, sound.latched_is_pinned k, ap latch_count (latches_same k), pins_same k);
        pins_fit = omega (arith, sound.pins_fit, all_pins_moved);
      }

  -- the free frames once its own is free and this one is taken
  pub free_moved : (s : List Bool) (f : ℕ) → f < length s → ((is_member s f ≡ true) ↔ IsFree m f)
      → (is_member (put (put s (frame_of m page) true) frame false) f ≡ true) ↔ IsFree (with_frame m page frame) f
  free_moved s f below says =
      elim (cases_some frame f) [
        | inl is ↦
            let out : is_member (put (put s (frame_of m page) true) frame false) f ≡ false =
            put_same (put s (frame_of m page) true) frame false f
            (omega (arith, below, length-put s (frame_of m page) true)) is in
            (λ e. absurd (false≢true (sym out ∙ e)), λ none. absurd (none page (here ∙ is)))
        | inr other ↦
            let kept : is_member (put (put s (frame_of m page) true) frame false) f ≡ is_member
            (put s (frame_of m page) true) f =
            put_other (put s (frame_of m page) true) frame false f other in
            elim (cases_some (frame_of m page) f) [
              | inl was ↦ (
                λ e k stands.
                    let before = as_before k f other stands in
                    before.0 (sound.no_frame_twice k page f before.1 was),
                λ none. kept ∙ put_same s (frame_of m page) true f below was,
              )
              | inr was_not ↦ (
                λ e k stands. says.0 (sym (kept ∙ put_other s (frame_of m page) true f was_not) ∙ e) k
                    (as_before k f other stands).1,
                λ none. kept ∙ put_other s (frame_of m page) true f was_not ∙ says.1 (λ k stands.
                    elim (cases_eq k page) [
                      | inl same ↦ was_not (rw same at stands)
                      | inr away ↦ none k (there k away ∙ stands)
                    ]),
              )
            ]
      ]

-- ---- what is kept

module _ (p : Parts) (page : ℕ) (frame : Option ℕ) (new : PageMap) (free flushable : List Bool) (kept : IsKept p)
    (lt : page < page_count p.marks)
    (unpinned : pins_of p.marks page ≡ 0)
    (into : IfSome frame (λ f. (f < p.marks.frames) × IsFree p.marks f))
    (new_is : new ≡ with_frame p.marks page frame)
    (free_is : free ≡ put (put p.free (frame_of p.marks page) true) frame false)
    (set_is : flushable ≡ set p.flushable page (is_flushable (marks_of new page))) where
  same_frames : length free ≡ length p.free
  same_frames =
      ap length free_is
      ∙ length-put (put p.free (frame_of p.marks page) true) frame false
      ∙ length-put p.free (frame_of p.marks page) true

  put_so : flushable ≡ set p.flushable page (is_flushable (record (marks_of p.marks page) { frame = frame }))
  put_so =
      set_is
      ∙ ap (set p.flushable page)
      (flushes p.marks new page (record (marks_of p.marks page) { frame = frame }) lt new_is)

  kept_plainly : IsKept
      (record {
        marks = with_frame p.marks page frame;
        pins = p.pins;
        dirty = p.dirty;
        free = free;
        flushable =
            flushable;
      })
  kept_plainly =
      let m : PageMap = p.marks in
      let marks : PageMarks = record (marks_of m page) { frame = frame } in
      record {
        sound = sound_moved m page frame lt kept.sound unpinned into;
        pins = kept.pins ∙ sym (all_pins_moved m page frame lt kept.sound unpinned into);
        dirty = omega (arith, kept.dirty, all_dirty_with m page marks lt);
        frames = same_frames ∙ kept.frames;
        free = λ f below.
            let under : f < length p.free = omega (arith, same_frames) in
            rw free_is (free_moved m page frame lt kept.sound unpinned into p.free f under (kept.free f under));
        pages = ap length put_so ∙ length-set p.flushable page (is_flushable marks) ∙ kept.pages
            ∙ sym (length-set m.pages page marks);
        flushable = λ k.
            ap (λ s. is_member s k) put_so ∙ flushable_with m page marks lt p.flushable kept.pages kept.flushable k;
        frames_fit = omega (arith, kept.frames_fit, same_frames);
        pages_fit = omega (arith, kept.pages_fit, ap length put_so, length-set p.flushable page (is_flushable marks));
      }

  pub kept_moved : IsKept (record { marks = new; pins = p.pins; dirty = p.dirty; free = free; flushable = flushable })
  kept_moved =
      subst (λ m. IsKept (record { marks = m; pins = p.pins; dirty = p.dirty; free = free; flushable = flushable }))
      (sym new_is)
      kept_plainly

-- ---- a page without pins has no latch

no_latch : (l : Latches) → latch_count l ≡ 0 → l ≡ Shared 0
no_latch (Shared n) none = ap (λ k. Shared k) none
no_latch Exclusive none = absurd (omega (arith, none))

pub unlatched : (m : PageMap) (page : ℕ) → IsSound m → pins_of m page ≡ 0 → latches_of m page ≡ Shared 0
unlatched m page sound none = no_latch (latches_of m page) (omega (arith, sound.latched_is_pinned page, none))
