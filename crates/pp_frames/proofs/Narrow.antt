-- What it does to what the code keeps that only the pins or the latches of a page change.
use Rattle.std.proofs.Common.{◌≡◌, ℕ, ◌+◌, ◌-◌, ◌<◌, ◌≤◌, Bool, true, false, List, set, ap, sym, refl, ◌∙◌, arith}
use Rattle.std.proofs.Common.{if◌then◌else◌}
use Rattle.std.proofs.lemmas.Bool.{false≢true, ltb-true}
use Rattle.std.proofs.lemmas.List.{set-get_or}
use Rattle.std.specs.Prelude.{IsSome, Some, is_some, not, ◌&&◌}
use Rattle.pp_frames.specs.declared.held.Held.{Held}
use Rattle.pp_frames.specs.declared.mode.Mode.TheVariants.{S}
use Rattle.pp_frames.specs.Marks.{Latches, Shared, Exclusive, latch_count, is_exclusive, is_compatible, has_latch}
use Rattle.pp_frames.specs.Marks.{with_latch, without_latch, PageMarks, PageMap, page_count, marks_of, frame_of}
use Rattle.pp_frames.specs.Marks.{pins_of}
use Rattle.pp_frames.specs.Marks.{latches_of, all_pins, is_dirty, is_flushable, with_marks, with_pins, with_latches}
use Rattle.pp_frames.specs.Marks.{with_stamp}
use Rattle.pp_frames.specs.Arrays.{latches_at}
use Rattle.pp_frames.specs.Kept.{Parts, IsKept, Fits, bit}
use Rattle.pp_frames.proofs.Steps.{placed_below, pinned_below, pins-le-all_pins, kept_written}

-- ---- the marks of a page that is held in another way

pub with_held : (m new : PageMap) (page : ℕ) (to : Held) (pins : ℕ) (latches : Latches)
    → new ≡ with_marks m page (record (marks_of m page) { pins = to.pins; latches = latches_at to })
    → to.pins ≡ pins
    → latches_at to ≡ latches
    → new ≡ with_marks m page (record (marks_of m page) { pins = pins; latches = latches })
with_held m new page to pins latches new_is same_pins same_latches =
    new_is
    ∙ ap (λ n. with_marks m page (record (marks_of m page) { pins = n; latches = latches_at to })) same_pins
    ∙ ap (λ l. with_marks m page (record (marks_of m page) { pins = pins; latches = l })) same_latches

-- ---- marks with which the page lets a flush begin as before

module _ (p : Parts) (page : ℕ) (marks : PageMarks) (new : PageMap) (pins : ℕ) (kept : IsKept p)
    (lt : page < page_count p.marks)
    (fits : Fits p.marks page marks)
    (sum : pins ≡ p.pins - pins_of p.marks page + marks.pins)
    (new_is : new ≡ with_marks p.marks page marks)
    (same_dirty : marks.dirty ≡ is_dirty p.marks page)
    (same : is_flushable marks ≡ is_flushable (marks_of p.marks page)) where
  set_stays : p.flushable ≡ set p.flushable page (is_flushable marks)
  set_stays =
      sym (ap (set p.flushable page) (same ∙ sym (kept.flushable page)) ∙ set-get_or p.flushable page false)

  pub kept_same : IsKept (record { marks = new; pins = pins; dirty = p.dirty; free = p.free; flushable = p.flushable })
  kept_same =
      kept_written p page marks new pins p.dirty p.flushable kept lt fits
      (ap (λ b. p.dirty + bit b) (sym same_dirty)) sum new_is set_stays

-- ---- pins

module _ (p : Parts) (page : ℕ) (new : PageMap) (kept : IsKept p) where
  pub one_pin_more : IsSome (frame_of p.marks page)
      → all_pins p.marks < p.marks.frames
      → new ≡ with_pins p.marks page (pins_of p.marks page + 1)
      → IsKept (record { marks = new; pins = p.pins + 1; dirty = p.dirty; free = p.free; flushable = p.flushable })
  one_pin_more placed room new_is =
      let m : PageMap = p.marks in
      kept_same p page (record (marks_of m page) { pins = pins_of m page + 1 }) new (p.pins + 1) kept
      (placed_below m page placed)
      (record {
        frame = refl;
        placed = λ some. placed;
        pinned = omega (arith, kept.sound.latched_is_pinned page);
        room = omega (arith, room);
      })
      (omega (arith, kept.pins, pins-le-all_pins m page)) new_is refl refl

  pub one_pin_less : latch_count (latches_of p.marks page) < pins_of p.marks page
      → new ≡ with_pins p.marks page (pins_of p.marks page - 1)
      → IsKept (record { marks = new; pins = p.pins - 1; dirty = p.dirty; free = p.free; flushable = p.flushable })
  one_pin_less spare new_is =
      let m : PageMap = p.marks in
      let some : 0 < pins_of m page = omega (arith, spare) in
      kept_same p page (record (marks_of m page) { pins = pins_of m page - 1 }) new (p.pins - 1) kept
      (pinned_below m page some)
      (record {
        frame = refl;
        placed = λ still. kept.sound.pinned_is_placed page some;
        pinned = omega (arith, spare);
        room = omega (arith, kept.sound.pins_fit);
      })
      (omega (arith, some, kept.pins, pins-le-all_pins m page)) new_is refl refl

-- ---- readers

-- The latches of a record, by its flag of a writer and its number of readers.
abbrev latches_by : Bool → ℕ → Latches
latches_by writer readers = if writer then Exclusive else Shared readers

reader_more : (writer : Bool) (readers : ℕ) → is_compatible S (latches_by writer readers) ≡ true
    → latches_by writer (readers + 1) ≡ with_latch S (latches_by writer readers)
reader_more true readers goes = absurd (false≢true goes)
reader_more false readers goes = refl

reader_less : (writer : Bool) (readers : ℕ) → has_latch S (latches_by writer readers) ≡ true
    → latches_by writer (readers - 1) ≡ without_latch (latches_by writer readers)
reader_less true readers has = absurd (false≢true has)
reader_less false readers has = refl

some_latch : (l : Latches) → has_latch S l ≡ true → 0 < latch_count l
some_latch (Shared n) has = ltb-true 0 n has
some_latch Exclusive has = absurd (false≢true has)

goes_shared : (l : Latches) → is_compatible S l ≡ true → is_exclusive l ≡ false
goes_shared (Shared n) goes = refl
goes_shared Exclusive goes = absurd (false≢true goes)

has_shared : (l : Latches) → has_latch S l ≡ true → is_exclusive l ≡ false
has_shared (Shared n) has = refl
has_shared Exclusive has = absurd (false≢true has)

module _ (m : PageMap) (page : ℕ) (now : Held) (is : latches_at now ≡ latches_of m page) where
  pub more_is : is_compatible S (latches_of m page) ≡ true
      → latches_at (record now { readers = now.readers + 1 }) ≡ with_latch S (latches_of m page)
  more_is goes = reader_more now.has_writer now.readers (ap (is_compatible S) is ∙ goes) ∙ ap (with_latch S) is

  pub less_is : has_latch S (latches_of m page) ≡ true
      → latches_at (record now { readers = now.readers - 1 }) ≡ without_latch (latches_of m page)
  less_is has = reader_less now.has_writer now.readers (ap (has_latch S) is ∙ has) ∙ ap without_latch is

-- ---- latches

module _ (p : Parts) (page : ℕ) (latches : Latches) (kept : IsKept p)
    (placed : IsSome (frame_of p.marks page))
    (fit : latch_count latches ≤ pins_of p.marks page) where
  fits_latched : Fits p.marks page (record (marks_of p.marks page) { latches = latches })
  fits_latched =
      record {
        frame = refl;
        placed = kept.sound.pinned_is_placed page;
        pinned = fit;
        room = omega (arith, kept.sound.pins_fit);
      }

  pub latched : (new : PageMap) (flushable : List Bool) → new ≡ with_latches p.marks page latches
      → flushable ≡ set p.flushable page (is_flushable (record (marks_of p.marks page) { latches = latches }))
      → IsKept (record { marks = new; pins = p.pins; dirty = p.dirty; free = p.free; flushable = flushable })
  latched new flushable new_is set_is =
      kept_written p page (record (marks_of p.marks page) { latches = latches }) new p.pins p.dirty flushable kept
      (placed_below p.marks page placed) fits_latched refl (omega (arith, kept.pins, pins-le-all_pins p.marks page))
      new_is
      set_is

  latched_same : (new : PageMap) → new ≡ with_latches p.marks page latches
      → is_exclusive latches ≡ is_exclusive (latches_of p.marks page)
      → IsKept (record { marks = new; pins = p.pins; dirty = p.dirty; free = p.free; flushable = p.flushable })
  latched_same new new_is alike =
      kept_same p page (record (marks_of p.marks page) { latches = latches }) new p.pins kept
      (placed_below p.marks page placed) fits_latched (omega (arith, kept.pins, pins-le-all_pins p.marks page)) new_is
      refl (ap (λ b. (marks_of p.marks page).dirty && is_some (frame_of p.marks page) && not b) alike)

module _ (p : Parts) (page : ℕ) (new : PageMap) (kept : IsKept p) where
  pub one_reader_more : is_compatible S (latches_of p.marks page) ≡ true
      → latch_count (latches_of p.marks page) < pins_of p.marks page
      → new ≡ with_latches p.marks page (with_latch S (latches_of p.marks page))
      → IsKept (record { marks = new; pins = p.pins; dirty = p.dirty; free = p.free; flushable = p.flushable })
  one_reader_more goes spare new_is =
      latched_same p page (with_latch S (latches_of p.marks page)) kept
      (kept.sound.pinned_is_placed page (omega (arith, spare))) (omega (arith, spare)) new new_is
      (sym (goes_shared (latches_of p.marks page) goes))

  pub one_reader_less : has_latch S (latches_of p.marks page) ≡ true
      → new ≡ with_latches p.marks page (without_latch (latches_of p.marks page))
      → IsKept (record { marks = new; pins = p.pins; dirty = p.dirty; free = p.free; flushable = p.flushable })
  one_reader_less has new_is =
      let some : 0 < latch_count (latches_of p.marks page) = some_latch (latches_of p.marks page) has in
      let pinned = kept.sound.latched_is_pinned page in
      latched_same p page (without_latch (latches_of p.marks page)) kept
      (kept.sound.pinned_is_placed page (omega (arith, some, pinned))) (omega (arith, pinned)) new new_is
      (sym (has_shared (latches_of p.marks page) has))

-- ---- dirty marks and stamps

module _ (p : Parts) (page : ℕ) (kept : IsKept p) (lt : page < page_count p.marks) where
  pub dirtied_kept : (is : Bool) (new : PageMap) (dirty : ℕ) (flushable : List Bool)
      → new ≡ with_marks p.marks page (record (marks_of p.marks page) { dirty = is })
      → dirty + bit (is_dirty p.marks page) ≡ p.dirty + bit is
      → flushable ≡ set p.flushable page (is_flushable (record (marks_of p.marks page) { dirty = is }))
      → IsKept (record { marks = new; pins = p.pins; dirty = dirty; free = p.free; flushable = flushable })
  dirtied_kept is new dirty flushable new_is dirty_is set_is =
      kept_written p page (record (marks_of p.marks page) { dirty = is }) new p.pins dirty flushable kept lt
      (record {
        frame = refl;
        placed = kept.sound.pinned_is_placed page;
        pinned = kept.sound.latched_is_pinned page;
        room = omega (arith, kept.sound.pins_fit);
      })
      dirty_is (omega (arith, kept.pins, pins-le-all_pins p.marks page)) new_is set_is

  pub stamped_kept : (stamp : ℕ) (new : PageMap) → new ≡ with_stamp p.marks page (Some stamp)
      → IsKept (record { marks = new; pins = p.pins; dirty = p.dirty; free = p.free; flushable = p.flushable })
  stamped_kept stamp new new_is =
      kept_same p page (record (marks_of p.marks page) { stamp = Some stamp }) new p.pins kept lt
      (record {
        frame = refl;
        placed = kept.sound.pinned_is_placed page;
        pinned = kept.sound.latched_is_pinned page;
        room = omega (arith, kept.sound.pins_fit);
      })
      (omega (arith, kept.pins, pins-le-all_pins p.marks page)) new_is refl refl
