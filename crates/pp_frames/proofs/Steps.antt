-- What new marks of one page do to the map, and to what the code keeps of it.
use Rattle.std.proofs.Common.{◌≡◌, ◌≢◌, ℕ, ◌+◌, ◌-◌, ◌<◌, ◌≤◌, Bool, true, false, List, length, set, None}
use Rattle.std.proofs.Common.{ap, sym, subst, ◌∙◌, arith, inl, inr}
use Rattle.std.proofs.lemmas.Bool.{cases_lt, cases_eq, false≢true}
use Rattle.std.proofs.lemmas.List.{get_or_past, get_or-set_same, get_or-set_other, length-set}
use Rattle.std.proofs.lemmas.List.Sums.{sum_by-set, get_or-le-sum_by, count_by-le-length}
use Rattle.std.specs.Prelude.{IsSome}
use Rattle.pp_frames.specs.Numbers.{is_member}
use Rattle.pp_frames.specs.Marks.{latch_count, PageMarks, PageMap, untouched_marks, page_count, marks_of, frame_of}
use Rattle.pp_frames.specs.Marks.{pins_of, latches_of, all_pins, all_dirty, is_dirty, is_flushable, with_marks}
use Rattle.pp_frames.specs.Marks.{IsFree, IsSound}
use Rattle.pp_frames.specs.Kept.{Parts, IsKept, Fits, bit}

-- ---- pages of the pool

-- a page with a frame, or with a pin, is one of the pool's
pub placed_below : (m : PageMap) (k : ℕ) → IsSome (frame_of m k) → k < page_count m
placed_below m k some =
    elim (cases_lt k (page_count m)) [
      | inl lt ↦ lt
      | inr le ↦
          let none : frame_of m k ≡ None = ap (λ (a : PageMarks). a.frame) (get_or_past m.pages k untouched_marks le) in
          absurd (false≢true (rw none at some))
    ]

pub pinned_below : (m : PageMap) (k : ℕ) → 0 < pins_of m k → k < page_count m
pinned_below m k some =
    elim (cases_lt k (page_count m)) [
      | inl lt ↦ lt
      | inr le ↦ absurd (omega (arith, ap (λ (a : PageMarks). a.pins) (get_or_past m.pages k untouched_marks le)))
    ]

pub pins-le-all_pins : (m : PageMap) (k : ℕ) → pins_of m k ≤ all_pins m
pins-le-all_pins m k =
    elim (cases_lt k (page_count m)) [
      | inl lt ↦ get_or-le-sum_by (λ (a : PageMarks). a.pins) m.pages k untouched_marks lt
      | inr le ↦ omega (arith, ap (λ (a : PageMarks). a.pins) (get_or_past m.pages k untouched_marks le))
    ]

-- ---- other marks of one page

module _ (m : PageMap) (page : ℕ) (marks : PageMarks) (lt : page < page_count m) where
  pub marks_here : marks_of (with_marks m page marks) page ≡ marks
  marks_here = get_or-set_same m.pages page marks untouched_marks lt

  pub marks_there : (k : ℕ) → k ≢ page → marks_of (with_marks m page marks) k ≡ marks_of m k
  marks_there k away = get_or-set_other m.pages page k marks untouched_marks away

  pub all_pins_with : all_pins (with_marks m page marks) + pins_of m page ≡ all_pins m + marks.pins
  all_pins_with = sum_by-set (λ (a : PageMarks). a.pins) m.pages page marks untouched_marks lt

  pub flushable_with : (flushable : List Bool) → length flushable ≡ page_count m
      → ((k : ℕ) → is_member flushable k ≡ is_flushable (marks_of m k))
      → (k : ℕ)
      → is_member (set flushable page (is_flushable marks)) k ≡ is_flushable (marks_of (with_marks m page marks) k)
  flushable_with flushable len says k =
      elim (cases_eq k page) [
        | inl same ↦
            rw same (get_or-set_same flushable page (is_flushable marks) false (omega (arith, len))
            ∙ ap is_flushable (sym marks_here))
        | inr away ↦
            get_or-set_other flushable page k (is_flushable marks) false away
            ∙ says k
            ∙ ap is_flushable (sym (marks_there k away))
      ]

  -- ---- dirty pages

  pub all_dirty_with : all_dirty (with_marks m page marks) + bit (is_dirty m page) ≡ all_dirty m + bit marks.dirty
  all_dirty_with = sum_by-set (λ (a : PageMarks). bit a.dirty) m.pages page marks untouched_marks lt

dirty_counts : (m : PageMap) (page : ℕ) → page < page_count m → bit (is_dirty m page) ≤ all_dirty m
dirty_counts m page lt = get_or-le-sum_by (λ (a : PageMarks). bit a.dirty) m.pages page untouched_marks lt

pub some_dirty : (m : PageMap) (page : ℕ) → page < page_count m → is_dirty m page ≡ true → 0 < all_dirty m
some_dirty m page lt is = omega (arith, dirty_counts m page lt, ap bit is)

-- where a page is clean, not all are dirty
pub room_for_dirty : (m : PageMap) (page : ℕ) → page < page_count m → is_dirty m page ≡ false
    → all_dirty m < page_count m
room_for_dirty m page lt is =
    let then : PageMarks = record (marks_of m page) { dirty = true } in
    omega (
      arith,
      all_dirty_with m page then lt,
      ap bit is,
      count_by-le-length (λ (a : PageMarks). a.dirty) (with_marks m page then).pages,
      length-set m.pages page then,
    )

-- ---- in the same frame

module _ (m : PageMap) (page : ℕ) (marks : PageMarks) (lt : page < page_count m) (sound : IsSound m)
    (fits : Fits m page marks) where
  frame_kept : (k : ℕ) → frame_of (with_marks m page marks) k ≡ frame_of m k
  frame_kept k =
      elim (cases_eq k page) [
        | inl same ↦ rw same (ap (λ (a : PageMarks). a.frame) (marks_here m page marks lt) ∙ fits.frame)
        | inr away ↦ ap (λ (a : PageMarks). a.frame) (marks_there m page marks lt k away)
      ]

  pub free_kept : (frame : ℕ) → IsFree m frame → IsFree (with_marks m page marks) frame
  free_kept frame free k there = free k (sym (frame_kept k) ∙ there)

  pub free_before : (frame : ℕ) → IsFree (with_marks m page marks) frame → IsFree m frame
  free_before frame free k there = free k (frame_kept k ∙ there)

  pins_here : pins_of (with_marks m page marks) page ≡ marks.pins
  pins_here = ap (λ (a : PageMarks). a.pins) (marks_here m page marks lt)

  latches_here : latches_of (with_marks m page marks) page ≡ marks.latches
  latches_here = ap (λ (a : PageMarks). a.latches) (marks_here m page marks lt)

  placed_here : 0 < pins_of (with_marks m page marks) page → IsSome (frame_of (with_marks m page marks) page)
  placed_here some =
      subst IsSome (sym (ap (λ (a : PageMarks). a.frame) (marks_here m page marks lt)))
      (fits.placed (omega (arith, pins_here)))

  placed_still : (k : ℕ) → 0 < pins_of (with_marks m page marks) k → IsSome (frame_of (with_marks m page marks) k)
  placed_still k some =
      elim (cases_eq k page) [
        | inl same ↦
            subst (λ j. 0 < pins_of (with_marks m page marks) j → IsSome (frame_of (with_marks m page marks) j))
            (sym same) placed_here some
        | inr away ↦
            let there : 0 < pins_of m k =
            omega (arith, some, ap (λ (a : PageMarks). a.pins) (marks_there m page marks lt k away)) in
            subst IsSome (sym (frame_kept k)) (sound.pinned_is_placed k there)
      ]

  pinned_still : (k : ℕ) → latch_count (latches_of (with_marks m page marks) k) ≤ pins_of (with_marks m page marks) k
  pinned_still k =
      elim (cases_eq k page) [
        | inl same ↦
            let here : latch_count (latches_of (with_marks m page marks) page) ≤ pins_of
            (with_marks m page marks) page =
            omega (arith, fits.pinned, pins_here, ap latch_count latches_here) in
            subst (λ j. latch_count (latches_of (with_marks m page marks) j) ≤ pins_of (with_marks m page marks) j)
            (sym same) here
        | inr away ↦
            omega (
              arith,
              sound.latched_is_pinned k,
              ap (λ (a : PageMarks). a.pins) (marks_there m page marks lt k away),
              ap (λ (a : PageMarks). latch_count a.latches) (marks_there m page marks lt k away),
            )
      ]

  pub sound_with : IsSound (with_marks m page marks)
  sound_with =
      record {
        in_range = λ k frame e. sound.in_range k frame (sym (frame_kept k) ∙ e);
        no_frame_twice =
            λ p q frame ep eq. sound.no_frame_twice p q frame (sym (frame_kept p) ∙ ep) (sym (frame_kept q) ∙ eq);
        pinned_is_placed = placed_still;
        latched_is_pinned = pinned_still;
        pins_fit = omega (arith, all_pins_with m page marks lt, fits.room);
      }

-- ---- what is kept, once a page has other marks in the frame that it is in

module _ (p : Parts) (page : ℕ) (marks : PageMarks) (new : PageMap) (pins dirty : ℕ) (flushable : List Bool)
    (kept : IsKept p)
    (lt : page < page_count p.marks)
    (fits : Fits p.marks page marks)
    (dirty_is : dirty + bit (is_dirty p.marks page) ≡ p.dirty + bit marks.dirty)
    (sum : pins ≡ p.pins - pins_of p.marks page + marks.pins)
    (new_is : new ≡ with_marks p.marks page marks)
    (set_is : flushable ≡ set p.flushable page (is_flushable marks)) where
  kept_plainly : IsKept
      (record {
        marks = with_marks p.marks page marks;
        pins = pins;
        dirty = dirty;
        free = p.free;
        flushable =
            flushable;
      })
  kept_plainly =
      let m : PageMap = p.marks in
      record {
        sound = sound_with m page marks lt kept.sound fits;
        pins = omega (arith, sum, kept.pins, pins-le-all_pins m page, all_pins_with m page marks lt);
        dirty = omega (arith, dirty_is, kept.dirty, all_dirty_with m page marks lt);
        frames = kept.frames;
        free = λ frame below. (
          λ is. free_kept m page marks lt kept.sound fits frame ((kept.free frame below).0 is),
          λ free. (kept.free frame below).1 (free_before m page marks lt kept.sound fits frame free),
        );
        pages = ap length set_is ∙ length-set p.flushable page (is_flushable marks) ∙ kept.pages
            ∙ sym (length-set m.pages page marks);
        flushable = λ k.
            ap (λ s. is_member s k) set_is ∙ flushable_with m page marks lt p.flushable kept.pages kept.flushable k;
        frames_fit = kept.frames_fit;
        pages_fit = omega (arith, kept.pages_fit, ap length set_is, length-set p.flushable page (is_flushable marks));
      }

  pub kept_written : IsKept (record { marks = new; pins = pins; dirty = dirty; free = p.free; flushable = flushable })
  kept_written =
      subst (λ m. IsKept (record { marks = m; pins = pins; dirty = dirty; free = p.free; flushable = flushable }))
      (sym new_is)
      kept_plainly

-- whether it lets a flush begin then
pub flushes : (m new : PageMap) (page : ℕ) (marks : PageMarks) → page < page_count m → new ≡ with_marks m page marks
    → is_flushable (marks_of new page) ≡ is_flushable marks
flushes m new page marks lt new_is =
    ap (λ (n : PageMap). is_flushable (marks_of n page)) new_is ∙ ap is_flushable (marks_here m page marks lt)
