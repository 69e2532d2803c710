-- A change of one page's marks, and a request to the directory, leave what the tiny cache keeps true.
use Rattle.std.proofs.Common.{◌≡◌, ◌≢◌, ℕ, Option, None, set, ap, sym, subst, ◌∙◌, refl, inl, inr, arith}
use Rattle.std.specs.Prelude.{IsSome, IsTrue}
use Rattle.std.proofs.lemmas.Bool.{cases_lt, cases_eq, false≢true, lt-ltb, ltb-true}
use Rattle.std.proofs.lemmas.List.{get_or_past, get_or-set_same, get_or-set_other, length-set, set_past}
use Rattle.std.proofs.lemmas.List.Sums.{sum_by-set}
use Rattle.pp_arc.specs.declared.answer.Answer.TheVariants.{Hit, Free, Evict}
use Rattle.pp_arc.specs.FourLists.{FourLists, is_cached}
use Rattle.pp_arc.specs.Laws.{CachesInstead}
use Rattle.pp_frames.specs.Marks.{PageMarks, PageMap, untouched_marks, page_count, marks_of, frame_of, pins_of, latch_count}
use Rattle.pp_frames.specs.Marks.{with_marks, with_frame, with_pins, all_pins, IsSound}
use Rattle.std.proofs.Common.{List, ◌+◌, ◌<◌, true, false, get_or}
use Rattle.std.specs.Prelude.{nat_lt, sum_by}
use Rattle.pp_callers.specs.Cache.{AreOfOneCache, is_pinned}

-- A part of the marks that one page's new marks have from its old ones is the same for every page.
marks_kept : {X : Type 0} (g : PageMarks → X) (m : PageMap) (page : ℕ) (a : PageMarks) → g a ≡ g (marks_of m page)
    → (q : ℕ) → g (marks_of (with_marks m page a) q) ≡ g (marks_of m q)
marks_kept g m page a same q =
    elim (cases_eq q page) [
      | inl is ↦ rw is (here page a same)
      | inr away ↦ ap g (get_or-set_other m.pages page q a untouched_marks away)
    ]
  where
    here : (p : ℕ) (b : PageMarks) → g b ≡ g (marks_of m p) → g (marks_of (with_marks m p b) p) ≡ g (marks_of m p)
    here p b is =
        elim (cases_lt p (page_count m)) [
          | inl lt ↦ ap g (get_or-set_same m.pages p b untouched_marks lt) ∙ is
          | inr le ↦
              ap g (get_or_past (set m.pages p b) p untouched_marks (omega (arith, le, length-set m.pages p b)))
              ∙ ap g (sym (get_or_past m.pages p untouched_marks le))
        ]

-- A page that is cleared is in no frame.
cleared : (m : PageMap) (v : ℕ) → frame_of (with_frame m v None) v ≡ None
cleared m v =
    let a : PageMarks = record (marks_of m v) { frame = None } in
    elim (cases_lt v (page_count m)) [
      | inl lt ↦ ap (λ (b : PageMarks). b.frame) (get_or-set_same m.pages v a untouched_marks lt)
      | inr le ↦
          ap (λ (b : PageMarks). b.frame)
          (get_or_past (set m.pages v a) v untouched_marks (omega (arith, le, length-set m.pages v a)))
    ]

-- Each other page stays in its frame.
pub stays : (m : PageMap) (page : ℕ) (f : Option ℕ) (q : ℕ) → q ≢ page → frame_of (with_frame m page f) q ≡ frame_of m q
stays m page f q away =
    let a : PageMarks = record (marks_of m page) { frame = f } in
    ap (λ (b : PageMarks). b.frame) (get_or-set_other m.pages page q a untouched_marks away)

some_there : (o p : Option ℕ) → o ≡ p → IsSome o → IsSome p
some_there o p e some = subst (λ (x : Option ℕ). IsSome x) e some

none_there : (o : Option ℕ) → o ≡ None → IsSome o → ⊥
none_there o e some = false≢true (some_there o None e some)

-- ---- the cache after a change

pub after_pins : (s : FourLists) (m : PageMap) (page k : ℕ) → AreOfOneCache s m → AreOfOneCache s (with_pins m page k)
after_pins s m page k h =
    let a : PageMarks = record (marks_of m page) { pins = k } in
    record {
      pages = h.pages;
      marked_pages = length-set m.pages page a ∙ h.marked_pages;
      frames = h.frames;
      cached = λ q some. h.cached q (some_there _ _ (marks_kept (λ (b : PageMarks). b.frame) m page a refl q) some);
      unlatched = λ q.
          ap latch_count (marks_kept (λ (b : PageMarks). b.latches) m page a refl q) ∙ h.unlatched q;
    }

pub after_hit : (s t : FourLists) (m : PageMap) (page : ℕ) → AreOfOneCache s m → CachesInstead s t page Hit
    → t.pages ≡ s.pages → AreOfOneCache t m
after_hit s t m page h caches pages = record {
  pages = pages ∙ h.pages;
  marked_pages = h.marked_pages;
  frames = h.frames;
  cached = λ q some. (caches q).1 (inr (h.cached q some, λ e. cc));
  unlatched = h.unlatched;
}

pub after_free : (s t : FourLists) (m : PageMap) (page : ℕ) (f : Option ℕ) → AreOfOneCache s m
    → CachesInstead s t page Free → t.pages ≡ s.pages → AreOfOneCache t (with_frame m page f)
after_free s t m page f h caches pages =
    let a : PageMarks = record (marks_of m page) { frame = f } in
    record {
      pages = pages ∙ h.pages;
      marked_pages = length-set m.pages page a ∙ h.marked_pages;
      frames = h.frames;
      cached = λ q some.
          elim (cases_eq q page) [
            | inl is ↦ (caches q).1 (inl is)
            | inr away ↦ (caches q).1 (inr (h.cached q (some_there _ _ (stays m page f q away) some), λ e. cc))
          ];
      unlatched = λ q.
          ap latch_count (marks_kept (λ (b : PageMarks). b.latches) m page a refl q) ∙ h.unlatched q;
    }

pub after_evict : (s t : FourLists) (m : PageMap) (page victim : ℕ) (f : Option ℕ) → AreOfOneCache s m
    → CachesInstead s t page (Evict victim) → t.pages ≡ s.pages
    → AreOfOneCache t (with_frame (with_frame m victim None) page f)
after_evict s t m page victim f h caches pages =
    let n : PageMap = with_frame m victim None in
    let a : PageMarks = record (marks_of n page) { frame = f } in
    let b : PageMarks = record (marks_of m victim) { frame = None } in
    record {
      pages = pages ∙ h.pages;
      marked_pages = length-set n.pages page a ∙ length-set m.pages victim b ∙ h.marked_pages;
      frames = h.frames;
      cached = λ q some.
          elim (cases_eq q page) [
            | inl is ↦ (caches q).1 (inl is)
            | inr away ↦ by q (some_there _ _ (stays n page f q away) some)
          ];
      unlatched = λ q.
          ap latch_count (marks_kept (λ (x : PageMarks). x.latches) n page a refl q)
          ∙ ap latch_count (marks_kept (λ (x : PageMarks). x.latches) m victim b refl q)
          ∙ h.unlatched q;
    }
  where
    by : (q : ℕ) → IsSome (frame_of (with_frame m victim None) q) → IsTrue (is_cached t q)
    by q some =
        elim (cases_eq q victim) [
          | inl is ↦ absurd (none_there (frame_of (with_frame m victim None) q) (rw is (cleared m victim)) some)
          | inr away ↦
              (caches q).1 (inr (h.cached q (some_there _ _ (stays m victim None q away) some), λ e. away (other e)))
        ]
      where
        other : Evict victim ≡ Evict q → q ≡ victim
        other e = cc

-- the pins of another page stay
pub pins_there : (m : PageMap) (page k q : ℕ) → q ≢ page → pins_of (with_pins m page k) q ≡ pins_of m q
pins_there m page k q away =
    ap (λ (b : PageMarks). b.pins)
    (get_or-set_other m.pages page q (record (marks_of m page) { pins = k }) untouched_marks away)

-- a page that gets a frame, or loses it, keeps its pins, and so does every other page
pub pins_framed : (m : PageMap) (page q : ℕ) (frame : Option ℕ) → pins_of (with_frame m page frame) q ≡ pins_of m q
pins_framed m page q frame =
    marks_kept (λ (b : PageMarks). b.pins) m page (record (marks_of m page) { frame = frame }) refl q

-- what is pinned stays pinned where one page gets a pin
pub pinned_still : (m : PageMap) (page y : ℕ) → is_pinned m y ≡ true
    → is_pinned (with_pins m page (pins_of m page + 1)) y ≡ true
pinned_still m page y held =
    let a : PageMarks = record (marks_of m page) { pins = pins_of m page + 1 } in
    elim (cases_lt page (page_count m)) [
      | inr le ↦ ap (λ (ps : List PageMarks). nat_lt 0 (get_or ps y untouched_marks).pins) (set_past m.pages page a le) ∙ held
      | inl lt ↦ elim (cases_eq y page) [
        | inr away ↦ ap (nat_lt 0) (pins_there m page (pins_of m page + 1) y away) ∙ held
        | inl is ↦ rw is (ap (λ (b : PageMarks). nat_lt 0 b.pins) (get_or-set_same m.pages page a untouched_marks lt)
            ∙ lt-ltb 0 (pins_of m page + 1) (omega arith))
      ]
    ]

-- a page that gets a frame, or loses it, changes no pins
pub all_pins_framed : (m : PageMap) (page : ℕ) (frame : Option ℕ) → all_pins (with_frame m page frame) ≡ all_pins m
all_pins_framed m page frame =
    let a : PageMarks = record (marks_of m page) { frame = frame } in
    elim (cases_lt page (page_count m)) [
      | inl lt ↦ omega (arith, sum_by-set (λ (b : PageMarks). b.pins) m.pages page a untouched_marks lt)
      | inr le ↦ ap (λ (ps : List PageMarks). sum_by (λ (b : PageMarks). b.pins) ps) (set_past m.pages page a le)
    ]

-- a page whose pins change stays in its frame, and so does every other one
pub frame_pinned : (m : PageMap) (page k q : ℕ) → frame_of (with_pins m page k) q ≡ frame_of m q
frame_pinned m page k q =
    marks_kept (λ (b : PageMarks). b.frame) m page (record (marks_of m page) { pins = k }) refl q

-- a page that isn't cached isn't the pinned one
pub pinned_away : (s : FourLists) (m : PageMap) (page q : ℕ) → IsSound m → AreOfOneCache s m
    → (is_cached s page ≡ true → ⊥) → is_pinned m q ≡ true → q ≢ page
pinned_away s m page q sound one away held = λ is.
    let lt : 0 < pins_of m q = omega (arith, ltb-true 0 (pins_of m q) held) in
    away (subst (λ (i : ℕ). is_cached s i ≡ true) is (one.cached q (sound.pinned_is_placed q lt)))

-- a page that isn't pinned isn't the pinned one
pub pinned_other : (m : PageMap) (victim q : ℕ) → is_pinned m victim ≡ false → is_pinned m q ≡ true → q ≢ victim
pinned_other m victim q free held = λ is.
    false≢true (sym free ∙ subst (λ (i : ℕ). is_pinned m i ≡ true) is held)
