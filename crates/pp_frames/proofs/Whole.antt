-- What is asked of the whole map: the least free frame, and the least page that lets a flush begin.
use Rattle.std.proofs.Common.{◌≡◌, ℕ, ◌<◌, ◌≤◌, Bool, true, false, leb, not, ◌&&◌, length, Option, Some, None, refl, ap}
use Rattle.std.proofs.Common.{sym, ◌∙◌, arith, inl, inr}
use Rattle.std.proofs.lemmas.Bool.Decides.{nat_tests}
use Rattle.std.proofs.lemmas.Bool.{cases_lt, false≢true, eq-eqb, and_parts, and_from, both_ways, leb-true, le-leb}
use Rattle.std.proofs.lemmas.Bool.{false_from_ne_true, not-true}
use Rattle.std.proofs.lemmas.List.{get_or_past, get_or_default}
use Rattle.std.proofs.lemmas.List.Folds.{Any-from_list_any, list_any_at}
use Rattle.std.specs.Prelude.{IsNone, is_some, nat_le, nat_eq, IfSome}
use Rattle.std.specs.Option.{option_or, option_eq}
use Rattle.std.specs.List.{list_any}
use Rattle.pp_frames.specs.Least.{least_below, IsLeast, FirstBelow, first, nowhere}
use Rattle.pp_frames.specs.Numbers.{is_member, least_from}
use Rattle.pp_frames.specs.Marks.{is_exclusive, PageMarks, PageMap, page_count, untouched_marks, marks_of, frame_of}
use Rattle.pp_frames.specs.Marks.{latches_of, is_dirty, is_in, is_free, is_flushable, least_free, least_flushable}
use Rattle.pp_frames.specs.Marks.{dirty_from, IsFree, IsFlushable}
use Rattle.pp_frames.specs.Kept.{Parts, IsKept}
use Rattle.pp_frames.proofs.Firsts.{least_first, same_first, retest}

-- ---- free frames

pub same_Bool : (a b : Bool) → (a ≡ true → b ≡ true) → (b ≡ true → a ≡ true) → a ≡ b
same_Bool true b to from = sym (to refl)
same_Bool false true to from = from refl
same_Bool false false to from = refl

holds_is : (frame : ℕ) (place : Option ℕ) → option_eq nat_eq place (Some frame) ≡ true → place ≡ Some frame
holds_is frame None e = absurd (false≢true e)
holds_is frame (Some p) e = let same : p ≡ frame = grind (arith, nat_tests) in ap (λ (q : ℕ). Some q) same

module _ (m : PageMap) (frame : ℕ) where
  none_in_frame : IsFree m frame → list_any (is_in frame) m.pages ≡ false
  none_in_frame free =
      false_from_ne_true (list_any (is_in frame) m.pages) (λ e.
      let any = Any-from_list_any (is_in frame) m.pages e in
      let page : ℕ = any.0 in
      let marks : PageMarks = any.1 in
      let is : marks_of m page ≡ marks = get_or_default m.pages page untouched_marks marks any.2 ∙ any.3 in
      free page (ap (λ (k : PageMarks). k.frame) is ∙ holds_is frame marks.frame any.4))

  pub is_free_if : IsFree m frame → is_free m frame ≡ true
  is_free_if free = ap not (none_in_frame free)

  pub free_if : is_free m frame ≡ true → IsFree m frame
  free_if free page there =
      elim (cases_lt page (length m.pages)) [
        | inl lt ↦
            let in_it : is_in frame (marks_of m page) ≡ true =
            ap (λ o. option_eq nat_eq o (Some frame)) there ∙ eq-eqb frame frame refl in
            both_ways (list_any (is_in frame) m.pages) (not-true (list_any (is_in frame) m.pages) free)
            (list_any_at (is_in frame) m.pages page untouched_marks lt in_it)
        | inr le ↦
            let none : None ≡ Some frame =
            sym (ap (λ (k : PageMarks). k.frame) (get_or_past m.pages page untouched_marks le)) ∙ there in
            absurd (grind (arith, none))
      ]

-- the least member of the set of free frames
pub least_free_is : (p : Parts) → IsKept p → least_from p.free 0 ≡ least_free p.marks
least_free_is p kept =
    same_first (is_free p.marks) (length p.free) (least_from p.free 0) (least_below (is_free p.marks) (length p.free))
    (retest (λ k. nat_le 0 k && is_member p.free k) (is_free p.marks) (length p.free) (least_from p.free 0)
    (λ k lt.
    same_Bool (nat_le 0 k && is_member p.free k) (is_free p.marks k)
    (λ e. is_free_if p.marks k ((kept.free k lt).0 (and_parts (leb 0 k) (is_member p.free k) e).1))
    (λ e.
    and_from (leb 0 k) (is_member p.free k) (le-leb 0 k (omega arith)) ((kept.free k lt).1 (free_if p.marks k e))))
    (least_first (λ k. nat_le 0 k && is_member p.free k) (length p.free)))
    (least_first (is_free p.marks) (length p.free))
    ∙ ap (least_below (is_free p.marks)) kept.frames

module _ (m : PageMap) (answer : Option ℕ) (exact : answer ≡ least_free m) where
  found_free : FirstBelow (is_free m) m.frames answer
  found_free = rw exact (least_first (is_free m) m.frames)

  pub no_free : IsNone answer → (frame : ℕ) → frame < m.frames → IsFree m frame → ⊥
  no_free none frame lt free =
      elim found_free [
        | first i is below passes fails ↦ absurd (both_ways (is_some answer) none (ap is_some is))
        | nowhere is fails ↦ both_ways (is_free m frame) (fails frame lt) (is_free_if m frame free)
      ]

  pub none_free : ((frame : ℕ) → frame < m.frames → IsFree m frame → ⊥) → IsNone answer
  none_free busy =
      elim found_free [
        | first i is below passes fails ↦ absurd (busy i below (free_if m i passes))
        | nowhere is fails ↦ ap is_some is
      ]

  pub least_is_free : IfSome answer (IsLeast (λ frame. (frame < m.frames) × IsFree m frame))
  least_is_free =
      elim found_free [
        | first i is below passes fails ↦
            rw is (record {
              passes = (below, free_if m i passes);
              least = λ k free. elim (cases_lt k i) [
                | inl lt ↦ absurd (both_ways (is_free m k) (fails k lt) (is_free_if m k free.1))
                | inr le ↦ le
              ];
            })
        | nowhere is fails ↦ rw is tt
      ]

-- ---- pages to be flushed

module _ (m : PageMap) (page : ℕ) where
  pub is_flushable_if : IsFlushable m page → is_flushable (marks_of m page) ≡ true
  is_flushable_if fit =
      and_from (is_dirty m page && is_some (frame_of m page)) (not (is_exclusive (latches_of m page)))
      (and_from (is_dirty m page) (is_some (frame_of m page)) fit.dirty fit.placed)
      (ap not fit.no_writer)

  pub flushable_if : is_flushable (marks_of m page) ≡ true → IsFlushable m page
  flushable_if passes =
      let parts =
      and_parts (is_dirty m page && is_some (frame_of m page)) (not (is_exclusive (latches_of m page))) passes in
      let two = and_parts (is_dirty m page) (is_some (frame_of m page)) parts.0 in
      record { dirty = two.0; placed = two.1; no_writer = not-true (is_exclusive (latches_of m page)) parts.1 }

  flushable_below : IsFlushable m page → page < page_count m
  flushable_below fit =
      elim (cases_lt page (page_count m)) [
        | inl lt ↦ lt
        | inr le ↦
            let clean : is_dirty m page ≡ false =
            ap (λ (k : PageMarks). k.dirty) (get_or_past m.pages page untouched_marks le) in
            absurd (both_ways (is_dirty m page) clean fit.dirty)
      ]

-- the test for a page from n on
abbrev pub passes_from : PageMap → ℕ → ℕ → Bool
passes_from m n page = nat_le n page && is_flushable (marks_of m page)

module _ (m : PageMap) (n page : ℕ) where
  from_on : passes_from m n page ≡ true → (n ≤ page) × IsFlushable m page
  from_on passes =
      let parts = and_parts (leb n page) (is_flushable (marks_of m page)) passes in
      (leb-true n page parts.0, flushable_if m page parts.1)

  on_from : n ≤ page → IsFlushable m page → passes_from m n page ≡ true
  on_from le fit =
      and_from (leb n page) (is_flushable (marks_of m page)) (le-leb n page le) (is_flushable_if m page fit)

module _ (m : PageMap) (n : ℕ) (answer : Option ℕ) (exact : answer ≡ dirty_from m n) where
  found_on : FirstBelow (passes_from m n) (page_count m) (least_flushable m n)
  found_on = least_first (passes_from m n) (page_count m)

  found_all : FirstBelow (passes_from m 0) (page_count m) (least_flushable m 0)
  found_all = least_first (passes_from m 0) (page_count m)

  none_below : (k : ℕ) → passes_from m k k ≡ false → IsFlushable m k → ⊥
  none_below k fails fit = both_ways (passes_from m k k) fails (on_from m k k (omega arith) fit)

  fails_at : (k : ℕ) (p : ℕ) → ((j : ℕ) → j < page_count m → passes_from m k j ≡ false) → k ≤ p → IsFlushable m p → ⊥
  fails_at k p fails le fit = both_ways (passes_from m k p) (fails p (flushable_below m p fit)) (on_from m k p le fit)

  -- what the answer is: the first from n on, or the first of all
  pub data Answers : Type 0 where
    onward : (i : ℕ) → answer ≡ Some i → n ≤ i → IsFlushable m i → ((k : ℕ) → n ≤ k → IsFlushable m k → i ≤ k) → Answers
    around : (i : ℕ) → answer ≡ Some i → i < n → IsFlushable m i → ((k : ℕ) → IsFlushable m k → i ≤ k)
        → ((k : ℕ) → n ≤ k → IsFlushable m k → ⊥) → Answers
    nothing : answer ≡ None → ((k : ℕ) → IsFlushable m k → ⊥) → Answers

  least_of : (at i : ℕ) → ((k : ℕ) → k < i → passes_from m at k ≡ false) → (k : ℕ) → at ≤ k → IsFlushable m k → i ≤ k
  least_of at i fails k le fit =
      elim (cases_lt k i) [
        | inl lt ↦ absurd (both_ways (passes_from m at k) (fails k lt) (on_from m at k le fit))
        | inr ge ↦ ge
      ]

  pub answers : Answers
  answers =
      elim found_on [
        | first i is below passes fails ↦
            let fit = from_on m n i passes in
            onward i (exact ∙ ap (λ a. option_or a (least_flushable m 0)) is) fit.0 fit.1 (least_of n i fails)
        | nowhere is fails ↦
            let then : answer ≡ least_flushable m 0 = exact ∙ ap (λ a. option_or a (least_flushable m 0)) is in
            elim found_all [
              | first i is_too below passes fails_too ↦
                  let fit = from_on m 0 i passes in
                  elim (cases_lt i n) [
                    | inl lt ↦ around i (then ∙ is_too) lt fit.1 (λ k. least_of 0 i fails_too k (omega arith))
                        (λ k. fails_at n k fails)
                    | inr le ↦ absurd (fails_at n i fails le fit.1)
                  ]
              | nowhere is_too fails_too ↦ nothing (then ∙ is_too) (λ k. fails_at 0 k fails_too (omega arith))
            ]
      ]

  pub no_dirty : IsNone answer → (page : ℕ) → IsFlushable m page → ⊥
  no_dirty none =
      elim answers [
        | onward i is le fit least ↦ absurd (both_ways (is_some answer) none (ap is_some is))
        | around i is lt fit least no_more ↦ absurd (both_ways (is_some answer) none (ap is_some is))
        | nothing is never ↦ never
      ]

  pub none_dirty : ((page : ℕ) → IsFlushable m page → ⊥) → IsNone answer
  none_dirty never =
      elim answers [
        | onward i is le fit least ↦ absurd (never i fit)
        | around i is lt fit least no_more ↦ absurd (never i fit)
        | nothing is never_too ↦ ap is_some is
      ]

  pub least_onward : IfSome answer (λ page. n ≤ page → IsLeast (λ p. (n ≤ p) × IsFlushable m p) page)
  least_onward =
      elim answers [
        | onward i is le fit least ↦ rw is (λ _. record { passes = (le, fit); least = λ k on. least k on.0 on.1 })
        | around i is lt fit least no_more ↦ rw is (λ le. absurd (omega arith))
        | nothing is never ↦ rw is tt
      ]

  pub least_around : IfSome answer (λ page. page < n → IsLeast (IsFlushable m) page)
  least_around =
      elim answers [
        | onward i is le fit least ↦ rw is (λ lt. absurd (omega arith))
        | around i is lt fit least no_more ↦ rw is (λ _. record { passes = fit; least = least })
        | nothing is never ↦ rw is tt
      ]

  pub none_onward : IfSome answer (λ page. page < n → (p : ℕ) → n ≤ p → IsFlushable m p → ⊥)
  none_onward =
      elim answers [
        | onward i is le fit least ↦ rw is (λ lt. absurd (omega arith))
        | around i is lt fit least no_more ↦ rw is (λ _. no_more)
        | nothing is never ↦ rw is tt
      ]
