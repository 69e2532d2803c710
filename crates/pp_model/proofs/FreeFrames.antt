-- Where fewer pages are cached than there are frames, a frame is free: each frame that isn't has a cached page of its
-- own.
use Rattle.std.proofs.Common.{◌≡◌, ◌∙◌, ℕ, zero, suc, ◌+◌, ◌<◌, ◌≤◌, Bool, true, false, cond, Option, Some, None}
use Rattle.std.proofs.Common.{List, [], ◌∷◌, ◌++◌, length, map as mapped, refl, sym, ap, subst, inl, inr, arith}
use Rattle.std.specs.Prelude.{unwrap_or, nat_eq, not, IsSome}
use Rattle.std.specs.List.{list_any, range_with_len}
use Rattle.std.specs.Option.{option_eq}
use Rattle.std.proofs.lemmas.Bool.{cases_lt, false≢true, eq-eqb, both_ways, not-true}
use Rattle.std.proofs.lemmas.Bool.Decides.{nat_tests}
use Rattle.std.proofs.lemmas.List.{get_or_past, get_or_default, length-map, length-append}
use Rattle.std.proofs.lemmas.List.Folds.{Any-from_list_any, list_any_at}
use Rattle.std.proofs.lemmas.List.FromFn.{length-range_with_len}
use Rattle.pp_arc.specs.FourLists.{is_cached, cached_count}
use Rattle.pp_arc.proofs.StepLemmas.{times_in-cached}
use Rattle.pp_frames.specs.Least.{least_below, or_next}
use Rattle.pp_frames.specs.Marks as map
use Rattle.pp_frames.specs.Marks.{PageMarks, PageMap}
use Rattle.pp_model.specs.Pool.{Note, State, untouched, frame_of, frame_at}
use Rattle.pp_model.specs.Holders.{times}
use Rattle.pp_model.specs.Fixing.{free_frame}
use Rattle.pp_model.specs.Marks.{marks}
use Rattle.pp_model.proofs.Sums.{times-cons, spread, covers}
use Rattle.pp_model.proofs.Requests.{Which, same, other, which}
use Rattle.pp_model.proofs.Stuck.{cached_times}
use Rattle.pp_model.proofs.Places.{IsPlaced}
use Rattle.pp_model.proofs.MarkChanges.{count_told, frame_told}

-- ---- the least number that passes a test

least_some : (test : ℕ → Bool) (n k : ℕ) → least_below test n ≡ Some k → (k < n) × (test k ≡ true)
least_some test zero k e = cc
least_some test (suc n) k e = go (least_below test n) (least_some test n k) (test n) refl e
  where
    go : (o : Option ℕ) → (o ≡ Some k → (k < n) × (test k ≡ true)) → (b : Bool) → test n ≡ b
        → ◌≡◌ {A = Option ℕ} (or_next test n o) (Some k) → (k < suc n) × (test k ≡ true)
    go (Some j) all b f e = let was = all e in (omega (arith, was.0), was.1)
    go None all b f e = last b f (sym (ap {B = Option ℕ} (λ x. cond x (Some n) None) f) ∙ e)
      where
        last : (b : Bool) → test n ≡ b → ◌≡◌ {A = Option ℕ} (cond b (Some n) None) (Some k)
            → (k < suc n) × (test k ≡ true)
        last true f e = let is : n ≡ k = cc in (omega (arith, is), ap test (sym is) ∙ f)
        last false f e = cc

least_none : (test : ℕ → Bool) (n : ℕ) → least_below test n ≡ None → (k : ℕ) → k < n → test k ≡ false
least_none test zero e k lt = absurd (omega (arith, lt))
least_none test (suc n) e k lt = go (least_below test n) (least_none test n) (test n) refl e
  where
    go : (o : Option ℕ) → (o ≡ None → (k : ℕ) → k < n → test k ≡ false) → (b : Bool) → test n ≡ b
        → ◌≡◌ {A = Option ℕ} (or_next test n o) None → test k ≡ false
    go (Some j) all b f e = cc
    go None all b f e = last b f (sym (ap {B = Option ℕ} (λ x. cond x (Some n) None) f) ∙ e)
      where
        last : (b : Bool) → test n ≡ b → ◌≡◌ {A = Option ℕ} (cond b (Some n) None) None → test k ≡ false
        last true f e = cc
        last false f e = at (which k n)
          where
            at : Which k n → test k ≡ false
            at (same g j) = ap test g ∙ f
            at (other g j) = all refl k (omega (arith, lt, g))

-- ---- a free frame of the map

holds_is : (frame : ℕ) (place : Option ℕ) → option_eq nat_eq place (Some frame) ≡ true → place ≡ Some frame
holds_is frame None e = absurd (false≢true e)
holds_is frame (Some p) e = let is : p ≡ frame = grind (arith, nat_tests) in ap (λ (q : ℕ). Some q) is

free_if : (m : PageMap) (frame : ℕ) → map.is_free m frame ≡ true → map.IsFree m frame
free_if m frame free page there =
    elim (cases_lt page (length m.pages)) [
      | inl lt ↦
          let in_it : map.is_in frame (map.marks_of m page) ≡ true =
          ap (λ o. option_eq nat_eq o (Some frame)) there ∙ eq-eqb frame frame refl in
          both_ways (list_any (map.is_in frame) m.pages) (not-true (list_any (map.is_in frame) m.pages) free)
          (list_any_at (map.is_in frame) m.pages page map.untouched_marks lt in_it)
      | inr le ↦
          let none : None ≡ Some frame =
          sym (ap (λ (k : PageMarks). k.frame) (get_or_past m.pages page map.untouched_marks le)) ∙ there in
          absurd (grind (arith, none))
    ]

not_false : (b : Bool) → not b ≡ false → b ≡ true
not_false true e = refl
not_false false e = cc

taken_if : (m : PageMap) (frame : ℕ) → map.is_free m frame ≡ false → (page : ℕ) × (map.frame_of m page ≡ Some frame)
taken_if m frame isnt =
    let any = Any-from_list_any (map.is_in frame) m.pages (not_false (list_any (map.is_in frame) m.pages) isnt) in
    let page : ℕ = any.0 in
    let marks : PageMarks = any.1 in
    let is : map.marks_of m page ≡ marks = get_or_default m.pages page map.untouched_marks marks any.2 ∙ any.3 in
    (page, ap (λ (k : PageMarks). k.frame) is ∙ holds_is frame marks.frame any.4)

-- The map's frame of a page is the one that is noted, also of a page past the last one.
pub frame_is : (s : State) (q : ℕ) → map.frame_of (marks s) q ≡ frame_of s q
frame_is s q =
    elim (cases_lt q (length s.notes)) [
      | inl lt ↦ frame_told s q lt
      | inr le ↦
          ap (λ (k : PageMarks). k.frame)
          (get_or_past (marks s).pages q map.untouched_marks (omega (arith, le, count_told s)))
          ∙ sym (ap (λ (k : Note). k.frame) (get_or_past s.notes q untouched le))
    ]

-- ---- counting frames

range_below : (a n k : ℕ) → k < a → times k (range_with_len a n) ≡ 0
range_below a zero k lt = refl
range_below a (suc n) k lt = go (which a k) (range_below (a + 1) n k (omega (arith, lt)))
  where
    go : Which a k → times k (range_with_len (a + 1) n) ≡ 0 → times k (range_with_len a (suc n)) ≡ 0
    go (same e f) rest = absurd (omega (arith, lt, e))
    go (other e f) rest = omega (arith, times-cons k a (range_with_len (a + 1) n), f, rest)

pub range_once : (a n k : ℕ) → times k (range_with_len a n) ≤ 1
range_once a zero k = omega arith
range_once a (suc n) k = go (which a k) (range_once (a + 1) n k)
  where
    go : Which a k → times k (range_with_len (a + 1) n) ≤ 1 → times k (range_with_len a (suc n)) ≤ 1
    go (same e f) all =
        omega (
          arith,
          times-cons k a (range_with_len (a + 1) n),
          f,
          range_below (a + 1) n k (omega (arith, e)),
        )
    go (other e f) all = omega (arith, times-cons k a (range_with_len (a + 1) n), f, all)

range_has : (a n k : ℕ) → 0 < times k (range_with_len a n) → k < a + n
range_has a zero k some = absurd (omega (arith, some))
range_has a (suc n) k some = go (which a k) (range_has (a + 1) n k)
  where
    go : Which a k → (0 < times k (range_with_len (a + 1) n) → k < (a + 1) + n) → k < a + suc n
    go (same e f) all = omega (arith, e)
    go (other e f) all =
        omega (arith, all (omega (arith, some, times-cons k a (range_with_len (a + 1) n), f)))

times_mapped : (f : ℕ → ℕ) (xs : List ℕ) (q k : ℕ) → 0 < times q xs → f q ≡ k → 0 < times k (mapped f xs)
times_mapped f [] q k some e = absurd (omega (arith, some))
times_mapped f (x ∷ xs) q k some e = go (which x q) (times_mapped f xs q k)
  where
    go : Which x q → (0 < times q xs → f q ≡ k → 0 < times k (mapped f xs)) → 0 < times k (f x ∷ mapped f xs)
    go (same d g) all = at (which (f x) k)
      where
        at : Which (f x) k → 0 < times k (f x ∷ mapped f xs)
        at (same u v) = omega (arith, times-cons k (f x) (mapped f xs), v)
        at (other u v) = absurd (u (ap f d ∙ e))
    go (other d g) all =
        omega (arith, times-cons k (f x) (mapped f xs), all (omega (arith, some, times-cons q x xs, g)) e)

-- Where each frame has a page, there are as many cached pages as frames.
module _ (s : State)
    (h : IsPlaced s.settings.layout.frames (λ q. is_cached s.lists q ≡ true) (frame_of s)) where
  all_taken : ((k : ℕ) → k < s.settings.layout.frames → (q : ℕ) × (frame_of s q ≡ Some k))
      → s.settings.layout.frames ≤ cached_count s.lists
  all_taken each =
      let n = s.settings.layout.frames in
      let cached = s.lists.t1 ++ s.lists.t2 in
      let frames = mapped (frame_at s) cached in
      let some : (k : ℕ) → 0 < times k (range_with_len 0 n) → 0 < times k frames = λ k in_it.
      let has = each k (omega (arith, range_has 0 n k in_it)) in
      let here : is_cached s.lists has.0 ≡ true =
      h.cached has.0 (subst (λ (x : Option ℕ). IsSome x) (sym has.1) refl) in
      times_mapped (frame_at s) cached has.0 k
      (omega (arith, cached_times s.lists has.0, times_in-cached s.lists has.0 here))
      (ap (λ (o : Option ℕ). unwrap_or o 0) has.1) in
      omega (
        arith,
        covers (λ k. times k frames) (range_with_len 0 n) some,
        spread (range_with_len 0 n) frames (range_once 0 n),
        length-range_with_len 0 n,
        length-map cached (frame_at s),
        length-append s.lists.t1 s.lists.t2,
      )

-- The least free frame is one of the pool's, and no page is in it.
pub record HasFree (s : State) : Type 0 where
  pub is : map.least_free (marks s) ≡ Some (free_frame s)
  pub low : free_frame s < s.settings.layout.frames
  pub free : map.IsFree (marks s) (free_frame s)
  pub nobody : (q : ℕ) → frame_of s q ≡ Some (free_frame s) → ⊥

pub has_free : (s : State) → IsPlaced s.settings.layout.frames (λ q. is_cached s.lists q ≡ true) (frame_of s)
    → cached_count s.lists < s.settings.layout.frames → HasFree s
has_free s h few = go (map.least_free (marks s)) refl
  where
    go : (o : Option ℕ) → map.least_free (marks s) ≡ o → HasFree s
    go (Some k) e =
        let at : free_frame s ≡ k = ap (λ (o : Option ℕ). unwrap_or o 0) e in
        let found = least_some (map.is_free (marks s)) s.settings.layout.frames k e in
        let free : map.IsFree (marks s) (free_frame s) =
        subst (map.IsFree (marks s)) (sym at) (free_if (marks s) k found.1) in
        record {
          is = e ∙ ap (λ (x : ℕ). Some x) (sym at);
          low = omega (arith, found.0, at);
          free = free;
          nobody = λ q is. free q (frame_is s q ∙ is);
        }
    go None e =
        let each : (k : ℕ) → k < s.settings.layout.frames → (q : ℕ) × (frame_of s q ≡ Some k) = λ k lt.
        let has = taken_if (marks s) k (least_none (map.is_free (marks s)) s.settings.layout.frames e k lt) in
        (has.0, sym (frame_is s has.0) ∙ has.1) in
        absurd (omega (arith, few, all_taken s h each))
