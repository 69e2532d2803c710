-- The marks of all pages, page by page.
use Rattle.std.proofs.Common.{◌≡◌, ◌≢◌, ◌∙◌, ℕ, zero, suc, ◌+◌, ◌<◌, ◌≤◌, ◌∷◌, length, map, refl, sym, ap, arith}
use Rattle.std.specs.Prelude.{slice_set}
use Rattle.std.specs.List.{range_with_len}
use Rattle.std.proofs.lemmas.List.FromFn.{get_or-map-range_with_len}
use Rattle.pp_frames.specs.Marks.{marks_of, with_marks, untouched_marks}
use Rattle.pp_model.specs.Pool.{State}
use Rattle.pp_model.specs.Marks.{marks_at, marks}

-- Two functions that agree from a number on give the same list from there on.
same_from : {A : Type 0} (f g : ℕ → A) (from n : ℕ) → ((q : ℕ) → from ≤ q → g q ≡ f q)
    → map g (range_with_len from n) ≡ map f (range_with_len from n)
same_from f g from zero h = refl
same_from f g from (suc n) h =
    let tail = same_from f g (from + 1) n (λ q le. h q (omega (arith, le))) in
    let head = h from (omega arith) in
    λ i. head i ∷ tail i

-- Two that agree but at one number give lists that differ in one place.
one_place : {A : Type 0} (f g : ℕ → A) (from n page : ℕ) → ((q : ℕ) → q ≢ from + page → g q ≡ f q)
    → map g (range_with_len from n) ≡ slice_set (map f (range_with_len from n)) page (g (from + page))
one_place f g from zero page others = refl
one_place f g from (suc n) zero others =
    let same : from ≡ from + 0 = omega arith in
    let tail = same_from f g (from + 1) n (λ q le. others q (λ e. absurd (omega (arith, le, e)))) in
    λ i. g (same i) ∷ tail i
one_place f g from (suc n) (suc page) others =
    let at : (from + 1) + page ≡ from + suc page = omega arith in
    let tail = one_place f g (from + 1) n page (λ q ne. others q (λ e. ne (e ∙ sym at)))
    ∙ ap (λ k. slice_set (map f (range_with_len (from + 1) n)) page (g k)) at in
    let head = others from (λ e. absurd (omega (arith, e))) in
    λ i. head i ∷ tail i

-- What is marked of a page of the pool.
pub marks_is : (s : State) (page : ℕ) → page < length s.notes → marks_of (marks s) page ≡ marks_at s page
marks_is s page lt = get_or-map-range_with_len (marks_at s) 0 (length s.notes) page page untouched_marks lt
    (omega arith)

-- Where the marks of one page alone are others, the whole map is the old one with these.
pub one_page : (s t : State) (page : ℕ) → s.settings.layout.frames ≡ t.settings.layout.frames
    → length s.notes ≡ length t.notes → ((q : ℕ) → q ≢ page → marks_at t q ≡ marks_at s q)
    → marks t ≡ with_marks (marks s) page (marks_at t page)
one_page s t page e f others =
    let at : 0 + page ≡ page = omega arith in
    let pages = ap (λ n. map (marks_at t) (range_with_len 0 n)) (sym f)
    ∙ one_place (marks_at s) (marks_at t) 0 (length s.notes) page (λ q ne. others q (λ e. ne (e ∙ sym at)))
    ∙ ap (λ k. slice_set (map (marks_at s) (range_with_len 0 (length s.notes))) page (marks_at t k)) at in
    λ i. record { frames = sym e i; pages = pages i }
