-- A bundle that is given back: each of its pages has as many pins less as it stands there, and none of them is latched.
use Rattle.std.proofs.Common.{◌≡◌, ◌∙◌, ◌⊎◌, ℕ, ◌+◌, ◌-◌, ◌<◌, ◌≤◌, eqb, cond, List, [], ◌∷◌, length, map}
use Rattle.std.proofs.Common.{get_or, refl, sym, ap, inl, inr, arith}
use Rattle.std.specs.Prelude.{sum_by}
use Rattle.std.proofs.lemmas.Bool.{cases_lt}
use Rattle.std.proofs.lemmas.List.{ext_get_or, get_or_past, set_past, length-set}
use Rattle.std.proofs.lemmas.List.Sums.{sum_by-cons}
use Rattle.pp_cert.specs.Held.{Holdings}
use Rattle.pp_frames.specs.Marks as marks_map
use Rattle.pp_frames.specs.Marks.{PageMap, PageMarks}
use Rattle.pp_model.specs.Pool.{Note, State, untouched}
use Rattle.pp_model.specs.Holders.{times, latches_at, is_shared, is_exclusive, pins_of, readers_of, writers_of}
use Rattle.pp_model.specs.Marks.{marks_at, marks}
use Rattle.pp_model.specs.Reached.{IsReached}
use Rattle.pp_model.proofs.ChangeTotals.{AreFree, free_weigh_nothing}
use Rattle.pp_model.proofs.Framed.{taken_low}
use Rattle.pp_model.proofs.MarkChanges.{is_free, split_all, counted, marked, Reseated, edit_here, edit_there, count_told}
use Rattle.pp_model.proofs.MarkChanges.{pins_told, latches_told, few_latches}
use Rattle.pp_model.proofs.MarkParts.{marks_is}
use Rattle.pp_model.proofs.Requests.{Which, same, other, which}
use Rattle.pp_model.proofs.Totals.{Totals, on_page, latched_on, pins_are, readers_are, writers_are}
use Rattle.pp_core.specs.Effects.{unpinned, unpinned_all, CanUnpinAll}

-- ---- the marks

-- The marks of a page with so many pins less.
abbrev lowered : PageMarks → ℕ → PageMarks
lowered x n = record x { pins = x.pins - n }

abbrev once : (p q : ℕ) → ℕ
once p q = cond (eqb p q) 1 0

unpin_one : (m : PageMap) (p q : ℕ) → marks_map.marks_of (unpinned m p) q ≡ lowered (marks_map.marks_of m q) (once p q)
unpin_one m p q = go (which p q)
  where
    with_pins_of : ℕ → PageMarks
    with_pins_of n = record (marks_map.marks_of m q) { pins = n }

    past : p ≡ q → (length m.pages ≤ p)
        → marks_map.marks_of (unpinned m p) q ≡ lowered (marks_map.marks_of m q) (once p q)
    past e le =
        let none : marks_map.pins_of m q ≡ 0 =
        ap (λ (x : PageMarks). x.pins) (get_or_past m.pages q marks_map.untouched_marks (omega (arith, le, e))) in
        let n : marks_map.pins_of m q ≡ marks_map.pins_of m q - once p q = omega (arith, none) in
        ap (λ (xs : List PageMarks). get_or xs q marks_map.untouched_marks)
        (set_past m.pages p (record (marks_map.marks_of m p) { pins = marks_map.pins_of m p - 1 }) le)
        ∙ ap with_pins_of n

    within : p ≡ q → ◌≡◌ {A = ℕ} (once p q) 1 → p < length m.pages
        → marks_map.marks_of (unpinned m p) q ≡ lowered (marks_map.marks_of m q) (once p q)
    within e one lt =
        let n : marks_map.pins_of m q - 1 ≡ marks_map.pins_of m q - once p q = omega (arith, one) in
        ap (marks_map.marks_of (unpinned m p)) (sym e)
        ∙ edit_here m p (λ (y : PageMarks). record y { pins = marks_map.pins_of m p - 1 }) lt
        ∙ ap (λ z. record (marks_map.marks_of m z) { pins = marks_map.pins_of m z - 1 }) e
        ∙ ap with_pins_of n

    go : Which p q → marks_map.marks_of (unpinned m p) q ≡ lowered (marks_map.marks_of m q) (once p q)
    go (other ne b) =
        let n : marks_map.pins_of m q ≡ marks_map.pins_of m q - once p q = omega (arith, b) in
        edit_there m p q (λ (y : PageMarks). record y { pins = marks_map.pins_of m p - 1 }) (λ e. ne (sym e))
        ∙ ap with_pins_of n
    go (same e b) = elim (cases_lt p (length m.pages)) [ inl lt ↦ within e b lt | inr le ↦ past e le ]

times_more : (p q : ℕ) (ps : List ℕ) → times q (p ∷ ps) ≡ once p q + times q ps
times_more p q ps = sum_by-cons (λ x. cond (eqb x q) 1 0) p ps

none_at : (q : ℕ) → times q [] ≡ 0
none_at q = refl

unpin_all : (ps : List ℕ) (m : PageMap) (q : ℕ)
    → marks_map.marks_of (unpinned_all ps m) q ≡ lowered (marks_map.marks_of m q) (times q ps)
unpin_all [] m q =
    let n : marks_map.pins_of m q ≡ marks_map.pins_of m q - times q [] = omega (arith, none_at q) in
    ap (λ k. record (marks_map.marks_of m q) { pins = k }) n
unpin_all (p ∷ ps) m q =
    let n : marks_map.pins_of m q - once p q - times q ps ≡ marks_map.pins_of m q - times q (p ∷ ps) =
    omega (arith, times_more p q ps) in
    unpin_all ps (unpinned m p) q
    ∙ ap (λ x. lowered x (times q ps)) (unpin_one m p q)
    ∙ ap (λ k. record (marks_map.marks_of m q) { pins = k }) n

frames_stay : (ps : List ℕ) (m : PageMap) → (unpinned_all ps m).frames ≡ m.frames
frames_stay [] m = refl
frames_stay (p ∷ ps) m = frames_stay ps (unpinned m p)

pages_stay : (ps : List ℕ) (m : PageMap) → length (unpinned_all ps m).pages ≡ length m.pages
pages_stay [] m = refl
pages_stay (p ∷ ps) m = pages_stay ps (unpinned m p) ∙ length-set m.pages p _

-- Where a page has more pins than latches and than are to go, they can go one after the other.
spare_all : (ps : List ℕ) (m : PageMap)
    → ((q : ℕ) → marks_map.latch_count (marks_map.latches_of m q) + times q ps ≤ marks_map.pins_of m q)
    → CanUnpinAll ps m
spare_all [] m h = tt
spare_all (p ∷ ps) m h = (omega (arith, h p, times_more p p ps, it (which p p)), spare_all ps (unpinned m p) next)
  where
    it : Which p p → ◌≡◌ {A = ℕ} (once p p) 1
    it (same e b) = b
    it (other ne b) = absurd (ne refl)

    next : (q : ℕ)
        → marks_map.latch_count (marks_map.latches_of (unpinned m p) q) + times q ps ≤ marks_map.pins_of (unpinned m p) q
    next q =
        omega (
          arith,
          h q,
          times_more p q ps,
          ap (λ (x : PageMarks). x.pins) (unpin_one m p q),
          ap (λ (x : PageMarks). marks_map.latch_count x.latches) (unpin_one m p q),
        )

-- ---- what goes

abbrev pub pages_of : Holdings → List ℕ
pages_of hs = map (λ h. h.page) hs

listed : (q : ℕ) (hs : Holdings) → sum_by (on_page q) hs ≡ times q (pages_of hs)
listed q [] = refl
listed q (h ∷ hs) = omega (arith, sum_by-cons (on_page q) h hs, times_more h.page q (pages_of hs), listed q hs)

free_listed : (q : ℕ) (hs : Holdings) → AreFree hs → sum_by (latched_on is_free q) hs ≡ times q (pages_of hs)
free_listed q [] all = refl
free_listed q (h ∷ hs) all =
    omega (
      arith,
      sum_by-cons (latched_on is_free q) h hs,
      times_more h.page q (pages_of hs),
      ap {B = ℕ} (λ k. cond (is_free k) (on_page q h) 0) all.0,
      free_listed q hs all.1,
    )

-- These holdings go from one state to the next, and none of them is latched.
module _ (s t : State) (reached : IsReached s) (out : Holdings) (free : AreFree out)
    (goes : Totals s t out [] [] [] [] []) (rest : Reseated s t) where
  page_now : (q : ℕ) → marks_at t q ≡ lowered (marks_at s q) (times q (pages_of out))
  page_now q =
      let c = counted s t out [] [] [] [] [] q goes in
      let readers : readers_of t q ≡ readers_of s q =
      omega (arith, c.readers, free_weigh_nothing is_shared q out refl free) in
      let writers : writers_of t q ≡ writers_of s q =
      omega (arith, c.writers, free_weigh_nothing is_exclusive q out refl free) in
      let pins : pins_of t q ≡ pins_of s q - times q (pages_of out) = omega (arith, c.pins, listed q out) in
      let note = ap (λ (x : List Note). get_or x q untouched) rest.notes in
      marked t q (lowered (marks_at s q) (times q (pages_of out))) (ap (λ (x : Note). x.frame) note) pins
      (λ i. latches_at (readers i) (writers i)) (ap (λ (x : Note). x.dirty) note) (ap (λ (x : Note). x.mark) note)

  low_page : (q : ℕ) → length s.notes ≤ q → times q (pages_of out) ≡ 0
  low_page q le = go (cases_lt 0 (times q (pages_of out)))
    where
      go : (0 < times q (pages_of out)) ⊎ (times q (pages_of out) ≤ 0) → times q (pages_of out) ≡ 0
      go (inl some) =
          let low : q < length s.notes =
          taken_low s reached q (omega (arith, some, listed q out, goes.holds (on_page q))) in
          absurd (omega (arith, low, le))
      go (inr none) = omega (arith, none)

  pub marks_after : unpinned_all (pages_of out) (marks s) ≡ marks t
  marks_after =
      let frames : (unpinned_all (pages_of out) (marks s)).frames ≡ t.settings.layout.frames =
      frames_stay (pages_of out) (marks s) ∙ sym (ap (λ k. k.layout.frames) rest.settings) in
      let notes : length t.notes ≡ length s.notes = ap (λ (x : List Note). length x) rest.notes in
      let long : length (unpinned_all (pages_of out) (marks s)).pages ≡ length (marks t).pages =
      omega (arith, pages_stay (pages_of out) (marks s), count_told s, count_told t, notes) in
      let pages : (unpinned_all (pages_of out) (marks s)).pages ≡ (marks t).pages =
      ext_get_or marks_map.untouched_marks (unpinned_all (pages_of out) (marks s)).pages (marks t).pages long
      (λ q lt.
      let low : q < length s.notes = omega (arith, lt, long, count_told t, notes) in
      unpin_all (pages_of out) (marks s) q
      ∙ ap (λ x. lowered x (times q (pages_of out))) (marks_is s q low)
      ∙ sym (page_now q)
      ∙ sym (marks_is t q (omega (arith, low, notes)))) in
      λ i. record { frames = frames i; pages = pages i }

  pub can_go : CanUnpinAll (pages_of out) (marks s)
  can_go = spare_all (pages_of out) (marks s) (λ q. go q (cases_lt q (length s.notes)))
    where
      go : (q : ℕ) → (q < length s.notes) ⊎ (length s.notes ≤ q)
          → marks_map.latch_count (marks_map.latches_of (marks s) q) + times q (pages_of out)
          ≤ marks_map.pins_of (marks s) q
      go q (inl low) =
          omega (
            arith,
            few_latches (readers_of s q) (writers_of s q),
            ap marks_map.latch_count (latches_told s q low),
            pins_told s q low,
            pins_are s q,
            readers_are s q,
            writers_are s q,
            split_all s q,
            goes.holds (latched_on is_free q),
            free_listed q out free,
          )
      go q (inr le) =
          omega (
            arith,
            low_page q le,
            ap (λ (x : PageMarks). marks_map.latch_count x.latches)
                (get_or_past (marks s).pages q marks_map.untouched_marks (omega (arith, le, count_told s))),
          )
