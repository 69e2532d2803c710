-- How the marks of all pages follow from what a move does to the notes, and to the pins and latches of one page.
use Rattle.std.proofs.Common.{◌≡◌, ◌≢◌, ◌∙◌, ℕ, ◌+◌, ◌<◌, ◌≤◌, Bool, true, false, eqb, cond, Option, Some, None, List}
use Rattle.std.proofs.Common.{[], ◌∷◌, length, get_or, map as mapped, refl, sym, ap, inl, inr, arith}
use Rattle.std.specs.Prelude.{slice_set, sum_by, nat_lt, ◌==◌}
use Rattle.std.specs.List.{range_with_len}
use Rattle.std.proofs.lemmas.Bool.{cases_lt}
use Rattle.std.proofs.lemmas.Bool.Decides.{nat_tests}
use Rattle.std.proofs.lemmas.List.{get_or-set_same, get_or-set_other, length-set, set-set, set_past, length-map}
use Rattle.std.proofs.lemmas.List.FromFn.{length-range_with_len}
use Rattle.std.proofs.lemmas.List.Sums.{sum_by-cons, sum_by-set}
use Rattle.pp_cert.specs.declared.note.Held.{Held}
use Rattle.pp_cert.specs.declared.note.Held.TheVariants.{Free, S, X}
use Rattle.pp_cert.specs.Held.{Holding, Holdings, holding_at}
use Rattle.pp_frames.specs.Marks as map
use Rattle.pp_frames.specs.Marks.{PageMarks, PageMap, Latches, with_marks, marks_of}
use Rattle.pp_model.specs.Pool.{Running, Note, State, untouched, note_of, frame_of, mark_at}
use Rattle.pp_model.specs.Holders.{times, holdings, latches_at, is_shared, is_exclusive, pins_of, readers_of}
use Rattle.pp_model.specs.Holders.{writers_of, latches_of, takes, latched_by}
use Rattle.pp_model.specs.Outcome.{with_note, with_frame, with_dirty, with_mark, raised}
use Rattle.pp_model.specs.Moves.{seat_of}
use Rattle.pp_model.specs.Marks.{marks_at, marks}
use Rattle.pp_model.proofs.Sums.{sum_by-term}
use Rattle.pp_model.proofs.Requests.{Which, same, other, which}
use Rattle.pp_model.proofs.Totals.{weight, loads_of, seat_weight, on_page, latched_on, pins_are, readers_are}
use Rattle.pp_model.proofs.Totals.{writers_are, Totals}
use Rattle.pp_model.proofs.MarkParts.{marks_is, one_page}

-- ---- notes

-- A note that is written is the page's, and the other pages keep theirs.
pub note_here : (s : State) (p : ℕ) (n : Note) → p < length s.notes → note_of (with_note s p n) p ≡ n
note_here s p n lt = get_or-set_same s.notes p n untouched lt

pub note_there : (s : State) (p q : ℕ) (n : Note) → q ≢ p → note_of (with_note s p n) q ≡ note_of s q
note_there s p q n ne = get_or-set_other s.notes p q n untouched ne

pub notes_stay : (s : State) (p : ℕ) (n : Note) → length (with_note s p n).notes ≡ length s.notes
notes_stay s p n = length-set s.notes p n

-- ---- counts

-- One holding counts for its own page alone, and as a latch where it is latched so.
pub alone : (f : Holding → ℕ) (x : Holding) → sum_by f (x ∷ []) ≡ f x
alone f x = omega (arith, sum_by-cons f x [])

pub on_its_page : (p : ℕ) (x : Holding) → x.page ≡ p → sum_by (on_page p) (x ∷ []) ≡ 1
on_its_page p x e = omega (arith, alone (on_page p) x, go (which x.page p))
  where
    go : Which x.page p → on_page p x ≡ 1
    go (same a b) = b
    go (other a b) = absurd (a e)

pub on_other_page : (p : ℕ) (x : Holding) → x.page ≢ p → sum_by (on_page p) (x ∷ []) ≡ 0
on_other_page p x ne = omega (arith, alone (on_page p) x, go (which x.page p))
  where
    go : Which x.page p → on_page p x ≡ 0
    go (same a b) = absurd (ne a)
    go (other a b) = b

pub listed_once : (p : ℕ) → times p (p ∷ []) ≡ 1
listed_once p = omega (arith, sum_by-cons (λ x. cond (eqb x p) 1 0) p [], go (which p p))
  where
    go : Which p p → ◌≡◌ {A = ℕ} (cond (eqb p p) 1 0) 1
    go (same a b) = b
    go (other a b) = absurd (a refl)

pub listed_other : (p q : ℕ) → p ≢ q → times q (p ∷ []) ≡ 0
listed_other p q ne = omega (arith, sum_by-cons (λ x. cond (eqb x q) 1 0) p [], go (which p q))
  where
    go : Which p q → ◌≡◌ {A = ℕ} (cond (eqb p q) 1 0) 0
    go (same a b) = absurd (ne a)
    go (other a b) = b

-- A holding of the page is latched S or X, or it isn't latched.
abbrev pub is_free : Held → Bool
is_free Free = true
is_free S = false
is_free X = false

split_held : (n : ℕ) (h : Held) → n ≡ cond (is_shared h) n 0 + cond (is_exclusive h) n 0 + cond (is_free h) n 0
split_held n Free = omega arith
split_held n S = omega arith
split_held n X = omega arith

split_one : (q : ℕ) (h : Holding)
    → on_page q h ≡ latched_on is_shared q h + latched_on is_exclusive q h + latched_on is_free q h
split_one q h = split_held (on_page q h) h.held

three_sums : {A : Type 0} (f g h k : A → ℕ) (xs : List A) → ((x : A) → f x ≡ g x + h x + k x)
    → sum_by f xs ≡ sum_by g xs + sum_by h xs + sum_by k xs
three_sums f g h k [] e = refl
three_sums f g h k (x ∷ xs) e =
    omega (
      arith,
      sum_by-cons f x xs,
      sum_by-cons g x xs,
      sum_by-cons h x xs,
      sum_by-cons k x xs,
      e x,
      three_sums f g h k xs e,
    )

split_list : (q : ℕ) (hs : Holdings)
    → sum_by (on_page q) hs
    ≡ sum_by (latched_on is_shared q) hs + sum_by (latched_on is_exclusive q) hs + sum_by (latched_on is_free q) hs
split_list q hs =
    three_sums (on_page q) (latched_on is_shared q) (latched_on is_exclusive q) (latched_on is_free q) hs (split_one q)

split_seat : (q : ℕ) (x : Option Running)
    → seat_weight (on_page q) x
    ≡ seat_weight (latched_on is_shared q) x + seat_weight (latched_on is_exclusive q) x
    + seat_weight (latched_on is_free q) x
split_seat q None = refl
split_seat q (Some r) = split_list q (holdings r)

pub split_all : (s : State) (q : ℕ)
    → weight s (on_page q)
    ≡ weight s (latched_on is_shared q) + weight s (latched_on is_exclusive q) + weight s (latched_on is_free q)
split_all s q =
    three_sums (seat_weight (on_page q)) (seat_weight (latched_on is_shared q))
    (seat_weight (latched_on is_exclusive q))
    (seat_weight (latched_on is_free q)) s.seats (split_seat q)

-- ---- what a move does to the counts of a page

pub record Counted (s t : State) (out into : Holdings) (lo li : List ℕ) (q : ℕ) : Type 0 where
  pub pins : pins_of t q + sum_by (on_page q) out + times q lo ≡ pins_of s q + sum_by (on_page q) into + times q li
  pub readers : readers_of t q + sum_by (latched_on is_shared q) out
      ≡ readers_of s q + sum_by (latched_on is_shared q) into
  pub writers : writers_of t q + sum_by (latched_on is_exclusive q) out
      ≡ writers_of s q + sum_by (latched_on is_exclusive q) into

pub counted : (s t : State) (out into : Holdings) (lo li vo vi : List ℕ) (q : ℕ) → Totals s t out into lo li vo vi
    → Counted s t out into lo li q
counted s t out into lo li vo vi q d = record {
  pins = omega (arith, pins_are s q, pins_are t q, d.holds (on_page q), d.loads q);
  readers = omega (arith, readers_are s q, readers_are t q, d.holds (latched_on is_shared q));
  writers = omega (arith, writers_are s q, writers_are t q, d.holds (latched_on is_exclusive q));
}

-- Pins and latches of a page are as before.
pub record SameCounts (s t : State) (q : ℕ) : Type 0 where
  pub pins : pins_of t q ≡ pins_of s q
  pub readers : readers_of t q ≡ readers_of s q
  pub writers : writers_of t q ≡ writers_of s q

-- So they are where no holding of the page goes or comes, and it is loaded as before.
pub same_counts : (s t : State) (out into : Holdings) (lo li vo vi : List ℕ) (q : ℕ)
    → Totals s t out into lo li vo vi
    → sum_by (on_page q) out ≡ 0 → sum_by (on_page q) into ≡ 0 → times q lo ≡ times q li → SameCounts s t q
same_counts s t out into lo li vo vi q d none nothing loads =
    let c = counted s t out into lo li vo vi q d in
    record {
      pins = omega (arith, c.pins, none, nothing, loads);
      readers = omega (arith, c.readers, split_list q out, split_list q into, none, nothing);
      writers = omega (arith, c.writers, split_list q out, split_list q into, none, nothing);
    }

-- ---- what a worker holds is counted

in_list : (f : Holding → ℕ) (hs : Holdings) (slot : ℕ) (h : Holding) → holding_at hs slot ≡ Some h → f h ≤ sum_by f hs
in_list f [] slot h e = cc
in_list f (y ∷ ys) slot h e = go (y.slot == slot) (in_list f ys slot h) e
  where
    go : (b : Bool) → (holding_at ys slot ≡ Some h → f h ≤ sum_by f ys)
        → cond b (Some y) (holding_at ys slot) ≡ Some h → f h ≤ sum_by f (y ∷ ys)
    go true all e = let is : y ≡ h = cc in omega (arith, sum_by-cons f y ys, ap f is)
    go false all e = omega (arith, sum_by-cons f y ys, all e)

pub held_counts : (s : State) (w : ℕ) (r : Running) (slot : ℕ) (h : Holding) (f : Holding → ℕ)
    → seat_of s w ≡ Some (Some r)
    → holding_at (holdings r) slot ≡ Some h → f h ≤ weight s f
held_counts s w r slot h f seat e =
    omega (arith, in_list f (holdings r) slot h e, sum_by-term (seat_weight f) s.seats w (Some r) seat)

-- ---- marks

-- The marks of a page, one by one.
pub marked : (t : State) (p : ℕ) (y : PageMarks) → (note_of t p).frame ≡ y.frame → pins_of t p ≡ y.pins
    → latches_of t p ≡ y.latches → (note_of t p).dirty ≡ y.dirty → (note_of t p).mark ≡ y.stamp → marks_at t p ≡ y
marked t p y a b c d e =
    λ i. record { frame = a i; pins = b i; latches = c i; dirty = d i; stamp = e i }

pub same_latches : (s t : State) (q : ℕ) → SameCounts s t q → latches_of t q ≡ latches_of s q
same_latches s t q c = λ i. latches_at (c.readers i) (c.writers i)

pub same_marks : (s t : State) (q : ℕ) → note_of t q ≡ note_of s q → SameCounts s t q → marks_at t q ≡ marks_at s q
same_marks s t q n c =
    marked t q (marks_at s q) (ap (λ (x : Note). x.frame) n) c.pins (same_latches s t q c)
    (ap (λ (x : Note). x.dirty) n) (ap (λ (x : Note). x.mark) n)

-- Two states of one pool that have the same marks of each page have the same map.
pub same_map : (s t : State) → t.settings ≡ s.settings → length t.notes ≡ length s.notes
    → ((q : ℕ) → marks_at t q ≡ marks_at s q) → marks t ≡ marks s
same_map s t k n e =
    λ i. record {
      frames = (k i).layout.frames;
      pages = mapped (λ q. e q i) (range_with_len 0 (n i));
    }

-- Two states of one pool that differ in one page's marks at most.
pub record Alike (s t : State) (p : ℕ) : Type 0 where
  pub settings : t.settings ≡ s.settings
  pub notes : length t.notes ≡ length s.notes
  pub low : p < length s.notes
  pub others : (q : ℕ) → q ≢ p → marks_at t q ≡ marks_at s q

pub new_map : (s t : State) (p : ℕ) (y : PageMarks) → Alike s t p → marks_at t p ≡ y
    → marks t ≡ with_marks (marks s) p y
new_map s t p y k e =
    one_page s t p (sym (ap (λ x. x.layout.frames) k.settings)) (sym k.notes) k.others
    ∙ ap (λ z. with_marks (marks s) p z) e

-- ---- a note is written

-- The notes of one page are others, and the workers' seats are as before.
noted : (s : State) (p : ℕ) (n : Note) → p < length s.notes
    → marks (with_note s p n)
    ≡ with_marks (marks s) p
    (record (marks_of (marks s) p) { frame = n.frame; dirty = n.dirty; stamp = n.mark })
noted s p n low =
    let t = with_note s p n in
    let here = note_here s p n low in
    let is = marks_is s p low in
    let k : Alike s t p = record {
      settings = refl;
      notes = notes_stay s p n;
      low = low;
      others = λ q ne.
          same_marks s t q (note_there s p q n ne) (record { pins = refl; readers = refl; writers = refl });
    } in
    new_map s t p (record (marks_of (marks s) p) { frame = n.frame; dirty = n.dirty; stamp = n.mark }) k
    (marked t p _ (ap (λ (x : Note). x.frame) here) (sym (ap (λ (x : PageMarks). x.pins) is))
    (sym (ap (λ (x : PageMarks). x.latches) is)) (ap (λ (x : Note). x.dirty) here) (ap (λ (x : Note). x.mark) here))

-- The map changes as the note does.
pub frame_noted : (s : State) (p : ℕ) (f : Option ℕ) → p < length s.notes
    → marks (with_frame s p f) ≡ map.with_frame (marks s) p f
frame_noted s p f low =
    let is = marks_is s p low in
    noted s p (record (note_of s p) { frame = f }) low
    ∙ (λ i. with_marks (marks s) p
    (record (marks_of (marks s) p) { frame = f; dirty = (sym is i).dirty; stamp = (sym is i).stamp }))

pub dirty_noted : (s : State) (p : ℕ) (b : Bool) → p < length s.notes
    → marks (with_dirty s p b) ≡ map.with_dirty (marks s) p b
dirty_noted s p b low =
    let is = marks_is s p low in
    noted s p (record (note_of s p) { dirty = b }) low
    ∙ (λ i. with_marks (marks s) p
    (record (marks_of (marks s) p) { frame = (sym is i).frame; dirty = b; stamp = (sym is i).stamp }))

pub mark_noted : (s : State) (p k : ℕ) → p < length s.notes
    → marks (with_mark s p k) ≡ map.with_stamp (marks s) p (Some k)
mark_noted s p k low =
    let is = marks_is s p low in
    noted s p (record (note_of s p) { mark = Some k }) low
    ∙ (λ i. with_marks (marks s) p
    (record (marks_of (marks s) p) { frame = (sym is i).frame; dirty = (sym is i).dirty; stamp = Some k }))

pub raise_noted : (s : State) (p : ℕ) → p < length s.notes
    → marks (raised s p) ≡ map.with_stamp (map.with_dirty (marks s) p true) p (Some (mark_at s p + 1))
raise_noted s p low =
    let k = mark_at s p + 1 in
    let d = with_dirty s p true in
    let was = note_here s p (record (note_of s p) { dirty = true }) low in
    let notes : (raised s p).notes ≡ (with_mark d p k).notes =
    sym (set-set s.notes p _ (record (note_of s p) { mark = Some k; dirty = true }))
    ∙ ap (λ (x : Note). slice_set d.notes p (record x { mark = Some k })) (sym was) in
    ap (λ x. marks (record s { notes = x })) notes
    ∙ mark_noted d p k (omega (arith, low, notes_stay s p (record (note_of s p) { dirty = true })))
    ∙ ap (λ m. map.with_stamp m p (Some k)) (dirty_noted s p true low)

-- ---- a seat changes

-- Only the workers' seats are others.
pub record Reseated (s t : State) : Type 0 where
  pub settings : t.settings ≡ s.settings
  pub notes : t.notes ≡ s.notes

-- No page's counts change.
pub seats_same : (s t : State) → Reseated s t → ((q : ℕ) → SameCounts s t q) → marks t ≡ marks s
seats_same s t k e =
    same_map s t k.settings (ap (λ (x : List Note). length x) k.notes)
    (λ q. same_marks s t q (ap (λ (x : List Note). get_or x q untouched) k.notes) (e q))

seat_alike : (s t : State) (p : ℕ) → Reseated s t → p < length s.notes
    → ((q : ℕ) → q ≢ p → SameCounts s t q) → Alike s t p
seat_alike s t p k low e = record {
  settings = k.settings;
  notes = ap (λ (x : List Note). length x) k.notes;
  low = low;
  others = λ q ne. same_marks s t q (ap (λ (x : List Note). get_or x q untouched) k.notes) (e q ne);
}

-- One page's pins change; or its latches do.
pub seat_pins : (s t : State) (p n : ℕ) → Reseated s t → p < length s.notes
    → ((q : ℕ) → q ≢ p → SameCounts s t q) → pins_of t p ≡ n → latches_of t p ≡ latches_of s p
    → marks t ≡ map.with_pins (marks s) p n
seat_pins s t p n k low e pins latches =
    let is = marks_is s p low in
    let note : note_of t p ≡ note_of s p = ap (λ (x : List Note). get_or x p untouched) k.notes in
    new_map s t p (record (marks_of (marks s) p) { pins = n }) (seat_alike s t p k low e)
    (marked t p _ (ap (λ (x : Note). x.frame) note ∙ sym (ap (λ (x : PageMarks). x.frame) is)) pins
    (latches ∙ sym (ap (λ (x : PageMarks). x.latches) is))
    (ap (λ (x : Note). x.dirty) note ∙ sym (ap (λ (x : PageMarks). x.dirty) is))
    (ap (λ (x : Note). x.mark) note ∙ sym (ap (λ (x : PageMarks). x.stamp) is)))

pub seat_latches : (s t : State) (p : ℕ) (l : Latches) → Reseated s t → p < length s.notes
    → ((q : ℕ) → q ≢ p → SameCounts s t q) → pins_of t p ≡ pins_of s p → latches_of t p ≡ l
    → marks t ≡ map.with_latches (marks s) p l
seat_latches s t p l k low e pins latches =
    let is = marks_is s p low in
    let note : note_of t p ≡ note_of s p = ap (λ (x : List Note). get_or x p untouched) k.notes in
    new_map s t p (record (marks_of (marks s) p) { latches = l }) (seat_alike s t p k low e)
    (marked t p _ (ap (λ (x : Note). x.frame) note ∙ sym (ap (λ (x : PageMarks). x.frame) is))
    (pins ∙ sym (ap (λ (x : PageMarks). x.pins) is)) latches
    (ap (λ (x : Note). x.dirty) note ∙ sym (ap (λ (x : PageMarks). x.dirty) is))
    (ap (λ (x : Note). x.mark) note ∙ sym (ap (λ (x : PageMarks). x.stamp) is)))

-- ---- several marks of one page are written, one after the other

abbrev pub edited : PageMap → ℕ → (PageMarks → PageMarks) → PageMap
edited m p f = with_marks m p (f (marks_of m p))

pub edit_here : (m : PageMap) (p : ℕ) (f : PageMarks → PageMarks) → p < map.page_count m
    → marks_of (edited m p f) p ≡ f (marks_of m p)
edit_here m p f low = get_or-set_same m.pages p (f (marks_of m p)) map.untouched_marks low

pub edit_there : (m : PageMap) (p q : ℕ) (f : PageMarks → PageMarks) → q ≢ p → marks_of (edited m p f) q ≡ marks_of m q
edit_there m p q f ne = get_or-set_other m.pages p q (f (marks_of m p)) map.untouched_marks ne

pub edit_count : (m : PageMap) (p : ℕ) (f : PageMarks → PageMarks) → map.page_count (edited m p f) ≡ map.page_count m
edit_count m p f = length-set m.pages p (f (marks_of m p))

pub edit_twice : (m : PageMap) (p : ℕ) (f g : PageMarks → PageMarks) → p < map.page_count m
    → edited (edited m p f) p g ≡ edited m p (λ y. g (f y))
edit_twice m p f g low =
    let x = f (marks_of m p) in
    ap (λ y. with_marks (with_marks m p x) p (g y)) (edit_here m p f low)
    ∙ (λ i. record { frames = m.frames; pages = set-set m.pages p x (g x) i })

-- ---- what the map says of a page

pub count_told : (s : State) → map.page_count (marks s) ≡ length s.notes
count_told s =
    length-map (range_with_len 0 (length s.notes)) (marks_at s) ∙ length-range_with_len 0 (length s.notes)

pub frame_told : (s : State) (q : ℕ) → q < length s.notes → map.frame_of (marks s) q ≡ frame_of s q
frame_told s q low = ap (λ (x : PageMarks). x.frame) (marks_is s q low)

pub pins_told : (s : State) (q : ℕ) → q < length s.notes → map.pins_of (marks s) q ≡ pins_of s q
pins_told s q low = ap (λ (x : PageMarks). x.pins) (marks_is s q low)

pub latches_told : (s : State) (q : ℕ) → q < length s.notes
    → map.latches_of (marks s) q ≡ latches_at (readers_of s q) (writers_of s q)
latches_told s q low = ap (λ (x : PageMarks). x.latches) (marks_is s q low)

-- A page has at most as many latches as readers and writers.
pub few_latches : (readers writers : ℕ) → map.latch_count (latches_at readers writers) ≤ readers + writers
few_latches readers writers = go (nat_lt 0 writers) refl
  where
    go : (b : Bool) → nat_lt 0 writers ≡ b
        → map.latch_count (cond b map.Exclusive (map.Shared readers)) ≤ readers + writers
    go true e = grind (arith, nat_tests)
    go false e = omega arith

-- It has at most as many latches as pins, and fewer where it is loaded or a slot holds it unlatched.
pub latches_fit : (s : State) (q : ℕ) → q < length s.notes
    → map.latch_count (map.latches_of (marks s) q) ≤ map.pins_of (marks s) q
latches_fit s q low =
    omega (
      arith,
      few_latches (readers_of s q) (writers_of s q),
      ap map.latch_count (latches_told s q low),
      pins_told s q low,
      pins_are s q,
      readers_are s q,
      writers_are s q,
      split_all s q,
    )

pub latches_spare : (s : State) (q : ℕ) → q < length s.notes → 0 < weight s (latched_on is_free q) + loads_of s q
    → map.latch_count (map.latches_of (marks s) q) < map.pins_of (marks s) q
latches_spare s q low some =
    omega (
      arith,
      few_latches (readers_of s q) (writers_of s q),
      ap map.latch_count (latches_told s q low),
      pins_told s q low,
      pins_are s q,
      readers_are s q,
      writers_are s q,
      split_all s q,
      some,
    )

-- ---- one holding as a latch

pub as_latch : (is : Held → Bool) (q : ℕ) (x : Holding) (b : Bool) → is x.held ≡ b
    → sum_by (latched_on is q) (x ∷ []) ≡ cond b (on_page q x) 0
as_latch is q x b e = alone (latched_on is q) x ∙ ap (λ c. cond c (on_page q x) 0) e

pub on_page_once : (p : ℕ) (x : Holding) → x.page ≡ p → on_page p x ≡ 1
on_page_once p x e = omega (arith, alone (on_page p) x, on_its_page p x e)

-- What is counted of one state's seats is counted of each state's that has the same seats.
pub from_seats : (s s' t : State) (q : ℕ) → s'.seats ≡ s.seats → SameCounts s t q → SameCounts s' t q
from_seats s s' t q e c = record {
  pins = c.pins ∙ sym (ap (λ x. sum_by (λ y. times q (takes y)) x) e);
  readers = c.readers ∙ sym (ap (λ x. sum_by (λ y. times q (latched_by is_shared y)) x) e);
  writers = c.writers ∙ sym (ap (λ x. sum_by (λ y. times q (latched_by is_exclusive y)) x) e);
}

-- One page's latches and pins change.
pub seat_both : (s t : State) (p n : ℕ) (l : Latches) → Reseated s t → p < length s.notes
    → ((q : ℕ) → q ≢ p → SameCounts s t q) → pins_of t p ≡ n → latches_of t p ≡ l
    → marks t ≡ map.with_pins (map.with_latches (marks s) p l) p n
seat_both s t p n l k low e pins latches =
    let is = marks_is s p low in
    let note : note_of t p ≡ note_of s p = ap (λ (x : List Note). get_or x p untouched) k.notes in
    new_map s t p (record (marks_of (marks s) p) { latches = l; pins = n }) (seat_alike s t p k low e)
    (marked t p _ (ap (λ (x : Note). x.frame) note ∙ sym (ap (λ (x : PageMarks). x.frame) is)) pins latches
    (ap (λ (x : Note). x.dirty) note ∙ sym (ap (λ (x : PageMarks). x.dirty) is))
    (ap (λ (x : Note). x.mark) note ∙ sym (ap (λ (x : PageMarks). x.stamp) is)))
    ∙ sym (edit_twice (marks s) p (λ y. record y { latches = l }) (λ y. record y { pins = n })
    (omega (arith, low, count_told s)))

-- The pins of a page may as well be written after its dirty mark and its stamp.
pub pins_last : (m : PageMap) (p n : ℕ) (k : Option ℕ) → p < map.page_count m
    → map.with_stamp (map.with_dirty (map.with_pins m p n) p true) p k
    ≡ map.with_pins (map.with_stamp (map.with_dirty m p true) p k) p n
pins_last m p n k low =
    let pins : PageMarks → PageMarks = λ y. record y { pins = n } in
    let dirty : PageMarks → PageMarks = λ y. record y { dirty = true } in
    let stamp : PageMarks → PageMarks = λ y. record y { stamp = k } in
    edit_twice (edited m p pins) p dirty stamp (omega (arith, low, edit_count m p pins))
    ∙ edit_twice m p pins (λ y. stamp (dirty y)) low
    ∙ sym (edit_twice m p (λ y. stamp (dirty y)) pins low)
    ∙ ap (λ x. edited x p pins) (sym (edit_twice m p dirty stamp low))

-- The frame of a page has nothing to do with pins.
pub all_pins_frame : (m : PageMap) (q : ℕ) (x : Option ℕ) → map.all_pins (map.with_frame m q x) ≡ map.all_pins m
all_pins_frame m q x =
    elim (cases_lt q (map.page_count m)) [
      | inl lt ↦
          omega (
            arith,
            sum_by-set (λ (a : PageMarks). a.pins) m.pages q (record (marks_of m q) { frame = x })
                map.untouched_marks lt,
          )
      | inr le ↦
          ap (λ pages. sum_by (λ (a : PageMarks). a.pins) pages)
          (set_past m.pages q (record (marks_of m q) { frame = x }) le)
    ]

-- A map has as many pages after a write as before.
pub count_stays : (m : PageMap) (p : ℕ) (y : PageMarks) → map.page_count (with_marks m p y) ≡ map.page_count m
count_stays m p y = length-set m.pages p y
