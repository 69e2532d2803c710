-- What makes a page ready, and what makes it stand in two states alike.
use Rattle.std.proofs.Common.{◌≡◌, ◌∙◌, ℕ, ◌<◌, Bool, true, false, Option, Some, None, List, []}
use Rattle.std.proofs.Common.{◌∷◌, length, refl, sym, ap, arith}
use Rattle.std.specs.Prelude.{sum_by, nat_lt, ◌||◌, IsSome}
use Rattle.std.proofs.lemmas.Bool.{false≢true}
use Rattle.std.proofs.lemmas.Bool.Decides.{nat_tests}
use Rattle.pp_cert.specs.declared.note.Held.{Held}
use Rattle.pp_cert.specs.declared.note.Held.TheVariants.{Free, S, X}
use Rattle.pp_cert.specs.Held.{Holding, Holdings}
use Rattle.pp_arc.specs.FourLists.{is_cached}
use Rattle.pp_model.specs.Pool.{Running, Note, State, note_of, frame_of, known_mark, frame_at, mark_at}
use Rattle.pp_model.specs.Holders.{times, is_exclusive, writers_of}
use Rattle.pp_model.specs.Outcome.{with_dirty, released}
use Rattle.pp_model.specs.Reached.{IsReached}
use Rattle.pp_model.specs.Ready.{loaded_for, is_loading, is_written, is_away, Standing, standing_unless, ready_at}
use Rattle.pp_model.specs.Ready.{standing_of, frame_if, away_from, Keeps}
use Rattle.pp_model.proofs.Requests.{Which, same, other, which}
use Rattle.pp_model.proofs.Totals.{weight, on_page, latched_on, loads_of, seat_loads, same_sums, writers_are, Totals}
use Rattle.pp_model.proofs.Sound.{uncached_free}
use Rattle.pp_model.proofs.Soundness.{sound}
use Rattle.pp_model.proofs.MarkChanges.{note_here, note_there, split_all, counted, same_counts, as_latch}
use Rattle.pp_model.proofs.Framed.{framed, some_of}
use Rattle.pp_model.proofs.KnownMarks.{loaded_is_known}
use Rattle.pp_model.proofs.Images.{away_placed, all_stay}

-- ---- what makes a page ready

loaded_each : (q : ℕ) (x : Option Running) → times q (loaded_for x) ≡ times q (seat_loads x)
loaded_each q None = refl
loaded_each q (Some r) = refl

pub loading_is : (s : State) (q : ℕ) → is_loading s q ≡ nat_lt 0 (loads_of s q)
loading_is s q =
    ap (nat_lt 0) (same_sums (λ x. times q (loaded_for x)) (λ x. times q (seat_loads x)) s.seats (loaded_each q))

positive : (n : ℕ) → 0 < n → nat_lt 0 n ≡ true
positive n lt = grind (arith, nat_tests)

pub is_loaded : (s : State) (q : ℕ) → 0 < loads_of s q → is_loading s q ≡ true
is_loaded s q some = loading_is s q ∙ positive (loads_of s q) some

pub isnt_loaded : (s : State) (q : ℕ) → loads_of s q ≡ 0 → is_loading s q ≡ false
isnt_loaded s q none = loading_is s q ∙ ap (nat_lt 0) none

-- A page that no slot holds isn't latched.
pub unheld : (s : State) (q : ℕ) → weight s (on_page q) ≡ 0 → writers_of s q ≡ 0
unheld s q none = omega (arith, writers_are s q, split_all s q, none)

-- A page stands in two states alike: its image is away in both or in neither, and it has the same frame and mark.
pub record Stays (s t : State) (q : ℕ) : Type 0 where
  pub away : is_away t q ≡ is_away s q
  pub frame : frame_of t q ≡ frame_of s q
  pub mark : known_mark t q ≡ known_mark s q

abbrev pub AllStay : (s t : State) → Type 0
AllStay s t = (q : ℕ) → Stays s t q

pub same_stays : (s t : State) (q : ℕ) → loads_of t q ≡ loads_of s q → writers_of t q ≡ writers_of s q
    → frame_of t q ≡ frame_of s q → known_mark t q ≡ known_mark s q → Stays s t q
same_stays s t q loads writers frame mark =
    let loading : is_loading t q ≡ is_loading s q =
    loading_is t q ∙ ap (nat_lt 0) loads ∙ sym (loading_is s q) in
    record { away = λ i. loading i || nat_lt 0 (writers i); frame = frame; mark = mark }

-- So it is ready in both, in the same place, or in neither.
pub ready_stays : (s t : State) (q : ℕ) → Stays s t q → ready_at t q ≡ ready_at s q
ready_stays s t q k = λ i. standing_unless (k.away i) (k.frame i) (k.mark i)

pub away_stays : (s t : State) (q : ℕ) → Stays s t q → away_from t q ≡ away_from s q
away_stays s t q k = λ i. frame_if (k.away i) (k.frame i)

pub keeps : (s t : State) → AllStay s t → Keeps s t
keeps s t k = record {
  ready = λ q. ready_stays s t q (k q);
  away = all_stay s t (λ q. away_stays s t q (k q));
}

or_true : (a b : Bool) → b ≡ true → (a || b) ≡ true
or_true true b e = refl
or_true false b e = e

-- A page isn't ready that is being loaded, or latched X, or that has no frame.
pub away_none : (s : State) (q : ℕ) → is_away s q ≡ true → ready_at s q ≡ None
away_none s q e = ap (λ b. standing_unless b (frame_of s q) (known_mark s q)) e

pub loading_is_away : (s : State) (q : ℕ) → 0 < loads_of s q → is_away s q ≡ true
loading_is_away s q some = ap (λ b. b || is_written s q) (is_loaded s q some)

pub written_is_away : (s : State) (q : ℕ) → 0 < writers_of s q → is_away s q ≡ true
written_is_away s q some = or_true (is_loading s q) (is_written s q) (positive (writers_of s q) some)

-- Its image is then away from its frame.
pub away_is : (s : State) (q f : ℕ) → is_away s q ≡ true → frame_of s q ≡ Some f → away_from s q ≡ Some f
away_is s q f away frame = λ i. frame_if (away i) (frame i)

frameless : (away : Bool) (mark : Option ℕ) → standing_unless away None mark ≡ None
frameless true mark = refl
frameless false mark = refl

pub frameless_none : (s : State) (q : ℕ) → frame_of s q ≡ None → ready_at s q ≡ None
frameless_none s q e =
    ap (λ o. standing_unless (is_away s q) o (known_mark s q)) e ∙ frameless (is_away s q) (known_mark s q)

no_frame : (o : Option ℕ) → (IsSome o → ⊥) → o ≡ None
no_frame None isnt = refl
no_frame (Some f) isnt = absurd (isnt refl)

pub uncached_none : (s : State) → IsReached s → (q : ℕ) → is_cached s.lists q ≡ false → ready_at s q ≡ None
uncached_none s h q gone =
    frameless_none s q (no_frame (frame_of s q) (λ some. false≢true (sym gone ∙ (framed s h).cached q some)))

frameless_away : (away : Bool) → frame_if away None ≡ None
frameless_away true = refl
frameless_away false = refl

-- Where it has no frame, or is neither loaded nor latched X, its image isn't away.
pub unplaced : (s : State) (q : ℕ) → frame_of s q ≡ None → away_from s q ≡ None
unplaced s q e = ap (frame_if (is_away s q)) e ∙ frameless_away (is_away s q)

pub is_here : (s : State) (q : ℕ) → loads_of s q ≡ 0 → writers_of s q ≡ 0 → is_away s q ≡ false
is_here s q loads writers =
    let loading = isnt_loaded s q loads in
    λ i. loading i || nat_lt 0 (writers i)

pub here_none : (s : State) (q : ℕ) → is_away s q ≡ false → away_from s q ≡ None
here_none s q e = ap (λ b. frame_if b (frame_of s q)) e

-- A page that isn't cached is held by nobody and not loaded.
pub uncached_here : (s : State) → IsReached s → (q : ℕ) → is_cached s.lists q ≡ false → is_away s q ≡ false
uncached_here s h q gone =
    let none = uncached_free s q (sound s h) gone in
    is_here s q (omega (arith, none)) (unheld s q (omega (arith, none)))

-- No two pages' images are away from one frame.
pub away_alone : (s : State) → IsReached s → (p q f : ℕ) → frame_of s p ≡ Some f → away_from s q ≡ Some f → q ≡ p
away_alone s h p q f e away =
    (framed s h).no_frame_twice q p f (away_placed (is_away s q) (frame_of s q) f away) e

-- Else it is ready.
pub ready_is : (s : State) (q frame mark : ℕ) → loads_of s q ≡ 0 → writers_of s q ≡ 0 → frame_of s q ≡ Some frame
    → known_mark s q ≡ Some mark → ready_at s q ≡ Some (record { frame = frame; mark = mark })
ready_is s q frame mark loads writers placed known =
    let loading = isnt_loaded s q loads in
    λ i. standing_unless (loading i || nat_lt 0 (writers i)) (placed i) (known i)

pub cached_ready : (s : State) → IsReached s → (q : ℕ) → is_cached s.lists q ≡ true → loads_of s q ≡ 0
    → writers_of s q ≡ 0 → ready_at s q ≡ Some (standing_of s q)
cached_ready s h q here loads writers =
    ready_is s q (frame_at s q) (mark_at s q) loads writers (some_of (frame_of s q) ((framed s h).placed q here))
    (some_of (known_mark s q) (loaded_is_known s h q here loads))

-- What is ready isn't away, and has that frame and that mark.
pub record Stands (away : Bool) (frame mark : Option ℕ) (x : Standing) : Type 0 where
  pub here : away ≡ false
  pub frame_is : frame ≡ Some x.frame
  pub mark_is : mark ≡ Some x.mark

pub stands : (away : Bool) (frame mark : Option ℕ) (x : Standing) → standing_unless away frame mark ≡ Some x
    → Stands away frame mark x
stands true frame mark x e = cc
stands false None mark x e = cc
stands false (Some f) None x e = cc
stands false (Some f) (Some k) x e =
    let is : ◌≡◌ {A = Standing} (record { frame = f; mark = k }) x = cc in
    record { here = refl; frame_is = ap (λ (y : Standing). Some y.frame) is; mark_is = ap (λ (y : Standing). Some y.mark) is }

pub stands_ready : (s : State) (q : ℕ) (x : Standing) → ready_at s q ≡ Some x
    → Stands (is_away s q) (frame_of s q) (known_mark s q) x
stands_ready s q x e = stands (is_away s q) (frame_of s q) (known_mark s q) x e

-- ---- totals and notes

-- A page stands as before where as many load it and have it latched X, and its note has the same frame and mark.
pub stays_by : (s t : State) (out into : Holdings) (lo li vo vi : List ℕ) (q : ℕ) → Totals s t out into lo li vo vi
    → times q lo ≡ times q li → sum_by (latched_on is_exclusive q) out ≡ sum_by (latched_on is_exclusive q) into
    → frame_of t q ≡ frame_of s q → known_mark t q ≡ known_mark s q → Stays s t q
stays_by s t out into lo li vo vi q d loads latched frame mark =
    same_stays s t q (omega (arith, d.loads q, loads))
    (omega (arith, (counted s t out into lo li vo vi q d).writers, latched)) frame mark

-- So it does where none of its holdings goes or comes.
pub other_stays : (s t : State) (out into : Holdings) (lo li vo vi : List ℕ) (q : ℕ) → Totals s t out into lo li vo vi
    → times q lo ≡ times q li → sum_by (on_page q) out ≡ 0 → sum_by (on_page q) into ≡ 0
    → note_of t q ≡ note_of s q → Stays s t q
other_stays s t out into lo li vo vi q d loads none nothing note =
    let c = same_counts s t out into lo li vo vi q d none nothing loads in
    same_stays s t q (omega (arith, d.loads q, loads)) c.writers (ap (λ (x : Note). x.frame) note)
    (ap (λ (x : Note). x.mark) note)

-- A holding that isn't latched X counts for no writer.
pub no_writes : (q : ℕ) (x : Holding) → is_exclusive x.held ≡ false → sum_by (latched_on is_exclusive q) (x ∷ []) ≡ 0
no_writes q x e = as_latch is_exclusive q x false e

-- A dirty mark has nothing to do with frames and marks.
pub dirtied : (s : State) (v : ℕ) (b : Bool) (q : ℕ) → v < length s.notes
    → (frame_of (with_dirty s v b) q ≡ frame_of s q) × (known_mark (with_dirty s v b) q ≡ known_mark s q)
dirtied s v b q low = go (which q v)
  where
    go : Which q v → (frame_of (with_dirty s v b) q ≡ frame_of s q) × (known_mark (with_dirty s v b) q ≡ known_mark s q)
    go (same d f) =
        let here = note_here s v (record (note_of s v) { dirty = b }) low in (
          ap (frame_of (with_dirty s v b)) d ∙ ap (λ (x : Note). x.frame) here ∙ ap (frame_of s) (sym d),
          ap (known_mark (with_dirty s v b)) d ∙ ap (λ (x : Note). x.mark) here ∙ ap (known_mark s) (sym d),
        )
    go (other d f) =
        let there = note_there s v q (record (note_of s v) { dirty = b }) d in
        (ap (λ (x : Note). x.frame) there, ap (λ (x : Note). x.mark) there)

-- Only the end of an X latch changes what is noted.
pub unraised : (s : State) (k : Held) (page : ℕ) → is_exclusive k ≡ false → released s k page ≡ s
unraised s Free page e = refl
unraised s S page e = refl
unraised s X page e = cc
