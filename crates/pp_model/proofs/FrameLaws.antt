-- Frames and marks of reached states, in the words of the laws; and the map of the marks is sound.
use Rattle.std.proofs.Common.{◌≡◌, ◌∙◌, ◌⊎◌, ℕ, suc, ◌<◌, ◌≤◌, Option, Some, None, List, [], ◌∷◌, length, refl, sym, ap}
use Rattle.std.proofs.Common.{subst, inl, inr, arith}
use Rattle.std.specs.Prelude.{slice_get, sum_by, IsSome, All}
use Rattle.std.proofs.lemmas.Bool.{cases_lt}
use Rattle.std.proofs.lemmas.List.{get_or_past}
use Rattle.std.proofs.lemmas.List.Elements.{All-nil, All-cons}
use Rattle.std.proofs.lemmas.List.Sums.{sum_by-cons}
use Rattle.pp_cert.specs.Held.{Holding, Holdings, holding_at}
use Rattle.pp_frames.specs.Marks as map
use Rattle.pp_frames.specs.Marks.{PageMarks}
use Rattle.pp_model.specs.Pool.{Stage, acting, writing, reading, leaving, Running, State, known_mark}
use Rattle.pp_model.specs.Holders.{times, takes, loading, holdings}
use Rattle.pp_model.specs.Budget.{peak_of}
use Rattle.pp_model.specs.Moves.{seat_of}
use Rattle.pp_model.specs.Reached.{IsReached}
use Rattle.pp_model.specs.Marks.{marks}
use Rattle.pp_model.specs.Laws.{IsWrittenBack, CachedAreFramed, FrameIsLeft, DirtyAreKept, HeldAreKnown, IsLoading}
use Rattle.pp_model.specs.Laws.{LoadedAreKnown}
use Rattle.pp_model.proofs.Sums.{sum_by-le, sum_by-term}
use Rattle.pp_model.proofs.Seats.{good}
use Rattle.pp_model.proofs.Room.{room}
use Rattle.pp_model.proofs.Requests.{Which, same, other, which}
use Rattle.pp_model.proofs.Totals.{seat_weight, on_page, loads_of, seat_loads, victims_of, seat_victims, sent_in, pins_are}
use Rattle.pp_model.proofs.Soundness.{sound}
use Rattle.pp_model.proofs.Stuck.{seat_takes}
use Rattle.pp_model.proofs.MarkChanges.{count_told, pins_told, latches_fit, listed_other, on_page_once}
use Rattle.pp_model.proofs.FreeFrames.{frame_is}
use Rattle.pp_model.proofs.Framed.{framed, held_one, some_free}
use Rattle.pp_model.proofs.PinRoom.{pins_few}
use Rattle.pp_model.proofs.KnownMarks.{loaded_is_known, held_is_known}

-- ---- a victim has a worker

some_seat : (f : Option Running → ℕ) (xs : List (Option Running)) → 0 < sum_by f xs
    → (i : ℕ) × (x : Option Running) × (slice_get xs i ≡ Some x) × (0 < f x)
some_seat f [] some = absurd (omega (arith, some))
some_seat f (x ∷ xs) some = go (cases_lt 0 (f x)) (some_seat f xs)
  where
    go : (0 < f x) ⊎ (f x ≤ 0)
        → (0 < sum_by f xs → (i : ℕ) × (y : Option Running) × (slice_get xs i ≡ Some y) × (0 < f y))
        → (i : ℕ) × (y : Option Running) × (slice_get (x ∷ xs) i ≡ Some y) × (0 < f y)
    go (inl lt) all = (0, x, refl, lt)
    go (inr le) all =
        let later = all (omega (arith, some, sum_by-cons f x xs, le)) in
        (suc later.0, later.1, later.2, later.3)

sent_for : (q : ℕ) (g : Stage) → 0 < times q (sent_in g) → (slot : ℕ) × (page : ℕ) × (g ≡ writing slot page q)
sent_for q acting some = absurd (omega (arith, some))
sent_for q (writing slot page v) some = go (which v q)
  where
    go : Which v q → (t : ℕ) × (p : ℕ) × (writing slot page v ≡ writing t p q)
    go (same e f) = (slot, page, ap (writing slot page) e)
    go (other e f) = absurd (omega (arith, some, listed_other v q e))
sent_for q (reading slot page) some = absurd (omega (arith, some))
sent_for q (leaving given) some = absurd (omega (arith, some))

written_back : (s : State) (q : ℕ) → 0 < victims_of s q → IsWrittenBack s q
written_back s q some =
    let seat = some_seat (λ x. times q (seat_victims x)) s.seats some in go seat.0 seat.1 seat.2 seat.3
  where
    go : (w : ℕ) (x : Option Running) → slice_get s.seats w ≡ Some x → 0 < times q (seat_victims x)
        → IsWrittenBack s q
    go w None e lt = absurd (omega (arith, lt))
    go w (Some r) e lt =
        let stage = sent_for q r.stage lt in (w, r, stage.0, stage.1, e, stage.2)

-- ---- a page that is loaded has a worker

loaded_once : (q page : ℕ) → 0 < times q (page ∷ []) → Which page q → page ∷ [] ≡ q ∷ []
loaded_once q page some (same e f) = ap (λ p. p ∷ []) e
loaded_once q page some (other e f) = absurd (omega (arith, some, listed_other page q e))

loaded_for : (q : ℕ) (g : Stage) → 0 < times q (loading g) → loading g ≡ q ∷ []
loaded_for q acting some = absurd (omega (arith, some))
loaded_for q (writing slot page v) some = loaded_once q page some (which page q)
loaded_for q (reading slot page) some = loaded_once q page some (which page q)
loaded_for q (leaving given) some = absurd (omega (arith, some))

loading_for : (s : State) (q : ℕ) → 0 < loads_of s q → IsLoading s q
loading_for s q some =
    let seat = some_seat (λ x. times q (seat_loads x)) s.seats some in go seat.0 seat.1 seat.2 seat.3
  where
    go : (w : ℕ) (x : Option Running) → slice_get s.seats w ≡ Some x → 0 < times q (seat_loads x) → IsLoading s q
    go w None e lt = absurd (omega (arith, lt))
    go w (Some r) e lt = (w, r, e, loaded_for q r.stage lt)

-- ---- the laws

pub cached_are_framed : (s : State) → IsReached s → CachedAreFramed s
cached_are_framed s h q = ((framed s h).placed q, (framed s h).cached q)

pub frame_is_left : (s : State) → IsReached s → FrameIsLeft s
frame_is_left s h few =
    subst (λ (o : Option ℕ). IsSome o) (sym (some_free s h (omega (arith, few, (sound s h).c)))) refl

pub dirty_are_kept : (s : State) → IsReached s → DirtyAreKept s
dirty_are_kept s h q e =
    elim ((framed s h).changed q e) [ inl here ↦ inl here | inr some ↦ inr (written_back s q some) ]

pub held_are_known : (s : State) → IsReached s → HeldAreKnown s
held_are_known s h w r seat =
    all_known (holdings r) (λ q some. held_is_known s h q
    (omega (arith, some, sum_by-term (seat_weight (on_page q)) s.seats w (Some r) seat)))
  where
    all_known : (hs : Holdings) → ((q : ℕ) → 0 < sum_by (on_page q) hs → IsSome (known_mark s q))
        → All (λ x. IsSome (known_mark s x.page)) hs
    all_known [] known = All-nil (λ x. IsSome (known_mark s x.page))
    all_known (x ∷ hs) known =
        All-cons (λ y. IsSome (known_mark s y.page)) x hs
        (known x.page (omega (arith, sum_by-cons (on_page x.page) x hs, on_page_once x.page x refl)))
        (all_known hs (λ q some. known q (omega (arith, sum_by-cons (on_page q) x hs, some))))

-- So has the page that a slot holds.
pub found_is_known : (s : State) → IsReached s → (w : ℕ) (r : Running) (slot : ℕ) (x : Holding)
    → seat_of s w ≡ Some (Some r) → holding_at (holdings r) slot ≡ Some x → IsSome (known_mark s x.page)
found_is_known s h w r slot x seat found = held_is_known s h x.page (held_one s w r slot x seat found)

pub loaded_are_known : (s : State) → IsReached s → LoadedAreKnown s
loaded_are_known s h q here away = go (cases_lt 0 (loads_of s q))
  where
    go : (0 < loads_of s q) ⊎ (loads_of s q ≤ 0) → IsSome (known_mark s q)
    go (inl some) = absurd (away (loading_for s q some))
    go (inr none) = loaded_is_known s h q here (omega (arith, none))

-- ---- the map is sound

pinned_placed : (s : State) → IsReached s → (q : ℕ) → 0 < map.pins_of (marks s) q
    → IsSome (map.frame_of (marks s) q)
pinned_placed s h q some =
    elim (cases_lt q (length s.notes)) [
      | inl lt ↦
          let here = (sound s h).cached q (omega (arith, some, pins_told s q lt, pins_are s q)) in
          subst (λ (o : Option ℕ). IsSome o) (sym (frame_is s q)) ((framed s h).placed q here)
      | inr le ↦
          absurd (omega (
            arith,
            some,
            ap (λ (x : PageMarks). x.pins)
                (get_or_past (marks s).pages q map.untouched_marks (omega (arith, le, count_told s))),
          ))
    ]

latched_pinned : (s : State) (q : ℕ) → map.latch_count (map.latches_of (marks s) q) ≤ map.pins_of (marks s) q
latched_pinned s q =
    elim (cases_lt q (length s.notes)) [
      | inl lt ↦ latches_fit s q lt
      | inr le ↦
          let past = get_or_past (marks s).pages q map.untouched_marks (omega (arith, le, count_told s)) in
          omega (arith, ap (λ (x : PageMarks). map.latch_count x.latches) past)
    ]

pub map_is_sound : (s : State) → IsReached s → map.IsSound (marks s)
map_is_sound s h =
    let layout = s.settings.layout in
    let each : (v : ℕ) (x : Option Running) → slice_get s.seats v ≡ Some x → length (takes x) ≤ peak_of x =
    λ v x e. seat_takes layout x ((good s h).seats v x e) in
    record {
      in_range = λ q f e. (framed s h).in_range q f (sym (frame_is s q) ∙ e);
      no_frame_twice = λ p q f e g.
          (framed s h).no_frame_twice p q f (sym (frame_is s p) ∙ e) (sym (frame_is s q) ∙ g);
      pinned_is_placed = pinned_placed s h;
      latched_is_pinned = latched_pinned s;
      pins_fit = omega (
        arith,
        pins_few s,
        sum_by-le (λ x. length (takes x)) peak_of s.seats each,
        room s h,
      );
    }
