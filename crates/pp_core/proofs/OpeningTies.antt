-- What a new core keeps stands for the opening state.
use Rattle.std.proofs.Common.{◌≡◌, ◌∙◌, ℕ, zero, suc, ◌+◌, ◌*◌, false, Option, Some, None, List, [], ◌∷◌}
use Rattle.std.proofs.Common.{length, map, refl, sym, ap, arith, subst}
use Rattle.std.specs.Prelude.{replicate, slice_get, slice_index_or, sum_by, nat_lt}
use Rattle.std.specs.List.{range_with_len}
use Rattle.std.proofs.lemmas.List.{length-replicate}
use Rattle.std.proofs.lemmas.List.Folds.{sum_by-replicate}
use Rattle.pp_settings.specs.Layout.{page_count}
use Rattle.pp_frames.specs.Marks.{untouched_marks}
use Rattle.pp_model.specs.Pool.{Running, Settings, opening, untouched, note_of}
use Rattle.pp_model.specs.Holders.{pins_of, readers_of, writers_of, errands_of, is_in_flight}
use Rattle.pp_model.specs.Budget.{peak_of, left_to}
use Rattle.pp_model.specs.Marks.{marks_at, marks}
use Rattle.pp_model.specs.Reached.{IsSettings}
use Rattle.pp_model.proofs.Journeys.{opening_reached}
use Rattle.pp_core.specs.declared.seat.Seat.{Seat}
use Rattle.pp_core.specs.Parts.{Parts}
use Rattle.pp_core.specs.StandsFor.{FitsSeat, StandsFor}
use Rattle.pp_core.specs.Opening.{opening_parts}
use Rattle.pp_core.specs.Gathered.{bundle_place, bundle_in, bundle_pins}

-- Idle workers count nothing.
idle : (f : Option Running → ℕ) (n : ℕ) → f None ≡ 0 → sum_by f (replicate n None) ≡ 0
idle f n e = sum_by-replicate f n None ∙ ap (λ k. n * k) e ∙ omega arith

-- A place in a list of equals.
pub equal_places : {A : Type 0} (n i : ℕ) (x y : A) → slice_get (replicate n x) i ≡ Some y → x ≡ y
equal_places zero i x y e = cc
equal_places (suc n) zero x y e = cc
equal_places (suc n) (suc i) x y e = equal_places n i x y e

pub equal_or : {A : Type 0} (n i : ℕ) (x : A) → slice_index_or (replicate n x) i x ≡ x
equal_or zero i x = refl
equal_or (suc n) zero x = refl
equal_or (suc n) (suc i) x = equal_or n i x

same_everywhere : {A : Type 0} (f : ℕ → A) (x : A) (from n : ℕ) → ((q : ℕ) → f q ≡ x)
    → map f (range_with_len from n) ≡ replicate n x
same_everywhere f x from zero h = refl
same_everywhere f x from (suc n) h = λ i. h from i ∷ same_everywhere f x (from + 1) n h i

-- ---- the opening state

module _ (k : Settings) where
  notes : (q : ℕ) → note_of (opening k) q ≡ untouched
  notes q = equal_or (page_count k.layout) q untouched

  unmarked : (q : ℕ) → marks_at (opening k) q ≡ untouched_marks
  unmarked q =
      let s = opening k in
      let pins : pins_of s q ≡ 0 = idle _ k.workers refl in
      let readers : readers_of s q ≡ 0 = idle _ k.workers refl in
      let writers : writers_of s q ≡ 0 = idle _ k.workers refl in
      cc (notes q, pins, readers, writers)

  map_opens : record { frames = k.layout.frames; pages = replicate (page_count k.layout) untouched_marks }
      ≡ marks (opening k)
  map_opens =
      let long = length-replicate (page_count k.layout) untouched in
      let pages : map (marks_at (opening k)) (range_with_len 0 (length (opening k).notes))
      ≡ replicate (page_count k.layout) untouched_marks =
      same_everywhere (marks_at (opening k)) untouched_marks 0 (length (opening k).notes) unmarked
      ∙ ap (λ n. replicate n untouched_marks) long in
      λ i. record { frames = k.layout.frames; pages = sym pages i }

  seats_open : (w : ℕ) (x : Option Seat) (y : Option Running) → slice_get (replicate k.workers None) w ≡ Some x
      → slice_get (replicate k.workers None) w ≡ Some y → FitsSeat [] x y
  seats_open w x y e f =
      let left : None ≡ x = equal_places k.workers w None x e in
      let right : None ≡ y = equal_places k.workers w None y f in
      subst (λ a. FitsSeat [] a y) left (subst (λ b. FitsSeat [] None b) right tt)

  still : (page : ℕ) → is_in_flight (opening k) page ≡ false
  still page =
      let none : errands_of (opening k) page ≡ 0 = idle _ k.workers refl in
      ap (nat_lt 0) none

  pub opening_stands : IsSettings k → StandsFor (opening_parts k) (opening k)
  opening_stands ok = record {
    reached = opening_reached k ok;
    layout = refl;
    span = refl;
    flushes = refl;
    flushes_left = refl;
    plans = record { waits = refl; submitted = refl; all = λ q. refl };
    taken = refl;
    seats = record {
      size =
          length-replicate {A = Option Seat} k.workers None
          ∙ sym (length-replicate {A = Option Running} k.workers None);
      each = seats_open;
    };
    lists = refl;
    marks = map_opens;
    bundles = record {
      places =
          length-replicate {A = List ℕ} (32 * k.workers) []
          ∙ ap (λ n. 32 * n) (sym (length-replicate {A = Option Running} k.workers None));
      each = λ w slot x low at.
          equal_or (32 * k.workers) (bundle_place w slot) []
          ∙ ap (λ o. bundle_in o slot) (equal_places k.workers w None x at);
      room = refl;
      pins = sum_by-replicate length (32 * k.workers) [] ∙ omega (arith, idle bundle_pins k.workers refl);
    };
    pages = length-replicate (page_count k.layout) false ∙ sym (length-replicate (page_count k.layout) untouched);
    in_flight = λ page b e. sym (equal_places (page_count k.layout) page false b e) ∙ sym (still page);
    flush = refl;
    running = sym (idle peak_of k.workers refl);
    need = omega arith;
    budget = omega (arith, idle left_to k.workers refl);
  }

-- The same of parts that equal these.
pub opened_stands : (k : Settings) (f : Parts) → IsSettings k → f ≡ opening_parts k → StandsFor f (opening k)
opened_stands k f ok e = subst (λ g. StandsFor g (opening k)) (sym e) (opening_stands k ok)
