-- Where a worker asks a fix, there are fewer pins in all than frames: it holds less than its peak, and all peaks fit
-- the frames.
use Rattle.std.proofs.Common.{◌≡◌, ℕ, suc, ◌<◌, ◌≤◌, Option, Some, List, [], ◌∷◌, length, map as mapped}
use Rattle.std.proofs.Common.{refl, ap, arith}
use Rattle.std.specs.Prelude.{slice_get, sum_by}
use Rattle.std.specs.List.{range_with_len}
use Rattle.std.proofs.lemmas.List.Sums.{sum_by-cons}
use Rattle.std.proofs.lemmas.List.Concat.{length-flat_map}
use Rattle.pp_frames.specs.Marks as map
use Rattle.pp_frames.specs.Marks.{PageMarks}
use Rattle.pp_model.specs.Pool.{Running, State}
use Rattle.pp_model.specs.Holders.{times, given_back, loading, takes}
use Rattle.pp_model.specs.Budget.{peak_of}
use Rattle.pp_model.specs.Reached.{IsReached}
use Rattle.pp_model.specs.Laws.{PinIsLeft}
use Rattle.pp_model.specs.Marks.{marks_at, marks}
use Rattle.pp_model.specs.Fixing.{fixes}
use Rattle.pp_model.specs.Moves.{asked_by}
use Rattle.pp_model.proofs.Sums.{sum_by-lt, spread}
use Rattle.pp_model.proofs.Changes.{IsAsked}
use Rattle.pp_model.proofs.Seats.{IsSeat, asks_now, good}
use Rattle.pp_model.proofs.Room.{room}
use Rattle.pp_model.proofs.Stuck.{brings_fits, brings_it, takes_length, seat_takes, taken_pages, times_taken}
use Rattle.pp_model.proofs.FreeFrames.{range_once}

-- The pins of these pages are the times that they stand among the pages that the workers take.
pins_listed : (s : State) (qs : List ℕ)
    → sum_by (λ (x : PageMarks). x.pins) (mapped (marks_at s) qs)
    ≡ sum_by (λ q. times q (taken_pages s.seats)) qs
pins_listed s [] = refl
pins_listed s (q ∷ qs) =
    omega (
      arith,
      sum_by-cons (λ (x : PageMarks). x.pins) (marks_at s q) (mapped (marks_at s) qs),
      sum_by-cons (λ p. times p (taken_pages s.seats)) q qs,
      times_taken q s.seats,
      pins_listed s qs,
    )

pub pins_few : (s : State) → map.all_pins (marks s) ≤ sum_by (λ x. length (takes x)) s.seats
pins_few s =
    let pages = range_with_len 0 (length s.notes) in
    omega (
      arith,
      pins_listed s pages,
      spread pages (taken_pages s.seats) (range_once 0 (length s.notes)),
      length-flat_map takes s.seats,
    )

-- So is it where a plan asks the fix by its traces, or by the computed ask.
pub pin_is_left : (s : State) → IsReached s → PinIsLeft s
pin_is_left s h w page r a act asks brings =
    let g = good s h in
    let layout = s.settings.layout in
    let seat : IsSeat layout r = g.seats w (Some r) act.seat in
    let each : (v : ℕ) (x : Option Running) → slice_get s.seats v ≡ Some x → length (takes x) ≤ peak_of x =
    λ v x e. seat_takes layout x (g.seats v x e) in
    let less : suc (length (takes (Some r))) ≤ r.accepted.peak =
    omega (
      arith,
      takes_length r,
      ap (λ k. length (loading k)) act.stage,
      brings_fits layout r a page seat (ap given_back act.stage) asks brings,
    ) in
    omega (
      arith,
      pins_few s,
      sum_by-lt (λ x. length (takes x)) peak_of s.seats w (Some r) each act.seat less,
      room s h,
    )

pub pins_room : (s : State) → IsReached s → (w : ℕ) (r : Running) (slot page : ℕ)
    → IsAsked s w r (fixes (asked_by r) slot page) → map.all_pins (marks s) < s.settings.layout.frames
pins_room s h w r slot page asked =
    let seat : IsSeat s.settings.layout r = (good s h).seats w (Some r) asked.at.seat in
    pin_is_left s h w page r (fixes (asked_by r) slot page) (record { seat = asked.at.seat; stage = asked.at.stage })
    (asks_now s.settings.layout r (fixes (asked_by r) slot page) seat asked.names) (brings_it (asked_by r) slot page)
