-- Seats, plans and pages of reached states are those of the settings, and what a worker has done begins a trace.
use Rattle.std.proofs.Common.{◌⊎◌, ℕ, ◌<◌, ◌≤◌, Some, inl, inr, sym, arith}
use Rattle.std.specs.Prelude.{IsTrue, length, nat_lt}
use Rattle.std.proofs.lemmas.Bool.{cases_lt}
use Rattle.std.proofs.lemmas.Bool.Decides.{nat_tests}
use Rattle.std.proofs.lemmas.List.{get_or_past}
use Rattle.pp_model.specs.Pool.{State, untouched}
use Rattle.pp_model.specs.Holders.{pins_of, errands_of}
use Rattle.pp_model.specs.Reached.{IsReached}
use Rattle.pp_model.specs.Laws.{SeatsAreWorkers, PlansAreOfTheLayout, PagesAreOfTheLayout, DoneBeginsATrace}
use Rattle.pp_model.proofs.Counts.{counted}
use Rattle.pp_model.proofs.Seats.{good}
use Rattle.pp_model.proofs.Soundness.{sound}
use Rattle.pp_model.proofs.Totals.{loads_of, pins_are, errands_are}
use Rattle.pp_model.proofs.Framed.{notes_length, taken_low, victim_low, flushed_low}

pub seats_are_workers : (s : State) → IsReached s → SeatsAreWorkers s
seats_are_workers s h = (counted s h).workers

pub plans_are_of_the_layout : (s : State) → IsReached s → PlansAreOfTheLayout s
plans_are_of_the_layout s h k a e = sym ((good s h).plans k a e).layout

pub done_begins_a_trace : (s : State) → IsReached s → DoneBeginsATrace s
done_begins_a_trace s h w r e = ((good s h).seats w (Some r) e).begun

-- A page that is loaded or written back has a note.
away_low : (s : State) → IsReached s → (q : ℕ) → 0 < errands_of s q → q < length s.notes
away_low s h q some = go (cases_lt 0 (loads_of s q))
  where
    go : (0 < loads_of s q) ⊎ (loads_of s q ≤ 0) → q < length s.notes
    go (inl lt) = taken_low s h q (omega (arith, lt))
    go (inr le) = victim_low s h q (omega (arith, le, some, errands_are s q))

counts : (n : ℕ) → IsTrue (nat_lt 0 n) → 0 < n
counts n is = grind (arith, nat_tests)

pub pages_are_of_the_layout : (s : State) → IsReached s → PagesAreOfTheLayout s
pages_are_of_the_layout s h =
    let long = notes_length s h in
    record {
      notes = long;
      others = λ q le. get_or_past s.notes q untouched (omega (arith, le, long));
      named = λ q some. omega (arith, (sound s h).bounds.below q some, (sound s h).pages);
      taken = λ q is. omega (arith, long, taken_low s h q (omega (arith, counts (pins_of s q) is, pins_are s q)));
      in_flight = λ q is. omega (arith, long, away_low s h q (counts (errands_of s q) is));
      flushed = λ f e. omega (arith, long, flushed_low s h f e);
    }
