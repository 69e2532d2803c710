-- What the begin of a plan needs of what the core keeps, and what it does to it.
use Rattle.std.specs.Prelude.{◌≡◌, ℕ, ◌+◌, ◌-◌, ◌<◌, ◌^◌, Bool, nat_le, Option, None, Some, option_map, option_and_then, slice_get}
use Rattle.std.specs.Prelude.{drop}
use Rattle.std.specs.Prelude.{slice_set}
use Rattle.pp_cert.specs.Accepted.{Acceptance}
use Rattle.pp_core.specs.declared.seat.Seat.{Seat}
use Rattle.pp_core.specs.Seats.{IsBegun}
use Rattle.pp_core.specs.Parts.{Parts}

-- The first plan that waits, and its peak.
abbrev pub first_plan : Parts → Option Acceptance
first_plan f = option_and_then (slice_get f.plans) (slice_get f.waiting 0)

abbrev pub waiting_peak : Parts → Option ℕ
waiting_peak f = option_map (λ (a : Acceptance). a.peak) (first_plan f)

-- A plan of this peak fits beside those that run.
abbrev pub has_room : Parts → ℕ → Bool
has_room f peak = nat_le (peak + f.running) f.layout.frames

-- Worker w is idle, a plan waits, and the numbers have room for it.
pub record CanBegin (f : Parts) (w : ℕ) : Type 0 where
  pub accepted : Acceptance
  pub place : ℕ
  pub first : slice_get f.waiting 0 ≡ Some place
  pub plan : slice_get f.plans place ≡ Some accepted
  pub idle : slice_get f.seats w ≡ Some None
  pub taken : f.taken + 1 < 2 ^ 64
  pub running : f.running + accepted.peak < 2 ^ 64
  pub budget : 0 < f.budget

-- It has begun the plan.
pub record Began (f g : Parts) (w place : ℕ) (a : Acceptance) : Type 0 where
  pub seat : Seat
  pub begun : IsBegun a.plan f.taken place seat
  pub rest : g ≡ record f {
    seats = slice_set f.seats w (Some seat);
    waiting = drop 1 f.waiting;
    taken = f.taken + 1;
    running = f.running + a.peak;
    budget = f.budget - 1;
  }
