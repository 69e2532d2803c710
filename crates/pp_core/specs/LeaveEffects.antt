-- What the moves of a worker that ends or leaves its plan need of what the core keeps, and what they do to it.
use Rattle.std.specs.Prelude.{◌≡◌, ℕ, ◌+◌, ◌-◌, ◌*◌, ◌<◌, ◌≤◌, ◌^◌, Bool, true, false, Option, None, Some, length}
use Rattle.std.specs.Prelude.{slice_set}
use Rattle.pp_model.specs.Budget.{spare_acting}
use Rattle.pp_settings.specs.Limits.{most_slots, step_events}
use Rattle.pp_bundles.specs.Bundles.{place_count}
use Rattle.pp_cert.specs.Accepted.{Acceptance}
use Rattle.pp_frames.specs.Marks.{pins_of, latch_count, latches_of}
use Rattle.pp_core.specs.declared.seat.Phase.{Phase}
use Rattle.pp_core.specs.declared.seat.Phase.TheVariants.{Acting, Writing, Reading, Leaving}
use Rattle.pp_core.specs.declared.seat.Seat.{Seat}
use Rattle.pp_core.specs.Parts.{Parts}
use Rattle.pp_core.specs.Effects.{IsIn, Runs, unpinned, scattered, CanUnpinAll, bundle_pages}
use Rattle.pp_core.specs.Gathered.{bundle_place}

-- A worker at this phase leaves its plan.
abbrev pub is_leaving : Option (Option Phase) → Bool
is_leaving None = false
is_leaving (Some None) = false
is_leaving (Some (Some Acting)) = false
is_leaving (Some (Some (Writing slot page victim))) = false
is_leaving (Some (Some (Reading slot page))) = false
is_leaving (Some (Some Leaving)) = true

-- Worker w isn't idle.
pub record HasPlan (f : Parts) (w : ℕ) : Type 0 where
  pub seat : Seat
  pub accepted : Acceptance
  pub runs : Runs f w seat accepted

-- It has done no more actions than its plan has.
pub record CanCount (f : Parts) (w : ℕ) : Type 0 where
  pub seat : Seat
  pub accepted : Acceptance
  pub runs : Runs f w seat accepted
  pub actions : seat.actions ≤ accepted.steps
  pub limit : accepted.steps ≤ 1000000

-- The moves that the bound counts for it.
abbrev pub left_of : Seat → Acceptance → ℕ
left_of x a = step_events * (a.steps - x.actions) + spare_acting

-- Its peak runs, and so many moves are left.
pub record CanEnd (f : Parts) (w left : ℕ) : Type 0 where
  pub seat : Seat
  pub accepted : Acceptance
  pub runs : Runs f w seat accepted
  pub peak : accepted.peak ≤ f.running
  pub budget : left ≤ f.budget

-- The worker is idle, and its peak and the moves left go.
abbrev pub ended : Parts → (w peak left : ℕ) → Parts
ended f w peak left =
    record f { seats = slice_set f.seats w None; running = f.running - peak; budget = f.budget - left }

-- Worker w has this slot, and holds some.
pub record CanEmpty (f : Parts) (w slot : ℕ) : Type 0 where
  pub seat : Seat
  pub is_in : IsIn f w seat
  pub width : length seat.slots ≡ most_slots
  pub few : slot < most_slots
  pub some : 0 < seat.holds

-- The slot holds nothing from now on.
abbrev pub emptied : ℕ → Seat → Seat
emptied slot x = record x { slots = slice_set x.slots slot None; holds = x.holds - 1 }

-- The slot can be emptied, and a pin goes off the page.
pub record CanGiveBack (f : Parts) (w slot page : ℕ) : Type 0 where
  pub can : CanEmpty f w slot
  pub spare : latch_count (latches_of f.marks page) < pins_of f.marks page
  pub budget : 0 < f.budget

-- The slot, a bundle, can be emptied, and a pin goes off each of its pages.
pub record CanGiveAllBack (f : Parts) (w slot : ℕ) : Type 0 where
  pub can : CanEmpty f w slot
  pub place : bundle_place w slot < place_count f.bundles
  pub fits : bundle_place w slot < 2 ^ 32
  pub spare : CanUnpinAll (bundle_pages f w slot) f.marks
  pub budget : 0 < f.budget

-- The slot is empty, and each page of the bundle has a pin less.
abbrev pub all_given_back : Parts → (w : ℕ) → Seat → (slot : ℕ) → Parts
all_given_back f w x slot =
    record (scattered f (bundle_place w slot)) {
      seats = slice_set f.seats w (Some (emptied slot x));
      budget = f.budget - 1;
    }

-- The slot is empty, and the page has one pin less.
abbrev pub given_back : Parts → (w : ℕ) → Seat → (slot page : ℕ) → Parts
given_back f w x slot page =
    record f {
      seats = slice_set f.seats w (Some (emptied slot x));
      marks = unpinned f.marks page;
      budget = f.budget - 1;
    }
