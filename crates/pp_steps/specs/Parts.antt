-- What contracts see of a pool whose host is asked for each step.
use Rattle.std.specs.Prelude.{◌≡◌, ℕ, ◌≤◌, ◌+◌, ◌==◌, ◌&&◌, Bool, true, false, Option, Some, IfSome, is_some, List, length}
use Rattle.pp_hall.specs.Calls.{is_out}
use Rattle.pp_hall.specs.Halls as halls
use Rattle.pp_steps.specs.declared.flusher.AwayFlusher.{AwayFlusher}
use Rattle.pp_steps.specs.declared.pass.Pass.{Pass}
use Rattle.pp_steps.specs.declared.plans.KeptPlan.{KeptPlan}
use Rattle.pp_steps.specs.declared.seats.Place.{Place}
use Rattle.pp_steps.specs.declared.seated.Seated.{Seated}
use Rattle.pp_steps.specs.Lines as lines
use Rattle.pp_steps.specs.Seats.{EachSeated}
use Rattle.pp_steps.specs.Turning.{IsAtRest, RestsFlusher}

-- What it keeps.
pub record Parts : Type 0 where
  pub hall : halls.Parts
  -- at place k the plan of number k
  pub plans : List KeptPlan
  -- who waits to start
  pub line : lines.Parts
  -- at place w who runs on chair w
  pub seats : List (Place Seated)
  -- how many had the flusher's pass, and the flusher, where it is out
  pub flushed : ℕ
  pub flusher : Option AwayFlusher

-- The one that runs on this chair is at rest, and its chair is out of the hall.
pub record IsSeated (h : halls.Parts) (chair : ℕ) (seated : Seated) : Type 0 where
  pub rests : IsAtRest chair seated
  pub out : is_out h (Some chair) ≡ true

-- The flusher that is out is at rest, and not at home.
pub record IsFlushing (h : halls.Parts) (f : AwayFlusher) : Type 0 where
  pub rests : RestsFlusher f.flusher
  pub away : h.posts.is_flusher_home ≡ false

-- Each that runs is seated so.
abbrev pub AreSeated : halls.Parts → List (Place Seated) → Type 0
AreSeated h seats = EachSeated (IsSeated h) seats

-- What holds of each whenever no call is under way.
pub record IsSteps (x : Parts) : Type 0 where
  pub seats : AreSeated x.hall x.seats
  pub flusher : IfSome x.flusher (IsFlushing x.hall)
  pub wide : length x.seats ≡ length x.hall.seating.peaks

-- Whether this is the flusher's pass.
abbrev pub is_flushers : Parts → Pass → Bool
is_flushers x pass =
    (pass.bell == x.line.first + length x.line.places) && ((pass.turn == x.flushed) && is_some x.flusher)
