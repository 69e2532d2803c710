-- A vault, and which of its chairs are out, with which peaks. A chair is a worker of the settings.
use Rattle.std.specs.Prelude.{◌≡◌, ◌≢◌, ◌⊎◌, ℕ, ◌-◌, ◌≤◌, ◌&&◌, nat_le, Bool, true, false, Option, None, Some}
use Rattle.std.specs.Prelude.{unwrap_or, is_none, is_some}
use Rattle.std.specs.Prelude.{List, [], position, sum_by, slice_get, slice_set, slice_index_or}
use Rattle.pp_settings.specs.declared.span.Span.TheVariants.{Bounded}
use Rattle.pp_cert.specs.Accepted.{Acceptance}
use Rattle.pp_model.specs.declared.refusals.SubmitError.{SubmitError}
use Rattle.pp_model.specs.declared.refusals.Delay.TheVariants.{NothingWaiting}
use Rattle.pp_frames.specs.Marks.{dirty_from}
use Rattle.pp_model.specs.Pool.{State, waiting, dirty_pages}
use Rattle.pp_model.specs.Marks.{marks}
use Rattle.pp_model.specs.Budget.{peak_of}
use Rattle.pp_core.specs.Submits.{PreparedFails}
use Rattle.pp_core.specs.Queries.{is_idle}
use Rattle.pp_vault.specs.declared.tokens.Session.{Session}
use Rattle.pp_vault.specs.declared.tokens.Chair.{Chair}
use Rattle.pp_vault.specs.declared.refusal.Refusal.TheVariants.{NotNow, Stranger}
use Rattle.pp_vault.specs.Parts as vault
use Rattle.pp_vault.specs.StandsFor.{StandsFor}
use Rattle.pp_vault.specs.Submits as vault_submits
use Rattle.pp_pool.specs.declared.request.Request.{Request}
use Rattle.pp_pool.specs.declared.request.Request.TheVariants.{Take}
use Rattle.pp_pool.specs.declared.response.Response.{Response}
use Rattle.pp_pool.specs.declared.response.BookAnswer.{BookAnswer}
use Rattle.pp_pool.specs.declared.response.BookAnswer.TheVariants.{Acts, No}
use Rattle.pp_ledger.specs.Sites.{Answers}
use Rattle.pp_hall.specs.declared.counts.Counts.{Counts}
use Rattle.pp_hall.specs.Counting.{counted_in}

-- What is kept of it.
pub record Parts : Type 0 where
  -- what its vault keeps
  pub vault : vault.Parts
  -- how many frames it has
  pub frames : ℕ
  -- at place w chair w: nothing where it is home, else the peak with which it is out
  pub peaks : List (Option ℕ)
  -- what was done in it
  pub counts : Counts

-- ---- room

-- The peaks of the chairs that are out, together.
abbrev pub pages_out : List (Option ℕ) → ℕ
pages_out peaks = sum_by (λ p. unwrap_or p 0) peaks

-- The first chair that is home, if one is.
abbrev pub first_home : List (Option ℕ) → Option ℕ
first_home peaks = position is_none peaks

-- The first chair that is out.
abbrev pub first_out : List (Option ℕ) → Option ℕ
first_out peaks = position is_some peaks

-- So many frames are free for a plan that starts: none where no chair is home.
abbrev pub room_with : Option ℕ → (free : ℕ) → ℕ
room_with None free = 0
room_with (Some chair) free = free

-- How many frames are free so.
abbrev pub room_of : Parts → ℕ
room_of x = room_with (first_home x.peaks) (x.frames - pages_out x.peaks)

-- ---- what holds of each

-- The peak of the plan that chair w runs in a state; zero where it runs none.
abbrev pub peak_at : State → (w : ℕ) → ℕ
peak_at s w = peak_of (slice_index_or s.seats w None)

-- The peak with which chair w is out; zero where it is home.
abbrev pub peak_out : List (Option ℕ) → (w : ℕ) → ℕ
peak_out peaks w = unwrap_or (slice_index_or peaks w None) 0

-- The vault stands for a state of an endless life, in which no plan waits. The plan of each worker has at most the peak
-- with which its chair is out, and these peaks come to at most the frames.
pub record IsSeating (x : Parts) : Type 0 where
  pub state : State
  pub stands : StandsFor x.vault state
  pub endless : state.settings.span ≢ Bounded
  pub straight : waiting state ≡ []
  pub frames : x.frames ≡ state.settings.layout.frames
  pub fits : (w : ℕ) → peak_at state w ≤ peak_out x.peaks w
  pub within : pages_out x.peaks ≤ x.frames

-- No plan waits in any state that the vault stands for.
abbrev pub NoPlanWaits : vault.Parts → Type 0
NoPlanWaits v = (s : State) → StandsFor v s → waiting s ≡ []

-- ---- what calls do

-- The chair is out with this peak.
abbrev pub out_with : Parts → (chair peak : ℕ) → Parts
out_with x chair peak = record x { peaks = slice_set x.peaks chair (Some peak) }

-- The chair is home.
abbrev pub come_home : Parts → (chair : ℕ) → Parts
come_home x chair = record x { peaks = slice_set x.peaks chair None }

-- The vault has prepared the plan, at this place. That is no event.
pub record Prepares (old : Parts) (a : Acceptance) (place : ℕ) (new : Parts) : Type 0 where
  pub prepares : vault_submits.Prepares old.vault a place new.vault
  pub rest : new ≡ record old { vault = new.vault }

-- The vault has answered the request, and what was done is counted. Nothing else has changed.
pub record Performs (old : Parts) (asked : Request) (response : Response) (new : Parts) : Type 0 where
  pub answers : Answers old.vault asked response new.vault
  pub rest : new ≡ record old { vault = new.vault; counts = counted_in old.counts response.event }

-- ---- a plan that is taken

-- Whether the chair is out with the plan's peak at least.
abbrev pub is_out_for : Option ℕ → Option Acceptance → Bool
is_out_for None plan = false
is_out_for (Some peak) None = false
is_out_for (Some peak) (Some plan) = nat_le plan.peak peak

-- Whether the plan that is prepared at this place is one for the chair, which is idle.
abbrev pub may_take : Parts → (chair place : ℕ) → State → Bool
may_take x chair place s =
    is_out_for (slice_index_or x.peaks chair None) (slice_get x.vault.core.plans place) && is_idle s chair

-- Two events: the prepared plan is submitted, and the chair takes it. It isn't refused; no other plan waits before or
-- after.
pub record TakesPlan (old : Parts) (chair : Chair) (place : ℕ) (response : Response) (new : Parts) : Type 0 where
  pub plan : Acceptance
  pub number : ℕ
  -- the vault once the plan waits
  pub between : vault.Parts
  pub may : (s : State) → StandsFor old.vault s → may_take old chair.worker place s ≡ true
  pub submits : vault_submits.TakesPrepared old.vault place number plan between
  pub answers : Answers between (Take chair) response new.vault
  pub session : Session
  pub acts : response.answer ≡ Acts session
  pub straight : NoPlanWaits new.vault
  pub rest : new ≡ record old { vault = new.vault }

-- The chair comes back, and nothing was done: it is a stranger where the plan isn't one for it; else the vault doesn't
-- take the plan in, and so nothing waits.
abbrev pub CannotTake : Parts → Chair → (place : ℕ) → BookAnswer → Type 0
CannotTake x chair place answer =
    ((answer ≡ No (Take chair) Stranger) × ((s : State) → StandsFor x.vault s → may_take x chair.worker place s ≡ false))
    ⊎ ((answer ≡ No (Take chair) (NotNow NothingWaiting)) × (error : SubmitError)
    × PreparedFails x.vault.core place error)

-- ---- the flusher

-- Whether a flush is wanted: so many pages at least are newer than the device's, and one of them lets a flush begin.
abbrev pub is_wanted : (from : ℕ) → State → Bool
is_wanted from s = nat_le from (dirty_pages s) && is_some (dirty_from (marks s) 0)
