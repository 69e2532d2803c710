-- Laws of wake-ups, for those who keep sleepers beside a vault.
use Rattle.std.specs.Prelude.{◌≡◌, ℕ, false, None, Some, Option, List, slice_set}
use Rattle.pp_model.specs.declared.refusals.Delay.{Delay}
use Rattle.pp_model.specs.Pool.{State, frame_of}
use Rattle.pp_vault.specs.declared.refusal.Refusal.TheVariants.{NotNow}
use Rattle.pp_vault.specs.Calls.{refusal_of}
use Rattle.pp_vault.specs.Holding.{placed}
use Rattle.pp_vault.specs.Parts as vault
use Rattle.pp_vault.specs.StandsFor.{StandsFor}
use Rattle.pp_pool.specs.declared.request.Request.{Request}
use Rattle.pp_pool.specs.Requests.{call_of}
use Rattle.pp_pool.specs.Replies.{IsMoveOf}
use Rattle.pp_wants.specs.declared.want.Want.{Want}
use Rattle.pp_wants.specs.declared.sleepers.Sleeper.{Sleeper}
use Rattle.pp_wants.specs.Wants.{want_when, asked}
use Rattle.pp_wants.specs.Sleepers.{untold, is_told, is_untold}
use Rattle.pp_wants.specs.WakeUps.{may_go, NoWakeUpIsLost}

-- Nobody sleeps that wasn't told, as where nobody sleeps.
abbrev pub NobodyWaits : List (Option Sleeper) → Type 0
NobodyWaits sleepers = (worker : ℕ) → is_untold (placed sleepers worker) ≡ false

-- Then no wake-up is lost.
abbrev pub NoneLostWhereNobodyWaits : Type 0
NoneLostWhereNobodyWaits =
    (v : vault.Parts) (sleepers : List (Option Sleeper)) → NobodyWaits sleepers → NoWakeUpIsLost v sleepers

-- The two states let the same workers go, and the same pages have a frame.
pub record LetsTheSameGo (s t : State) : Type 0 where
  pub moves : (worker : ℕ) (want : Want) → may_go t worker want ≡ may_go s worker want
  pub frames : (page : ℕ) → frame_of t page ≡ frame_of s page

-- Each state that the new vault stands for is so to one that the old vault stands for.
abbrev pub StandsForTheSame : (old new : vault.Parts) → Type 0
StandsForTheSame old new =
    (t : State) → StandsFor new t → (s : State) × (StandsFor old s × LetsTheSameGo s t)

-- Then, if none is lost with the old vault, none is with the new one.
abbrev pub LostByStatesAlone : Type 0
LostByStatesAlone =
    (old new : vault.Parts) (sleepers : List (Option Sleeper)) → StandsForTheSame old new
    → NoWakeUpIsLost old sleepers → NoWakeUpIsLost new sleepers

-- No wake-up is lost by a worker that falls asleep where it may not go, and doesn't sleep told already.
abbrev pub SleepingLosesNone : Type 0
SleepingLosesNone =
    (v : vault.Parts) (sleepers : List (Option Sleeper)) (worker : ℕ) (want : Want)
    → is_told (placed sleepers worker) ≡ false → ((s : State) → StandsFor v s → may_go s worker want ≡ false)
    → NoWakeUpIsLost v sleepers → NoWakeUpIsLost v (slice_set sleepers worker (Some (untold want)))

-- Nor by one that rises, where it wasn't told.
abbrev pub RisingLosesNone : Type 0
RisingLosesNone =
    (v : vault.Parts) (sleepers : List (Option Sleeper)) (worker : ℕ)
    → is_told (placed sleepers worker) ≡ false → NoWakeUpIsLost v sleepers
    → NoWakeUpIsLost v (slice_set sleepers worker None)

-- The want's move is the request's, and its worker may not go.
pub record IsWaitedFor (s : State) (request : Request) (want : Want) : Type 0 where
  pub worker : ℕ
  pub asks : IsMoveOf request (asked want worker)
  pub refused : may_go s worker want ≡ false

-- So it is where a request is refused with a delay that has it wait.
abbrev pub RefusedRequestsWait : Type 0
RefusedRequestsWait =
    (v : vault.Parts) (s : State) (request : Request) (want : Want) (delay : Delay)
    → want_when request delay ≡ Some want → refusal_of s (call_of v request s) ≡ Some (NotNow delay)
    → IsWaitedFor s request want
