-- What the flusher asks, and what comes of it.
use Rattle.std.specs.Prelude.{◌≡◌, ℕ, ◌+◌, ◌-◌, ◌^◌, min, List, Option, None, Some, is_ok, if◌then◌else◌}
use Rattle.pp_model.specs.declared.moves.Move.TheVariants.{FlushBegin, FlushDone}
use Rattle.pp_model.specs.declared.event.Event.{Event}
use Rattle.pp_model.specs.declared.event.Event.TheVariants.{Step}
use Rattle.pp_model.specs.declared.refusals.Cause.TheVariants.{NotDirty, NoFlushLeft}
use Rattle.pp_device.specs.Answers.{Answer as DeviceAnswer}
use Rattle.pp_vault.specs.declared.refusal.Refusal.{Refusal}
use Rattle.pp_vault.specs.declared.refusal.Refusal.TheVariants as refusal
use Rattle.pp_vault.specs.declared.tokens.Errand.{Errand}
use Rattle.pp_vault.specs.declared.tokens.Returned.{Returned}
use Rattle.pp_vault.specs.declared.hands.Flushing.{Flushing}
use Rattle.pp_vault.specs.declared.hands.Flushing.TheVariants.{Out, Back}
use Rattle.pp_vault.specs.Duties.{duty_worker}
use Rattle.pp_vault.specs.Carrying.{CarriesOut}
use Rattle.pp_pool.specs.declared.request.Request.{Request}
use Rattle.pp_pool.specs.declared.request.Request.TheVariants as request
use Rattle.pp_pool.specs.declared.response.BookAnswer.{BookAnswer}
use Rattle.pp_pool.specs.declared.response.BookAnswer.TheVariants as answer
use Rattle.pp_pool.specs.declared.turned.Turned.{Turned}
use Rattle.pp_pool.specs.declared.turned.Turned.TheVariants.{Done, NotNow, Ended, Broken}

-- ---- what is asked

-- The errand's one call of the device is made, and what came of it is sent by a request that tells it.
pub record Sends {D : Type 0} (reads : D → ℕ → List ℕ → DeviceAnswer → List ℕ → D → Type 0)
    (writes : D → ℕ → List ℕ → DeviceAnswer → D → Type 0) (calls failures : D → ℕ) (tells : Returned → Request → Type 0)
    (errand : Errand) (old : D) (asked : Request) (new : D) : Type 0 where
  pub returned : Returned
  pub sent : tells returned asked
  pub duty : returned.duty ≡ errand.duty
  pub made : CarriesOut reads writes errand.duty old errand.image returned.answer returned.image new
  pub called : calls new ≡ calls old + 1
  pub failed : failures new ≡ failures old + (if is_ok returned.answer then 0 else 1)

-- The request tells what came of a device.
abbrev pub IsAnswer : Returned → Request → Type 0
IsAnswer returned asked = asked ≡ request.Answer returned

-- The worker whose errand is in hand; none for a flush, or where nothing is in hand.
abbrev pub flushing_worker : Option Flushing → Option ℕ
flushing_worker None = None
flushing_worker (Some (Out errand)) = duty_worker errand.duty
flushing_worker (Some (Back returned)) = duty_worker returned.duty

-- The flush in hand, if there is one, is no worker's errand.
abbrev pub IsFlush : Option Flushing → Type 0
IsFlush flushing = flushing_worker flushing ≡ None

-- What the flusher asks by what it has in hand: with an errand it calls the device once, and else it does not.
abbrev pub AsksFlush : {D : Type 0} → (D → ℕ → List ℕ → DeviceAnswer → List ℕ → D → Type 0)
    → (D → ℕ → List ℕ → DeviceAnswer → D → Type 0) → (D → ℕ) → (D → ℕ) → Option Flushing → (from : ℕ) → D → Request
    → D → Type 0
AsksFlush reads writes calls failures None from old asked new = (asked ≡ request.FlushNext from) × (new ≡ old)
AsksFlush reads writes calls failures (Some (Out errand)) from old asked new =
    Sends reads writes calls failures IsAnswer errand old asked new
AsksFlush reads writes calls failures (Some (Back returned)) from old asked new = IsAnswer returned asked × (new ≡ old)

-- ---- what comes of it

-- How many ends of a flush an event is, and how many that failed.
abbrev pub ends_in : Option Event → ℕ
ends_in (Some (Step (FlushDone ok) reply)) = 1
ends_in _ = 0

abbrev pub failures_in : Option Event → ℕ
failures_in (Some (Step (FlushDone ok) reply)) = if ok then 0 else 1
failures_in _ = 0

-- Where the next flush is sought: behind the page that was begun, up to the greatest number of 32 bits.
abbrev pub from_after : (from : ℕ) → Option Event → ℕ
from_after from (Some (Step (FlushBegin page) reply)) = min (page + 1) (2 ^ 32 - 1)
from_after from _ = from

-- What the flusher has in hand where its request comes back, and after any answer.
abbrev pub flushing_asked : Request → Option Flushing
flushing_asked (request.Answer returned) = Some (Back returned)
flushing_asked _ = None

abbrev pub flushing_after : BookAnswer → Option Flushing
flushing_after (answer.Away errand) = Some (Out errand)
flushing_after (answer.No back why) = flushing_asked back
flushing_after _ = None

-- A refusal ends a turn so: there is nothing to flush; it may be possible later; or it is a slip.
abbrev pub flush_turned_by : Refusal → Turned
flush_turned_by (refusal.NotNow delay) = NotNow
flush_turned_by (refusal.OffPlan NotDirty) = Ended
flush_turned_by (refusal.OffPlan NoFlushLeft) = Ended
flush_turned_by _ = Broken

abbrev pub flush_turned : BookAnswer → Turned
flush_turned (answer.No back why) = flush_turned_by why
flush_turned _ = Done

-- As many flushes were ended as can be counted.
abbrev pub most_ended : ℕ
most_ended = 2 ^ 64 - 1

-- The request is the flusher's.
abbrev pub IsFlushersAsk : Request → Type 0
IsFlushersAsk (request.Answer returned) = duty_worker returned.duty ≡ None
IsFlushersAsk (request.FlushNext number) = Unit {0}
IsFlushersAsk _ = ⊥

-- The tokens of an answer to the flusher are the flusher's.
abbrev pub IsFlushers : BookAnswer → Type 0
IsFlushers (answer.Away errand) = duty_worker errand.duty ≡ None
IsFlushers (answer.Flushed clean) = Unit {0}
IsFlushers (answer.No back why) = IsFlushersAsk back
IsFlushers _ = ⊥
