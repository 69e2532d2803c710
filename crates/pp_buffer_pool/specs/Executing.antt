-- What one call of `execute` does.
use Rattle.std.specs.Prelude.{◌≡◌, ℕ, Bool, true, false, List, [], ◌∷◌, ◌++◌, Option, Some}
use Rattle.std.specs.List.{list_all, list_any}
use Rattle.pp_model.specs.declared.event.Event.{Event}
use Rattle.pp_model.specs.declared.event.Event.TheVariants.{Step}
use Rattle.pp_model.specs.declared.moves.Move.TheVariants as move
use Rattle.pp_model.specs.declared.reply.Reply.TheVariants as reply
use Rattle.pp_model.specs.declared.reply.Ending.{Ending}
use Rattle.pp_model.specs.declared.reply.Ending.TheVariants as ending
use Rattle.pp_model.specs.declared.reply.Failure.{Failure}
use Rattle.pp_model.specs.declared.reply.Failure.TheVariants.{WriteFault, ReadFault, Misread}
use Rattle.pp_model.specs.WorkerParts.{names_worker}
use Rattle.pp_device.specs.declared.device.Device as Device
use Rattle.pp_vault.specs.declared.tokens.Chair.{Chair}
use Rattle.pp_vault.specs.declared.stage.Stage.TheVariants as stage
use Rattle.pp_vault.specs.Stages.{is_chair}
use Rattle.pp_pool.specs.declared.response.Response.{Response}
use Rattle.pp_pool.specs.declared.turned.Turned.TheVariants.{Done}
use Rattle.pp_pool.specs.declared.site.Site as Site
use Rattle.pp_pool.specs.declared.work.Work as Work
use Rattle.pp_pool.specs.declared.work.End.{End}
use Rattle.pp_pool.specs.declared.work.End.TheVariants as end
use Rattle.pp_pool.specs.declared.worker.Worker.{Worker}
use Rattle.pp_pool.specs.Turns.{Turns, IsToldEnd}
use Rattle.pp_hall.specs.declared.error.EnterError.{EnterError}
use Rattle.pp_hall.specs.declared.error.EnterError.TheVariants as entering
use Rattle.pp_buffer_pool.specs.declared.error.ExecuteError.{ExecuteError}
use Rattle.pp_buffer_pool.specs.declared.error.ExecuteError.TheVariants as error
use Rattle.pp_buffer_pool.specs.declared.outcome.Outcome.{Outcome}
use Rattle.pp_buffer_pool.specs.declared.outcome.Outcome.TheVariants as outcome
use Rattle.pp_buffer_pool.specs.Sites.{call_site, TakesAtOnce}

-- ---- outcomes and errors

-- A plan's end as an outcome.
abbrev pub outcome_as : End → Outcome
outcome_as end.Done = outcome.Done
outcome_as (end.Gone page why) = outcome.Gone page why

-- How the last move of a plan is answered that ended so.
abbrev pub ending_of : End → Ending
ending_of end.Done = ending.Done
ending_of (end.Gone page why) = ending.Gone

-- The error of a plan that isn't let in.
abbrev pub refused_entry : EnterError → ExecuteError
refused_entry entering.Stopped = error.Stopped
refused_entry entering.Full = error.QueueFull
refused_entry entering.TooLarge = error.TooLarge

-- ---- the events of one plan

-- A move of this worker that neither takes a plan nor ends one.
abbrev pub is_within : (w : ℕ) → Event → Bool
is_within w (Step (move.Take v) out) = false
is_within w (Step (move.Finish v) out) = false
is_within w e = names_worker w e

-- The worker took the plan of this number first; last its plan ended so; and between are moves of the worker in that
-- plan.
pub record AreOfOnePlan (w number : ℕ) (how : Ending) (events : List Event) : Type 0 where
  pub within : List Event
  pub own : list_all (is_within w) within ≡ true
  pub all : events
      ≡ Step (move.Take w) (reply.Taken number) ∷ (within ++ Step (move.Finish w) (reply.Finished how) ∷ [])

-- Whether a cause is this one.
abbrev pub same_failure : Failure → Failure → Bool
same_failure WriteFault WriteFault = true
same_failure ReadFault ReadFault = true
same_failure Misread Misread = true
same_failure _ _ = false

-- Whether the event tells that a call of the device came to this failure.
abbrev pub is_failure : Failure → Event → Bool
is_failure why (Step (move.ReadDone w came) (reply.Failed how)) = same_failure why how
is_failure why (Step (move.WriteDone w ok) (reply.Failed how)) = same_failure why how
is_failure why _ = false

-- A plan that is gone has an event that tells of its cause.
abbrev pub IsCause : End → List Event → Type 0
IsCause end.Done events = Unit {0}
IsCause (end.Gone page why) events = list_any (is_failure why) events ≡ true

-- ---- turns

-- Turns follow one another, and lead over these workers and works. In each one request was made, and it was done and
-- logged.
abbrev pub TurnsDone : {S D W : Type 0} → Site.Ghosts S → Device.Ghosts D → Work.Ghosts W → (old : Worker S D)
    → (before : W) → List (Worker S D × W) → (new : Worker S D) → (left : W) → Type 0
TurnsDone s d k old before [] new left = (new ≡ old) × (left ≡ before)
TurnsDone s d k old before (mid ∷ rest) new left =
    Turns s d k old before Done mid.0 mid.1 × TurnsDone s d k mid.0 mid.1 rest new left

-- The worker, idle and with an empty log, takes the plan that is prepared at this place, and makes turn after turn
-- until it is idle again. Its log is that of the plan, which ended so.
pub record RunsPlan {D W : Type 0} (d : Device.Ghosts D) (k : Work.Ghosts W) (place : ℕ) (first : Worker (Option ℕ) D)
    (before : W) (how : End) (last : Worker (Option ℕ) D) (left : W) : Type 0 where
  pub chair : Chair
  pub idle : first.hand.stage ≡ stage.Idle chair
  pub empty : first.log.items ≡ []
  pub has_plan : first.site ≡ Some place
  pub number : ℕ
  pub response : Response
  pub takes : TakesAtOnce place number chair response
  pub over : List (Worker (Option ℕ) D × W)
  pub turns : TurnsDone call_site d k first before over last left
  pub events : AreOfOnePlan chair.worker number (ending_of how) last.log.items
  pub cause : IsCause how last.log.items
  pub home : is_chair last.hand.stage ≡ true

-- A plan was run so on some worker.
pub record RunsOnSome {D W : Type 0} (d : Device.Ghosts D) (k : Work.Ghosts W) (place : ℕ) (before : W) (how : End)
    (left : W) : Type 0 where
  pub first : Worker (Option ℕ) D
  pub last : Worker (Option ℕ) D
  pub runs : RunsPlan d k place first before how last left

-- A call runs the plan that is prepared at this place, for this work, on a worker that a hall gave it. In the end the
-- caller is told how the plan ended. The work is then what its own call for that leaves, or as it was before: which of
-- the two isn't said.
pub record Executes {D W : Type 0} (d : Device.Ghosts D) (k : Work.Ghosts W) (place : ℕ) (before : W) (out : Outcome)
    (after : W) : Type 0 where
  pub how : End
  pub out_is : out ≡ outcome_as how
  pub first : Worker (Option ℕ) D
  pub last : Worker (Option ℕ) D
  pub left : W
  pub runs : RunsPlan d k place first before how last left
  pub told : IsToldEnd k left how after
