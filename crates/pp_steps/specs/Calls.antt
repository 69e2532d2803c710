-- What the calls of a pool do whose host is asked for each step.
use Rattle.std.specs.Prelude.{◌≡◌, ◌⊎◌, ℕ, ◌+◌, ◌-◌, ◌==◌, ◌&&◌, ◌||◌, ◌*◌, ◌^◌, ◌↔◌, ◌≤◌, min, not, Bool, true, false, Option, None, Some, Ok, Err, Result}
use Rattle.std.specs.Prelude.{IfOk, IsOk, IsSome, is_some, List, ◌++◌, ◌∷◌, [], length, slice_get, if◌then◌else◌}
use Rattle.pp_cert.specs.Accepted.{Acceptance}
use Rattle.pp_settings.specs.Limits.{step_events, plan_events}
use Rattle.pp_core.specs.Submits.{PrepareFails}
use Rattle.pp_model.specs.Pool.{State}
use Rattle.pp_vault.specs.StandsFor.{StandsFor}
use Rattle.pp_vault.specs.declared.hands.Flushing.{Flushing}
use Rattle.pp_vault.specs.declared.stage.Hand.{Hand}
use Rattle.pp_vault.specs.declared.stage.Stage.{Stage}
use Rattle.pp_vault.specs.Stages.{is_chair, stage_worker}
use Rattle.pp_pool.specs.declared.turned.Turned.{Turned}
use Rattle.pp_pool.specs.declared.turned.Turned.TheVariants as turned
use Rattle.pp_pool.specs.declared.work.End.{End}
use Rattle.pp_pool.specs.declared.flusher.Flusher.{Flusher}
use Rattle.pp_hall.specs.declared.told.Told.{Told}
use Rattle.pp_hall.specs.Halls as halls
use Rattle.pp_hall.specs.Calls as hall
use Rattle.pp_hall.specs.declared.error.EnterError.TheVariants as hall_enter
use Rattle.pp_hall.specs.Seatings.{is_wanted}
use Rattle.pp_steps.specs.declared.device.Answer.{Answer}
use Rattle.pp_steps.specs.declared.device.Answer.TheVariants as answer
use Rattle.pp_steps.specs.declared.error.EnterError.{EnterError}
use Rattle.pp_steps.specs.declared.error.EnterError.TheVariants as enter_error
use Rattle.pp_steps.specs.declared.error.GoError.{GoError}
use Rattle.pp_steps.specs.declared.error.GoError.TheVariants as go_error
use Rattle.pp_steps.specs.declared.error.PassError.{PassError}
use Rattle.pp_steps.specs.declared.error.PassError.TheVariants as pass_error
use Rattle.pp_steps.specs.declared.error.KeepError.{KeepError}
use Rattle.pp_steps.specs.declared.error.KeepError.TheVariants as keep_error
use Rattle.pp_steps.specs.declared.flusher.AwayFlusher.{AwayFlusher}
use Rattle.pp_steps.specs.declared.flusher.FlushWish.{FlushWish}
use Rattle.pp_steps.specs.declared.flusher.FlushWish.TheVariants as flush_wish
use Rattle.pp_steps.specs.declared.going.Came.{Came}
use Rattle.pp_steps.specs.declared.going.Went.{Went}
use Rattle.pp_steps.specs.declared.going.Went.TheVariants as went
use Rattle.pp_steps.specs.declared.line.Waiter.{Waiter}
use Rattle.pp_steps.specs.declared.pass.Pass.{Pass}
use Rattle.pp_steps.specs.declared.plans.KeptPlan.{KeptPlan}
use Rattle.pp_steps.specs.declared.rings.Rings.{Rings}
use Rattle.pp_steps.specs.declared.seated.Seated.{Seated}
use Rattle.pp_steps.specs.declared.seats.Place.{Place}
use Rattle.pp_steps.specs.declared.step.Step.{Step}
use Rattle.pp_steps.specs.declared.step.Step.TheVariants as step
use Rattle.pp_steps.specs.Devices as devices
use Rattle.pp_steps.specs.Devices.{has_come}
use Rattle.pp_steps.specs.Lines as lines
use Rattle.pp_steps.specs.Lines.{waiter_at}
use Rattle.pp_steps.specs.Parts.{Parts, is_flushers}
use Rattle.pp_steps.specs.Ringing.{AreRings, nobody}
use Rattle.pp_steps.specs.Seats as seats
use Rattle.pp_steps.specs.Seats.{seated_at, with_seat, EachSeated}
use Rattle.pp_steps.specs.Sites as sites
use Rattle.pp_steps.specs.Sites.{nobody_told, AreBoth}
use Rattle.pp_steps.specs.StepsOf.{step_of_hand, step_of_flush, takes}
use Rattle.pp_steps.specs.Turning.{TurnsOver, FlushesOver, IsAtRest}

-- ---- plans

-- The plan is kept, under the next number.
pub record Keeps (old : Parts) (a : Acceptance) (number : ℕ) (plan : KeptPlan) (rings : Rings) (new : Parts) : Type 0 where
  pub number_is : number ≡ length old.plans
  pub peak : plan.peak ≡ a.peak
  pub cost : plan.cost ≡ step_events * a.steps + plan_events
  pub after : halls.Parts
  pub told : Told
  pub prepares : hall.Prepares old.hall a plan.prepared told after
  pub rings_are : AreRings old.line told rings
  pub new_is : new ≡ record old { hall = after; plans = old.plans ++ plan ∷ [] }

-- ---- who waits

-- One more waits, in the hall's queue and in the line, and has this pass, which nobody had before.
pub record Enters (old : Parts) (plan : ℕ) (pass : Pass) (new : Parts) : Type 0 where
  pub fresh : lines.IsNextPass old.line pass
  pub kind : KeptPlan
  pub there : slice_get old.plans plan ≡ Some kind
  pub hall : new.hall ≡ hall.one_more old.hall kind.peak
  pub line : new.line ≡ lines.put_at old.line (pass.bell - old.line.first) pass.turn
      (record { ticket = old.hall.waiters.queue.next; plan = kind })
  pub waits : waiter_at new.line pass ≡ Some (record { ticket = old.hall.waiters.queue.next; plan = kind })
  pub rest : new ≡ record old { hall = new.hall; line = new.line }

-- No more may wait who want this plan run: no place of the line is free, or the hall's queue takes none.
pub record IsFullFor (old : Parts) (plan : ℕ) : Type 0 where
  pub goes_on : old.hall.waiters.is_stopped ≡ false
  pub kind : KeptPlan
  pub there : slice_get old.plans plan ≡ Some kind
  pub full : lines.HasNoFree old.line.places ⊎ hall.EnterFails old.hall kind.peak hall_enter.TooLarge
      ⊎ hall.EnterFails old.hall kind.peak hall_enter.Full

-- Why one doesn't come.
abbrev pub EnterFails : Parts → (plan : ℕ) → EnterError → Type 0
EnterFails old plan enter_error.NoSuchPlan = slice_get old.plans plan ≡ None
EnterFails old plan enter_error.Stopped = IsSome (slice_get old.plans plan) × (old.hall.waiters.is_stopped ≡ true)
EnterFails old plan enter_error.Full = IsFullFor old plan

-- The pool without the one that waits with this pass.
abbrev pub without_waiter : Parts → Pass → Parts
without_waiter x pass = record x { line = lines.without x.line pass }

-- The one that waited has the worker of this chair, with its plan to take, and this pass, which nobody had before.
pub record Starts (old : Parts) (waiter : Waiter) (pass next : Pass) (rings : Rings) (new : Parts) : Type 0 where
  pub after : halls.Parts
  pub told : Told
  pub starts : hall.Starts old.hall waiter.ticket (Some next.bell) told after
  pub fresh : seats.IsNextSeat old.seats next
  pub seated : Seated
  pub idle : is_chair seated.worker.hand.stage ≡ true
  pub plan : seated.plan ≡ waiter.plan
  pub new_is : new
      ≡ record old { hall = after; line = lines.without old.line pass; seats = with_seat old.seats next seated }
  pub rings_are : AreRings (lines.without old.line pass) told rings

-- It waits on, and its thread sleeps.
pub record Waits (old : Parts) (waiter : Waiter) (rings : Rings) (new : Parts) : Type 0 where
  pub after : halls.Parts
  pub told : Told
  pub waits : hall.Waits old.hall waiter.ticket told after
  pub new_is : new ≡ record old { hall = after }
  pub rings_are : AreRings old.line told rings

-- Nobody starts any more, and it waits no more.
pub record IsTurnedAway (old : Parts) (waiter : Waiter) (pass : Pass) (rings : Rings) (new : Parts) : Type 0 where
  pub after : halls.Parts
  pub told : Told
  pub turned : hall.IsTurnedAway old.hall waiter.ticket told after
  pub new_is : new ≡ record old { hall = after; line = lines.without old.line pass }
  pub rings_are : AreRings (lines.without old.line pass) told rings

-- The worker that the hall has handed out isn't idle, and was brought back: its chair stays out, and the one that waited waits no more.
pub record IsBroken (old : Parts) (waiter : Waiter) (pass : Pass) (rings : Rings) (new : Parts) : Type 0 where
  pub at : Stage
  pub busy : is_chair at ≡ false
  pub between : halls.Parts
  pub told : Told
  pub starts : hall.Starts old.hall waiter.ticket (stage_worker at) told between
  pub after : halls.Parts
  pub more : Told
  pub parks : hall.Parks between at more after
  pub both : Told
  pub either : AreBoth told more both
  pub new_is : new ≡ record old { hall = after; line = lines.without old.line pass }
  pub rings_are : AreRings (lines.without old.line pass) both rings

-- What the one is answered that wants to start.
abbrev pub StartIs : Parts → Waiter → Pass → Result Pass GoError → Rings → Parts → Type 0
StartIs old waiter pass (Ok next) rings new = Starts old waiter pass next rings new
StartIs old waiter pass (Err go_error.NotNow) rings new = Waits old waiter rings new
StartIs old waiter pass (Err go_error.Stopped) rings new = IsTurnedAway old waiter pass rings new
StartIs old waiter pass (Err go_error.Broken) rings new = IsBroken old waiter pass rings new
StartIs old waiter pass (Err why) rings new = ⊥

-- Whether one runs with this pass, or the flusher has it.
abbrev pub has_started : Parts → Pass → Bool
has_started x pass = is_some (seated_at x.seats pass) || is_flushers x pass

-- Why a pass can't start with which nobody waits.
abbrev pub unwaiting : Parts → Pass → GoError
unwaiting x pass = if has_started x pass then go_error.WrongStep else go_error.BadPass

-- ---- steps

-- What comes next of one that runs.
abbrev pub step_seated : Seated → Step
step_seated s = step_of_hand s.worker.layout s.worker.hand

-- Whether the host says that it has read, and has brought no bytes.
abbrev pub lacks_bytes : Step → (argument : ℕ) → Answer → Bool
lacks_bytes (step.Read page) argument told = (argument == 1) && not (has_come told)
lacks_bytes _ argument told = false

-- Why the next step isn't made with this argument, if it can't be.
abbrev pub go_fault : Seated → (argument : ℕ) → Option GoError
go_fault s argument =
    if not (takes (step_seated s) argument) then Some go_error.WrongArgument
    else if lacks_bytes (step_seated s) argument s.worker.device.told then Some go_error.WrongStep else None

-- What the host's device answers to its next call, by the step and the argument.
abbrev pub device_told : Step → (argument : ℕ) → (was : Answer) → Answer
device_told (step.Read page) argument was = if argument == 1 then was else answer.Fails
device_told (step.Write page) argument was = if argument == 1 then answer.Wrote else answer.Fails
device_told _ argument was = answer.Fails

-- The one that runs, whose device was told so.
abbrev pub told_by : Seated → (argument : ℕ) → Seated
told_by s argument =
    record s {
      worker = record s.worker {
        device = record s.worker.device { told = device_told (step_seated s) argument s.worker.device.told };
      };
    }

-- The worker with these tokens has its place, with its plan to take, and is at rest.
pub record SeatsPost (old : List (Place Seated)) (hand : Hand) (plan : KeptPlan) (pass : Pass) (new : List (Place Seated))
    : Type 0 where
  pub fresh : seats.IsNextSeat old pass
  pub one : Seated
  pub rests : IsAtRest pass.bell one
  pub plan_is : one.plan ≡ plan
  pub hand_is : one.worker.hand ≡ hand
  pub new_is : new ≡ with_seat old pass one

-- The worker of the one with this pass has come home, and these are told, besides those from before.
pub record SendsHome (old : Parts) (pass : Pass) (seated : Seated) (told both : Told) (new : Parts) : Type 0 where
  pub after : halls.Parts
  pub more : Told
  pub parks : hall.Parks old.hall seated.worker.hand.stage more after
  pub either : AreBoth told more both
  pub new_is : new ≡ record old { hall = after; seats = seats.without old.seats pass }

-- The worker has come home: its plan has ended, and its pass is spent.
pub record ComesHome (mid : Parts) (pass : Pass) (seated : Seated) (told : Told) (rings : Rings) (new : Parts) : Type 0 where
  pub both : Told
  pub home : SendsHome mid pass seated told both new
  pub rings_are : AreRings mid.line both rings

-- What is answered after a turn that ended so.
abbrev pub error_of : Turned → GoError
error_of turned.NotNow = go_error.NotNow
error_of turned.NoMemory = go_error.OutOfMemory
error_of _ = go_error.Broken

-- What a turn has led to. A turn that was done goes on to the next step, or the plan has ended with it and the worker comes home.
-- After any other the same step is still to be made.
abbrev pub After : (mid : Parts) → Pass → Seated → Turned → Option End → Told → Result Went GoError → Rings → (new : Parts)
    → Type 0
After mid pass s turned.Done (Some end) told result rings new =
    (result ≡ Ok (went.Over end)) × ComesHome mid pass s told rings new
After mid pass s turned.Done None told result rings new =
    (result ≡ Ok (went.On (step_seated s))) × (new ≡ mid) × AreRings mid.line told rings
After mid pass s ended end told result rings new =
    (result ≡ Err (error_of ended)) × (new ≡ mid) × AreRings mid.line told rings

-- The one that runs makes one turn over the hall.
pub record Goes (old : Parts) (pass : Pass) (seated : Seated) (argument : ℕ) (result : Result Went GoError) (rings : Rings)
    (new : Parts) : Type 0 where
  pub turned : Turned
  pub end : Option End
  pub told : Told
  pub hall : halls.Parts
  pub left : Seated
  pub turns : TurnsOver (told_by seated argument) old.hall argument turned end told hall left
  pub after : After (record old { hall = hall; seats = with_seat old.seats pass left }) pass left turned end told result rings
      new

-- Each that runs is at rest.
abbrev pub AreResting : List (Place Seated) → Type 0
AreResting seats = EachSeated IsAtRest seats

-- It made its turn, and comes next to this.
pub record TurnsOne (s : Seated) (h : halls.Parts) (argument : ℕ) (result : Result Came GoError) (h' : halls.Parts)
    (left : Seated) : Type 0 where
  pub came : Came
  pub result_is : result ≡ Ok came
  pub turns : TurnsOver (told_by s argument) h argument came.turned came.end came.told h' left
  pub step_is : came.step ≡ step_seated left

-- Nothing was done, for this reason.
pub record IsHeld (s : Seated) (why : GoError) (h : halls.Parts) (result : Result Came GoError) (h' : halls.Parts)
    (left : Seated) : Type 0 where
  pub result_is : result ≡ Err why
  pub hall : h' ≡ h
  pub same : left ≡ s

-- What comes of a turn of the one that runs, for which this is why its step can't be made.
abbrev pub TurnIf : Option GoError → Seated → halls.Parts → (argument : ℕ) → Result Came GoError → halls.Parts → Seated → Type 0
TurnIf (Some why) s h argument result h' left = IsHeld s why h result h' left
TurnIf None s h argument result h' left = TurnsOne s h argument result h' left

-- That came of a turn of the one with this pass, and it has its place.
pub record TurnsIn (places : List (Place Seated)) (pass : Pass) (s : Seated) (h : halls.Parts) (argument : ℕ)
    (result : Result Came GoError) (h' : halls.Parts) (places' : List (Place Seated)) : Type 0 where
  pub left : Seated
  pub turns : TurnIf (go_fault s argument) s h argument result h' left
  pub new_is : places' ≡ with_seat places pass left

-- Nobody has this pass, and nothing was done.
pub record IsNobodys (places : List (Place Seated)) (h : halls.Parts) (result : Result Came GoError) (h' : halls.Parts)
    (places' : List (Place Seated)) : Type 0 where
  pub result_is : result ≡ Err go_error.BadPass
  pub hall : h' ≡ h
  pub same : places' ≡ places

-- What comes of a turn with this pass.
abbrev pub TurnIn : Option Seated → List (Place Seated) → Pass → halls.Parts → (argument : ℕ) → Result Came GoError
    → halls.Parts → List (Place Seated) → Type 0
TurnIn None places pass h argument result h' places' = IsNobodys places h result h' places'
TurnIn (Some s) places pass h argument result h' places' = TurnsIn places pass s h argument result h' places'

-- Why there is no step of a pass with which nobody runs.
abbrev pub unseated : Parts → Pass → GoError
unseated x pass = if is_some (waiter_at x.line pass) then go_error.WrongStep else go_error.BadPass

-- Nothing was done, and nobody told.
pub record IsRefused (old : Parts) (why : GoError) (result : Result Went GoError) (rings : Rings) (new : Parts) : Type 0 where
  pub result_is : result ≡ Err why
  pub rings_are : rings ≡ nobody
  pub same : new ≡ old

-- What the one with this pass is answered, which runs, and for which this is why its step can't be made.
abbrev pub SeatedGoes : Option GoError → Parts → Pass → Seated → (argument : ℕ) → Result Went GoError → Rings → Parts → Type 0
SeatedGoes (Some why) old pass s argument result rings new = IsRefused old why result rings new
SeatedGoes None old pass s argument result rings new = Goes old pass s argument result rings new

-- What a pass is answered that isn't the flusher's.
abbrev pub RunnerGoes : Option Seated → Parts → Pass → (argument : ℕ) → Result Went GoError → Rings → Parts → Type 0
RunnerGoes None old pass argument result rings new = IsRefused old (unseated old pass) result rings new
RunnerGoes (Some s) old pass argument result rings new =
    SeatedGoes (go_fault s argument) old pass s argument result rings new

-- ---- the flusher

-- The flusher, whose device was told so.
abbrev pub flusher_told : AwayFlusher → (argument : ℕ) → Flusher sites.Parts devices.Parts
flusher_told f argument =
    record f.flusher { device = record f.flusher.device { told = if argument == 1 then answer.Wrote else answer.Fails } }

-- Why nothing is flushed, by whether a page is newer than the device's and lets a flush begin: then no flush is left.
abbrev pub no_flush : (could_flush : Bool) → GoError
no_flush could_flush = if could_flush then go_error.FlushesSpent else go_error.NothingToFlush

-- What the flusher's turn is answered, after which this comes next.
abbrev pub flush_went : Turned → Step → (could_flush : Bool) → Result Went GoError
flush_went turned.Done next could_flush = Ok (went.On next)
flush_went turned.Ended next could_flush = Err (no_flush could_flush)
flush_went turned.NotNow next could_flush = Err go_error.NotNow
flush_went _ next could_flush = Err go_error.Broken

-- The flusher makes one turn over the hall.
pub record Flushes (old : Parts) (f : AwayFlusher) (argument : ℕ) (result : Result Went GoError)
    (rings : Rings) (new : Parts) : Type 0 where
  pub turned : Turned
  pub told : Told
  pub hall : halls.Parts
  pub left : AwayFlusher
  pub turns : FlushesOver (flusher_told f argument) old.hall turned told hall left.flusher
  pub new_is : new ≡ record old { hall = hall; flusher = Some left }
  pub rings_are : AreRings old.line told rings
  -- whether a page was newer than the device's and let a flush begin
  pub could_flush : Bool
  pub could : (s : State) → StandsFor old.hall.seating.vault s → could_flush ≡ is_wanted 0 s
  pub result_is : result ≡ flush_went turned (step_of_flush left.flusher.flushing) could_flush

-- What the flusher is answered, whose step may have this argument or not.
abbrev pub FlusherGoes : Bool → Parts → AwayFlusher → (argument : ℕ) → Result Went GoError → Rings
    → Parts → Type 0
FlusherGoes false old f argument result rings new = IsRefused old go_error.WrongArgument result rings new
FlusherGoes true old f argument result rings new = Flushes old f argument result rings new

abbrev pub FlusherIs : Option AwayFlusher → Parts → (argument : ℕ) → Result Went GoError → Rings → Parts
    → Type 0
FlusherIs None old argument result rings new = IsRefused old go_error.BadPass result rings new
FlusherIs (Some f) old argument result rings new =
    FlusherGoes (takes (step_of_flush f.flusher.flushing) argument) old f argument result rings new

-- What a pass is answered, which is the flusher's or not.
abbrev pub GoIs : (flushers : Bool) → Parts → Pass → (argument : ℕ) → Result Went GoError → Rings → Parts → Type 0
GoIs true old pass argument result rings new = FlusherIs old.flusher old argument result rings new
GoIs false old pass argument result rings new =
    RunnerGoes (seated_at old.seats pass) old pass argument result rings new

-- ---- what comes next

-- What the flusher has in hand.
abbrev pub flush_in : Option AwayFlusher → Option Flushing
flush_in None = None
flush_in (Some f) = f.flusher.flushing

-- What is answered to one that asks for its next step.
abbrev pub next_seated : Option Seated → (waits : Bool) → Result Step PassError
next_seated (Some s) waits = Ok (step_seated s)
next_seated None true = Err pass_error.WrongStep
next_seated None false = Err pass_error.BadPass

abbrev pub next_of : (flushers : Bool) → Parts → Pass → Result Step PassError
next_of true x pass = Ok (step_of_flush (flush_in x.flusher))
next_of false x pass = next_seated (seated_at x.seats pass) (is_some (waiter_at x.line pass))

-- ---- plans that aren't kept

-- Why a plan isn't kept.
abbrev pub KeepFails : Parts → Acceptance → KeepError → Type 0
KeepFails old a keep_error.OutOfMemory = Unit {0}
KeepFails old a (keep_error.Prepare why) = PrepareFails old.hall.seating.vault.core a why

-- ---- a start

-- Nothing was done, and nobody told.
pub record IsNotStarted (old : Parts) (why : GoError) (result : Result Pass GoError) (rings : Rings) (new : Parts) : Type 0 where
  pub result_is : result ≡ Err why
  pub rings_are : rings ≡ nobody
  pub same : new ≡ old

-- What a pass is answered that asks for a start.
abbrev pub StartOf : Option Waiter → Parts → Pass → Result Pass GoError → Rings → Parts → Type 0
StartOf None old pass result rings new = IsNotStarted old (unwaiting old pass) result rings new
StartOf (Some waiter) old pass result rings new = StartIs old waiter pass result rings new

-- ---- who leaves

-- It has left the queue, and the line.
pub record LeavesQueue (old : Parts) (waiter : Waiter) (pass : Pass) (result : Result Rings PassError) (new : Parts) : Type 0 where
  pub rings : Rings
  pub result_is : result ≡ Ok rings
  pub after : halls.Parts
  pub told : Told
  pub leaves : hall.Leaves old.hall waiter.ticket told after
  pub new_is : new ≡ record old { hall = after; line = lines.without old.line pass }
  pub rings_are : AreRings (lines.without old.line pass) told rings

-- The chair is given back, whose plan wasn't taken.
pub record GivesChairBack (old : Parts) (pass : Pass) (s : Seated) (result : Result Rings PassError) (new : Parts) : Type 0 where
  pub rings : Rings
  pub result_is : result ≡ Ok rings
  pub home : ComesHome old pass s nobody_told rings new

-- Nothing was done.
pub record Stays (old : Parts) (why : PassError) (result : Result Rings PassError) (new : Parts) : Type 0 where
  pub result_is : result ≡ Err why
  pub same : new ≡ old

-- What one is answered that runs, and whose worker is idle or not.
abbrev pub ChairLeaves : (idle : Bool) → Parts → Pass → Seated → Result Rings PassError → Parts → Type 0
ChairLeaves true old pass s result new = GivesChairBack old pass s result new
ChairLeaves false old pass s result new = Stays old pass_error.WrongStep result new

abbrev pub RunnerLeaves : Option Seated → Parts → Pass → Result Rings PassError → Parts → Type 0
RunnerLeaves None old pass result new = Stays old pass_error.BadPass result new
RunnerLeaves (Some s) old pass result new = ChairLeaves (is_chair s.worker.hand.stage) old pass s result new

-- What the flusher is answered that wants to go home: it stays out with a flush in hand.
abbrev pub FlusherLeavesWith : Option Flushing → Parts → Result Rings PassError → Parts → Type 0
FlusherLeavesWith None old result new =
    (result ≡ Ok nobody) × (new ≡ record old { hall = hall.with_flusher old.hall true; flusher = None })
FlusherLeavesWith (Some flushing) old result new = Stays old pass_error.WrongStep result new

abbrev pub FlusherLeaves : Option AwayFlusher → Parts → Result Rings PassError → Parts → Type 0
FlusherLeaves None old result new = Stays old pass_error.BadPass result new
FlusherLeaves (Some f) old result new = FlusherLeavesWith f.flusher.flushing old result new

-- What a pass is answered that wants to leave.
abbrev pub LeaveOf : Option Waiter → (flushers : Bool) → Parts → Pass → Result Rings PassError → Parts → Type 0
LeaveOf (Some waiter) flushers old pass result new = LeavesQueue old waiter pass result new
LeaveOf None true old pass result new = FlusherLeaves old.flusher old result new
LeaveOf None false old pass result new = RunnerLeaves (seated_at old.seats pass) old pass result new

-- ---- the flusher's pass

-- The flusher is out, or had its last pass.
abbrev pub IsntHandedOut : Parts → Type 0
IsntHandedOut x = (x.hall.posts.is_flusher_home ≡ false) ⊎ (281474976710655 ≤ x.flushed)

-- The flusher is out, with nothing changed but that.
pub record HandsOut (old : Parts) (pass : Pass) (new : Parts) : Type 0 where
  pub home : old.hall.posts.is_flusher_home ≡ true
  pub flusher : AwayFlusher
  pub new_is : new
      ≡ record old { hall = hall.with_flusher old.hall false; flushed = old.flushed + 1; flusher = Some flusher }
  pub pass_is : pass ≡ record { bell = old.line.first + length old.line.places; turn = old.flushed + 1 }

-- Whether one waits or runs with this pass.
abbrev pub is_other : Parts → Pass → Bool
is_other x pass = is_some (seated_at x.seats pass) || is_some (waiter_at x.line pass)

-- Whether it is told to sleep.
abbrev pub is_sleep : FlushWish → Bool
is_sleep flush_wish.Sleep = true
is_sleep flush_wish.Flush = false
is_sleep flush_wish.Stop = false

-- What the flusher's thread is told to do: to end, where nobody starts any more; to flush, where a flush is wanted, or behind one where more
-- pages are newer than are to be left; and else to sleep.
pub record Wishes (old : Parts) (is_on : Bool) (wish : FlushWish) (new : Parts) : Type 0 where
  pub stop : (wish ≡ flush_wish.Stop) ↔ (old.hall.waiters.is_stopped ≡ true)
  pub flush : wish ≡ flush_wish.Flush → (s : State) → StandsFor old.hall.seating.vault s
      → (is_wanted old.hall.policy.flush_from s || (is_on && is_wanted (min (old.hall.policy.flush_to + 1) (2 ^ 32 - 1)) s))
      ≡ true
  pub sleep : wish ≡ flush_wish.Sleep → (s : State) → StandsFor old.hall.seating.vault s
      → (is_wanted old.hall.policy.flush_from s || (is_on && is_wanted (min (old.hall.policy.flush_to + 1) (2 ^ 32 - 1)) s))
      ≡ false
  pub asleep : wish ≡ flush_wish.Sleep → new ≡ record old { hall = hall.with_flusher_asleep old.hall true }
  pub rest : (new ≡ old) ⊎ (new ≡ record old { hall = hall.with_flusher_asleep old.hall (is_sleep wish) })

-- What is answered to one that asks whether to flush, with the flusher's pass or another.
abbrev pub WishIs : (flushers : Bool) → Parts → Pass → (is_on : Bool) → Result FlushWish PassError → Parts → Type 0
WishIs true old pass is_on result new = IfOk result (λ wish. Wishes old is_on wish new) × IsOk result
WishIs false old pass is_on result new =
    (result ≡ Err (if is_other old pass then pass_error.WrongStep else pass_error.BadPass)) × (new ≡ old)
