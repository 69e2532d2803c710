-- What calls from C do to the pool that a handle holds.
use Rattle.std.specs.Prelude.{◌≡◌, ◌⊎◌, ◌/◌, ◌%◌, ℕ, Bool, List, Option, None, Some, Result, Ok, Err, IfOk, IfErr, OnOk, OnErr, length}
use Rattle.std.specs.Option.{MatchOption}
use Rattle.pp_settings.specs.Settings.{Configuration, geometry_of}
use Rattle.pp_settings.specs.Spelling.{IsText}
use Rattle.pp_plan.specs.Spelling.{IsText as IsPlanText}
use Rattle.pp_cert.specs.Accepted.{Acceptance, IsAccepted}
use Rattle.pp_hall.specs.declared.policy.Policy.{Policy}
use Rattle.pp_steps.specs.declared.error.AtOnceError.{AtOnceError}
use Rattle.pp_steps.specs.declared.error.EnterError.{EnterError}
use Rattle.pp_steps.specs.declared.error.GoError.{GoError}
use Rattle.pp_steps.specs.declared.error.GoError.TheVariants as go_error
use Rattle.pp_steps.specs.declared.error.KeepError.{KeepError}
use Rattle.pp_steps.specs.declared.error.OpenError.{OpenError}
use Rattle.pp_steps.specs.declared.error.PassError.{PassError}
use Rattle.pp_steps.specs.declared.error.WhyOpen.{WhyOpen}
use Rattle.pp_steps.specs.declared.flusher.FlushWish.{FlushWish}
use Rattle.pp_steps.specs.declared.flusher.FlushWish.TheVariants as wish
use Rattle.pp_steps.specs.declared.going.Went.{Went}
use Rattle.pp_steps.specs.declared.lent.Lent.{Lent}
use Rattle.pp_steps.specs.declared.pass.Pass.{Pass}
use Rattle.pp_steps.specs.declared.plans.KeptPlan.{KeptPlan}
use Rattle.pp_steps.specs.declared.rings.Rings.{Rings}
use Rattle.pp_steps.specs.declared.seated.Seated.{Seated}
use Rattle.pp_steps.specs.declared.step.Step.{Step}
use Rattle.pp_steps.specs.Calls.{Keeps, KeepFails, Enters, EnterFails, StartOf, GoIs, LeaveOf, HandsOut, IsntHandedOut, WishIs, next_of}
use Rattle.pp_steps.specs.Bytes.{CopiesImage, errand_of, no_errand, Brings, ReadsBody, ReadFails, WritesBody, WriteFails}
use Rattle.pp_steps.specs.Ending.{WhyOpenIs}
use Rattle.pp_steps.specs.Lending.{LendsBody, LendFails}
use Rattle.pp_steps.specs.Lines.{waiter_at}
use Rattle.pp_steps.specs.Opening.{IsOpened, OpenFails}
use Rattle.pp_steps.specs.Parts.{Parts, is_flushers}
use Rattle.pp_steps.specs.Passes.{told_by}
use Rattle.pp_steps.specs.Reading.{GetIs, PutIs}
use Rattle.pp_steps.specs.Seats.{seated_at, with_seat}
use Rattle.pp_pool_c.specs.declared.answer.Answer.{Answer}
use Rattle.pp_pool_c.specs.declared.answer.Answer.TheVariants as answer
use Rattle.pp_pool_c.specs.declared.ask.Ask.{Ask}
use Rattle.pp_pool_c.specs.declared.fault.Fault.{Fault}
use Rattle.pp_pool_c.specs.declared.figures.PreparedPlan.{PreparedPlan}
use Rattle.pp_pool_c.specs.declared.handle.Kept.{Kept}
use Rattle.pp_pool_c.specs.declared.refusal.Refusal.{Refusal}
use Rattle.pp_pool_c.specs.declared.told.Told.{Told}
use Rattle.pp_pool_c.specs.Answers.{code, of_pass, of_at_once, of_go, of_enter, of_keep, of_open, of_why, of_done, of_lent}
use Rattle.pp_pool_c.specs.Asks.{ask_of, ask_went, ask_next, no_ask, told_of, told_nobody}
use Rattle.pp_pool_c.specs.Figures.{prepared_of}
use Rattle.pp_pool_c.specs.Texts.{settings_in, IsTold}

-- A handle holds a pool after the call exactly where it held one before. These two pools are so, and the settings are the same.
abbrev pub Goes : (Parts → Parts → Type 0) → Option Kept → Option Kept → Type 0
Goes are old new =
    MatchOption old (new ≡ None) (λ before. MatchOption new ⊥ (λ after.
    are before.steps after.steps × (after.settings ≡ before.settings)))

-- What a call is answered that only looks at the pool: that there is none, or this.
abbrev pub Answers : Option Kept → (status : ℕ) → (Parts → Answer) → Type 0
Answers held status gives = MatchOption held (status ≡ code answer.NoPool) (λ kept. status ≡ code (gives kept.steps))

-- It is done with any pool.
abbrev pub done : Parts → Answer
done x = answer.Done

-- The pass of a ticket.
abbrev pub pass_of : (ticket : ℕ) → Pass
pass_of ticket = record { bell = ticket % 65536; turn = ticket / 65536 }

-- The ticket is that of this pass.
abbrev pub IsTicket : Pass → (ticket : ℕ) → Type 0
IsTicket pass ticket = ticket ≡ told_by pass

-- What comes next of one with this pass, as C sees it.
abbrev pub ask_of_pass : Parts → Pass → Ask
ask_of_pass x pass = ask_next (next_of (is_flushers x pass) x pass)

-- ---- steps

-- What a step is answered.
abbrev pub answer_of : Result Went GoError → Answer
answer_of (Ok went) = answer.Done
answer_of (Err why) = of_go why

-- What comes next, after a step that was made or not.
abbrev pub ask_after : Result Went GoError → Parts → Pass → Ask
ask_after (Ok went) x pass = ask_went went
ask_after (Err why) x pass = ask_of_pass x pass

-- The pool makes the next step of this pass, as its own call does.
pub record Makes (pass : Pass) (argument : ℕ) (answered : Answer) (ask : Ask) (told : Told) (old new : Parts) : Type 0 where
  pub went : Result Went GoError
  pub rings : Rings
  pub goes : GoIs (is_flushers old pass) old pass argument went rings new
  pub answer_is : answered ≡ answer_of went
  pub ask_is : ask ≡ ask_after went new pass
  pub told_is : told ≡ told_of rings

-- The same of a ticket.
pub record Steps (ticket argument status : ℕ) (ask : Ask) (told : Told) (old new : Parts) : Type 0 where
  pub answered : Answer
  pub makes : Makes (pass_of ticket) argument answered ask told old new
  pub status_is : status ≡ code answered

-- What one is answered that asks for its next step.
abbrev pub next_answer : Result Step PassError → Answer
next_answer (Ok step) = answer.Done
next_answer (Err why) = of_pass why

-- ---- readings

-- What one is answered that asks to begin a reading, or to end one.
abbrev pub at_once_answer : Result Step AtOnceError → Answer
at_once_answer (Ok step) = answer.Done
at_once_answer (Err why) = of_at_once why

-- What comes next, where it was done or not.
abbrev pub ask_at_once : Result Step AtOnceError → Parts → Pass → Ask
ask_at_once (Ok step) x pass = ask_of step
ask_at_once (Err why) x pass = ask_of_pass x pass

-- The one with this pass asks to begin a reading, and is answered as by the pool's own call.
pub record GetsBy (pass : Pass) (page from : ℕ) (before : List ℕ) (answered : Answer) (after : List ℕ) (ask : Ask) (told : Told)
    (old new : Parts) : Type 0 where
  pub got : Result Step AtOnceError
  pub rings : Rings
  pub gets : GetIs (seated_at old.seats pass) old pass page from before got rings after new
  pub answer_is : answered ≡ at_once_answer got
  pub ask_is : ask ≡ ask_at_once got new pass
  pub told_is : told ≡ told_of rings

-- The same of a ticket.
pub record GetsTo (ticket page from : ℕ) (before : List ℕ) (status : ℕ) (after : List ℕ) (ask : Ask) (told : Told)
    (old new : Parts) : Type 0 where
  pub answered : Answer
  pub gets : GetsBy (pass_of ticket) page from before answered after ask told old new
  pub status_is : status ≡ code answered

-- It asks to end one.
pub record PutsBy (pass : Pass) (answered : Answer) (ask : Ask) (told : Told) (old new : Parts) : Type 0 where
  pub ended : Result Step AtOnceError
  pub rings : Rings
  pub puts : PutIs (seated_at old.seats pass) old pass ended rings new
  pub answer_is : answered ≡ at_once_answer ended
  pub ask_is : ask ≡ ask_at_once ended new pass
  pub told_is : told ≡ told_of rings

-- The same of a ticket.
pub record PutsTo (ticket status : ℕ) (ask : Ask) (told : Told) (old new : Parts) : Type 0 where
  pub answered : Answer
  pub puts : PutsBy (pass_of ticket) answered ask told old new
  pub status_is : status ≡ code answered

-- ---- a start

-- What a start is answered.
abbrev pub start_answer : Result Pass GoError → Answer
start_answer (Ok pass) = answer.Done
start_answer (Err why) = of_go why

-- The ticket after a start that wasn't made: it is spent where nobody starts any more.
abbrev pub ticket_left : GoError → (ticket : ℕ) → ℕ
ticket_left go_error.Stopped ticket = 0
ticket_left _ ticket = ticket

-- The ticket after a start: that of the chair's pass, where it was made.
abbrev pub IsTicketAfter : Result Pass GoError → (old new : ℕ) → Type 0
IsTicketAfter (Ok pass) old new = IsTicket pass new
IsTicketAfter (Err why) old new = new ≡ ticket_left why old

-- The pool starts the one with the ticket's pass, as its own call does.
pub record StartsBy (before after : ℕ) (answered : Answer) (told : Told) (old new : Parts) : Type 0 where
  pub started : Result Pass GoError
  pub rings : Rings
  pub starts : StartOf (waiter_at old.line (pass_of before)) old (pass_of before) started rings new
  pub answer_is : answered ≡ start_answer started
  pub ticket_is : IsTicketAfter started before after
  pub told_is : told ≡ told_of rings

-- The same, with what comes next.
pub record Starts (before after status : ℕ) (ask : Ask) (told : Told) (old new : Parts) : Type 0 where
  pub answered : Answer
  pub begins : StartsBy before after answered told old new
  pub status_is : status ≡ code answered
  pub ask_is : ask ≡ ask_of_pass new (pass_of after)

-- ---- who leaves

-- What one is answered that leaves.
abbrev pub leave_answer : Result Rings PassError → Answer
leave_answer (Ok rings) = answer.Done
leave_answer (Err why) = of_pass why

-- Whom it tells that one leaves.
abbrev pub told_left : Result Rings PassError → Told
told_left (Ok rings) = told_of rings
told_left (Err why) = told_nobody

-- The one with this pass leaves.
pub record GoesAway (pass : Pass) (answered : Answer) (told : Told) (old new : Parts) : Type 0 where
  pub left : Result Rings PassError
  pub leaves : LeaveOf (waiter_at old.line pass) (is_flushers old pass) old pass left new
  pub answer_is : answered ≡ leave_answer left
  pub told_is : told ≡ told_left left

-- The same of a ticket.
pub record Leaves (ticket status : ℕ) (told : Told) (old new : Parts) : Type 0 where
  pub answered : Answer
  pub out : GoesAway (pass_of ticket) answered told old new
  pub status_is : status ≡ code answered

-- ---- who comes

-- The ticket of one that comes: that of its pass, and 0 where it doesn't.
abbrev pub EnterIs : (plan ticket : ℕ) → Result Pass EnterError → Parts → Parts → Type 0
EnterIs plan ticket (Ok pass) old new = Enters old plan pass new × IsTicket pass ticket
EnterIs plan ticket (Err why) old new = EnterFails old plan why × (new ≡ old) × (ticket ≡ 0)

-- What one is answered that comes.
abbrev pub enter_answer : Result Pass EnterError → Answer
enter_answer (Ok pass) = answer.Done
enter_answer (Err why) = of_enter why

-- One comes, to run the plan of this number.
pub record Comes (plan ticket : ℕ) (answered : Answer) (old new : Parts) : Type 0 where
  pub entered : Result Pass EnterError
  pub enters : EnterIs plan ticket entered old new
  pub answer_is : answered ≡ enter_answer entered

-- The same, as C sees it.
pub record Queues (plan ticket status : ℕ) (old new : Parts) : Type 0 where
  pub answered : Answer
  pub comes : Comes plan ticket answered old new
  pub status_is : status ≡ code answered

-- ---- the flusher

-- The flusher's ticket is given out, with its next step; or nothing is done.
abbrev pub FlusherIs : Option Pass → (ticket : ℕ) → Ask → Answer → Parts → Parts → Type 0
FlusherIs (Some pass) ticket ask answered old new =
    HandsOut old pass new × IsTicket pass ticket × (ask ≡ ask_of_pass new pass) × (answered ≡ answer.Done)
FlusherIs None ticket ask answered old new =
    IsntHandedOut old × (new ≡ old) × (ticket ≡ 0) × (ask ≡ no_ask) × (answered ≡ answer.InUse)

pub record GivesFlusher (ticket : ℕ) (ask : Ask) (answered : Answer) (old new : Parts) : Type 0 where
  pub pass : Option Pass
  pub gives : FlusherIs pass ticket ask answered old new

-- The same, as C sees it.
pub record HandsFlusher (ticket status : ℕ) (ask : Ask) (old new : Parts) : Type 0 where
  pub answered : Answer
  pub gives : GivesFlusher ticket ask answered old new
  pub status_is : status ≡ code answered

-- What the flusher is answered that asks whether it is to flush.
abbrev pub wish_answer : Result FlushWish PassError → Answer
wish_answer (Ok wish.Flush) = answer.Done
wish_answer (Ok wish.Sleep) = answer.NotNow
wish_answer (Ok wish.Stop) = answer.Stopped
wish_answer (Err why) = of_pass why

-- The one with this pass is told whether to flush.
pub record Wishes (pass : Pass) (is_on : Bool) (answered : Answer) (old new : Parts) : Type 0 where
  pub wished : Result FlushWish PassError
  pub wishes : WishIs (is_flushers old pass) old pass is_on wished new
  pub answer_is : answered ≡ wish_answer wished

-- The same of a ticket.
pub record FlushWanted (ticket : ℕ) (is_on : Bool) (status : ℕ) (old new : Parts) : Type 0 where
  pub answered : Answer
  pub wishes : Wishes (pass_of ticket) is_on answered old new
  pub status_is : status ≡ code answered

-- ---- plans

-- An accepted plan is kept.
pub record KeepsPlan (accepted : Acceptance) (prepared : PreparedPlan) (told : Told) (old new : Parts) : Type 0 where
  pub number : ℕ
  pub plan : KeptPlan
  pub rings : Rings
  pub facts : IsAccepted accepted
  pub keeps : Keeps old accepted number plan rings new
  pub prepared_is : prepared ≡ prepared_of number plan
  pub told_is : told ≡ told_of rings

-- The plan that the text spells is accepted so, and kept.
pub record KeepsText (c : Configuration) (text : List ℕ) (work : Result Acceptance Refusal) (prepared : PreparedPlan) (told : Told)
    (old new : Parts) : Type 0 where
  pub accepted : Acceptance
  pub spelled : IsPlanText c text accepted.plan
  pub layout : accepted.plan.layout ≡ geometry_of c
  pub work_is : work ≡ Ok accepted
  pub keeps : KeepsPlan accepted prepared told old new

-- What a handle holds comes of a call that keeps the plan of this text, which is accepted so.
abbrev pub KeepsIn : List ℕ → (Configuration → Result Acceptance Refusal) → PreparedPlan → Told → Option Kept → Option Kept → Type 0
KeepsIn text work prepared told old new =
    MatchOption old ⊥ (λ before. MatchOption new ⊥ (λ after.
    KeepsText before.settings text (work before.settings) prepared told before.steps after.steps
    × (after.settings ≡ before.settings)))

-- An accepted plan isn't kept, for this reason.
pub record IsntKept (accepted : Acceptance) (answered : Answer) (old new : Fault) (x : Parts) : Type 0 where
  pub why : KeepError
  pub fails : KeepFails x accepted why
  pub answer_is : answered ≡ of_keep why
  pub fault_is : new ≡ old

-- The plan isn't accepted, or not kept.
abbrev pub IsntPrepared : Result Acceptance Refusal → Answer → (old new : Fault) → Parts → Type 0
IsntPrepared work answered old new x =
    IsTold work answered old new ⊎ ((accepted : Acceptance) × (work ≡ Ok accepted) × IsntKept accepted answered old new x)

-- It was done, or else the plan isn't prepared.
pub record Prepares (work : Result Acceptance Refusal) (status : ℕ) (old new : Fault) (x : Parts) : Type 0 where
  pub answered : Answer
  pub status_is : status ≡ code answered
  pub isnt : (answered ≡ answer.Done → ⊥) → IsntPrepared work answered old new x

-- ---- a new pool

-- The handle holds a pool of the settings that the text spells, in which nothing was done yet.
pub record Opens (text : List ℕ) (policy : Policy) (kept : Kept) : Type 0 where
  pub reading : settings_in text ≡ Ok kept.settings
  pub spelled : IsText text kept.settings
  pub opened : IsOpened kept.settings policy kept.steps

-- The settings are those of a text, and no pool is opened with them and this policy.
pub record IsUnfit (text : List ℕ) (policy : Policy) (answered : Answer) (old new : Fault) : Type 0 where
  pub settings : Configuration
  pub reading : settings_in text ≡ Ok settings
  pub why : OpenError
  pub fails : OpenFails settings policy why
  pub answer_is : answered ≡ of_open why
  pub fault_is : new ≡ old

-- Why no pool is opened: the text is refused, or memory ran out, or the settings don't fit.
abbrev pub IsntOpened : List ℕ → Policy → Answer → (old new : Fault) → Type 0
IsntOpened text policy answered old new =
    IsTold (settings_in text) answered old new ⊎ IsUnfit text policy answered old new

-- ---- bytes

-- What a copy of an image is answered.
pub record CopiesTo (ticket status : ℕ) (before after : List ℕ) (x : Parts) : Type 0 where
  pub done : Result (Unit {0}) PassError
  pub copies : CopiesImage (errand_of (is_flushers x (pass_of ticket)) x (pass_of ticket)) x (pass_of ticket) before done after
  pub status_is : status ≡ code (of_done done)

-- The bytes that were read are handed to the one that runs, if one does.
abbrev pub BringsTo : Option Seated → Parts → Pass → List ℕ → Result (Unit {0}) PassError → Parts → Type 0
BringsTo None old pass bytes done new = (done ≡ Err (no_errand old pass)) × (new ≡ old)
BringsTo (Some s) old pass bytes done new =
    (t : Seated) × Brings s bytes done t × (new ≡ record old { seats = with_seat old.seats pass t })

-- What one is answered that has read.
pub record CameTo (ticket status : ℕ) (bytes : List ℕ) (old new : Parts) : Type 0 where
  pub done : Result (Unit {0}) PassError
  pub brings : BringsTo (seated_at old.seats (pass_of ticket)) old (pass_of ticket) bytes done new
  pub stays : OnErr done (new ≡ old)
  pub status_is : status ≡ code (of_done done)

-- What a reading of a body is answered.
pub record ReadsTo (ticket slot from status : ℕ) (before after : List ℕ) (x : Parts) : Type 0 where
  pub done : Result (Unit {0}) PassError
  pub reads : OnOk done (ReadsBody x (pass_of ticket) slot from after)
  pub fails : IfErr done (λ why. ReadFails (seated_at x.seats (pass_of ticket)) x (pass_of ticket) slot from (length before) why)
  pub stays : OnErr done (after ≡ before)
  pub status_is : status ≡ code (of_done done)

-- What a writing of a body is answered.
pub record WritesTo (ticket slot from status : ℕ) (bytes : List ℕ) (old new : Parts) : Type 0 where
  pub done : Result (Unit {0}) PassError
  pub writes : OnOk done (WritesBody old (pass_of ticket) slot from bytes new)
  pub fails : IfErr done (λ why. WriteFails (seated_at old.seats (pass_of ticket)) old (pass_of ticket) slot from (length bytes) why)
  pub stays : OnErr done (new ≡ old)
  pub status_is : status ≡ code (of_done done)

-- What one is answered that asks where a body lies. Where it isn't told, nothing is written.
pub record LendsTo (ticket slot status : ℕ) (before after : Lent) (x : Parts) : Type 0 where
  pub done : Result Lent PassError
  pub lends : IfOk done (λ lent. (after ≡ lent) × LendsBody x (pass_of ticket) slot lent)
  pub fails : IfErr done (LendFails (seated_at x.seats (pass_of ticket)) x (pass_of ticket) slot)
  pub stays : OnErr done (after ≡ before)
  pub status_is : status ≡ code (of_lent done)

-- ---- the end

-- What one is answered that ends the pool.
abbrev pub close_answer : Option WhyOpen → Answer
close_answer None = answer.Done
close_answer (Some why) = of_why why

pub record Closes (status : ℕ) (x : Parts) : Type 0 where
  pub why : Option WhyOpen
  pub is : WhyOpenIs x why
  pub status_is : status ≡ code (close_answer why)
