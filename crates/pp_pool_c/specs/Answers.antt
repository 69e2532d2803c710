-- What calls from C answer.
use Rattle.std.specs.Prelude.{ℕ, Bool, true, false, Result, Ok, Err}
use Rattle.pp_core.specs.declared.error.PrepareError.TheVariants as prepare
use Rattle.pp_hall.specs.declared.error.OpenError.TheVariants as hall
use Rattle.pp_steps.specs.declared.error.AtOnceError.{AtOnceError}
use Rattle.pp_steps.specs.declared.error.AtOnceError.TheVariants as at_once
use Rattle.pp_steps.specs.declared.error.EnterError.{EnterError}
use Rattle.pp_steps.specs.declared.error.EnterError.TheVariants as enter
use Rattle.pp_steps.specs.declared.error.GoError.{GoError}
use Rattle.pp_steps.specs.declared.error.GoError.TheVariants as go
use Rattle.pp_steps.specs.declared.error.KeepError.{KeepError}
use Rattle.pp_steps.specs.declared.error.KeepError.TheVariants as keep
use Rattle.pp_steps.specs.declared.error.OpenError.{OpenError}
use Rattle.pp_steps.specs.declared.error.OpenError.TheVariants as opening
use Rattle.pp_steps.specs.declared.error.PassError.{PassError}
use Rattle.pp_steps.specs.declared.error.PassError.TheVariants as pass
use Rattle.pp_steps.specs.declared.error.WhyOpen.{WhyOpen}
use Rattle.pp_steps.specs.declared.error.WhyOpen.TheVariants as why
use Rattle.pp_steps.specs.declared.lent.Lent.{Lent}
use Rattle.pp_pool_c.specs.declared.answer.Answer.{Answer}
use Rattle.pp_pool_c.specs.declared.answer.Answer.TheVariants as answer

-- The number by which C knows an answer.
abbrev pub code : Answer → ℕ
code answer.Done = 0
code answer.NotNow = 1
code answer.NoneToFlush = 2
code answer.FlushesSpent = 3
code answer.Refused = 4
code answer.OutOfMemory = 5
code answer.WrongArgument = 6
code answer.NoPool = 7
code answer.WrongStep = 8
code answer.BadTicket = 9
code answer.InUse = 10
code answer.QueueFull = 11
code answer.Stopped = 12
code answer.StillDirty = 13
code answer.OtherSettings = 14
code answer.TooManyPlans = 15
code answer.Broken = 16
code answer.NotAtOnce = 17

-- What each error is to C.
abbrev pub of_pass : PassError → Answer
of_pass pass.BadPass = answer.BadTicket
of_pass pass.WrongStep = answer.WrongStep
of_pass pass.WrongLength = answer.WrongArgument

-- What C is answered where a reading isn't begun or ended by one call.
abbrev pub of_at_once : AtOnceError → Answer
of_at_once (at_once.Pass why) = of_pass why
of_at_once at_once.NotAtOnce = answer.NotAtOnce

-- What C is answered where a step or a start isn't made.
abbrev pub of_go : GoError → Answer
of_go go.BadPass = answer.BadTicket
of_go go.WrongStep = answer.WrongStep
of_go go.WrongArgument = answer.WrongArgument
of_go go.NotNow = answer.NotNow
of_go go.Stopped = answer.Stopped
of_go go.OutOfMemory = answer.OutOfMemory
of_go go.NothingToFlush = answer.NoneToFlush
of_go go.FlushesSpent = answer.FlushesSpent
of_go go.Broken = answer.Broken

-- What C is answered where one doesn't come to the queue.
abbrev pub of_enter : EnterError → Answer
of_enter enter.NoSuchPlan = answer.WrongArgument
of_enter enter.Stopped = answer.Stopped
of_enter enter.Full = answer.QueueFull

-- What C is answered where a plan isn't kept.
abbrev pub of_keep : KeepError → Answer
of_keep keep.OutOfMemory = answer.OutOfMemory
of_keep (keep.Prepare prepare.TooManyPrepared) = answer.TooManyPlans
of_keep (keep.Prepare prepare.OtherSettings) = answer.OtherSettings

-- What C is answered where a pool isn't opened.
abbrev pub of_open : OpenError → Answer
of_open opening.OutOfMemory = answer.OutOfMemory
of_open opening.BadQueue = answer.WrongArgument
of_open (opening.Hall hall.OutOfMemory) = answer.OutOfMemory
of_open (opening.Hall why) = answer.OtherSettings

-- What C is answered where a pool isn't closed.
abbrev pub of_why : WhyOpen → Answer
of_why why.InUse = answer.InUse
of_why why.StillDirty = answer.StillDirty

-- The number of a call by a pass that gives nothing else.
abbrev pub of_done : Result (Unit {0}) PassError → Answer
of_done (Ok u) = answer.Done
of_done (Err e) = of_pass e

-- That of one that tells where bytes lie.
abbrev pub of_lent : Result Lent PassError → Answer
of_lent (Ok lent) = answer.Done
of_lent (Err e) = of_pass e

-- Whether a call was refused for the ticket or the number that it was given.
abbrev pub is_refusal : Answer → Bool
is_refusal answer.BadTicket = true
is_refusal answer.WrongStep = true
is_refusal answer.WrongArgument = true
is_refusal _ = false
