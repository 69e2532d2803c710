-- Whether two lines tell the same.
use Rattle.std.specs.Prelude.{Bool, true, false, ◌&&◌, ◌==◌}
use Rattle.pp_model.specs.declared.refusals.Delay.{Delay}
use Rattle.pp_model.specs.declared.refusals.Delay.TheVariants.{NothingWaiting, NoRoom, InFlight, FlushHolds, LatchHeld}
use Rattle.pp_model.specs.declared.refusals.Delay.TheVariants.{FlushBusy}
use Rattle.pp_model.specs.declared.refusals.Cause.{Cause}
use Rattle.pp_model.specs.declared.refusals.Cause.TheVariants.{NoWorker, NotIdle, NotActing, NotAsked, NoErrand}
use Rattle.pp_model.specs.declared.refusals.Cause.TheVariants.{NotLeaving, NotHeld, NotEnded, NotDirty, NoFlushLeft}
use Rattle.pp_model.specs.declared.reply.Failure.{Failure}
use Rattle.pp_model.specs.declared.reply.Failure.TheVariants.{WriteFault, ReadFault, Misread}
use Rattle.pp_model.specs.declared.reply.Ending.{Ending}
use Rattle.pp_model.specs.declared.reply.Ending.TheVariants.{Done, Gone}
use Rattle.pp_model.specs.declared.reply.Reply.{Reply}
use Rattle.pp_model.specs.declared.reply.Reply.TheVariants.{Taken, Hit, MustRead, MustWrite, Failed, Loaded, Did}
use Rattle.pp_model.specs.declared.reply.Reply.TheVariants.{Latched, Unlatched, Finished, Flushing, Flushed, NotNow, OffPlan}
use Rattle.pp_report.specs.declared.line.Told.{Told}
use Rattle.pp_report.specs.declared.line.Told.TheVariants.{Queued, Answer}

abbrev pub same_flag : Bool → Bool → Bool
same_flag true true = true
same_flag false false = true
same_flag _ _ = false

abbrev pub same_failure : Failure → Failure → Bool
same_failure WriteFault WriteFault = true
same_failure ReadFault ReadFault = true
same_failure Misread Misread = true
same_failure _ _ = false

abbrev pub same_ending : Ending → Ending → Bool
same_ending Done Done = true
same_ending Gone Gone = true
same_ending _ _ = false

abbrev pub same_delay : Delay → Delay → Bool
same_delay NothingWaiting NothingWaiting = true
same_delay NoRoom NoRoom = true
same_delay InFlight InFlight = true
same_delay FlushHolds FlushHolds = true
same_delay LatchHeld LatchHeld = true
same_delay FlushBusy FlushBusy = true
same_delay _ _ = false

abbrev pub same_cause : Cause → Cause → Bool
same_cause NoWorker NoWorker = true
same_cause NotIdle NotIdle = true
same_cause NotActing NotActing = true
same_cause NotAsked NotAsked = true
same_cause NoErrand NoErrand = true
same_cause NotLeaving NotLeaving = true
same_cause NotHeld NotHeld = true
same_cause NotEnded NotEnded = true
same_cause NotDirty NotDirty = true
same_cause NoFlushLeft NoFlushLeft = true
same_cause _ _ = false

abbrev pub same_reply : Reply → Reply → Bool
same_reply (Taken k) (Taken j) = k == j
same_reply (Hit f m) (Hit g n) = f == g && m == n
same_reply (MustRead f) (MustRead g) = f == g
same_reply (MustWrite f v) (MustWrite g w) = f == g && v == w
same_reply (Failed x) (Failed y) = same_failure x y
same_reply (Loaded m) (Loaded n) = m == n
same_reply Did Did = true
same_reply (Latched m) (Latched n) = m == n
same_reply (Unlatched m) (Unlatched n) = m == n
same_reply (Finished x) (Finished y) = same_ending x y
same_reply (Flushing m) (Flushing n) = m == n
same_reply (Flushed x) (Flushed y) = same_flag x y
same_reply (NotNow x) (NotNow y) = same_delay x y
same_reply (OffPlan x) (OffPlan y) = same_cause x y
same_reply _ _ = false

abbrev pub same_told : Told → Told → Bool
same_told Queued Queued = true
same_told (Answer r) (Answer q) = same_reply r q
same_told _ _ = false
