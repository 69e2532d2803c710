-- The words that a line prints of a move and of its reply, as in `fix 0 16 = mustwrite 1 3`: in lower case, numbers in
-- decimal, one space between.
use Rattle.std.specs.Prelude.{ℕ, Bool, true, false, List, ◌++◌, codes}
use Rattle.std.specs.Fmt.{decimal}
use Rattle.pp_model.specs.declared.moves.Came.{Came}
use Rattle.pp_model.specs.declared.moves.Came.TheVariants as came
use Rattle.pp_model.specs.declared.moves.Move.{Move}
use Rattle.pp_model.specs.declared.moves.Move.TheVariants as move
use Rattle.pp_model.specs.declared.reply.Reply.{Reply}
use Rattle.pp_model.specs.declared.reply.Reply.TheVariants as reply
use Rattle.pp_model.specs.declared.turn.Turn.{Turn}
use Rattle.pp_model.specs.declared.turn.Turn.TheVariants as turn
use Rattle.pp_model.specs.declared.refusals.Delay.{Delay}
use Rattle.pp_model.specs.declared.refusals.Delay.TheVariants.{NothingWaiting, NoRoom, InFlight, FlushHolds, LatchHeld}
use Rattle.pp_model.specs.declared.refusals.Delay.TheVariants.{FlushBusy}
use Rattle.pp_model.specs.declared.refusals.Cause.{Cause}
use Rattle.pp_model.specs.declared.refusals.Cause.TheVariants.{NoWorker, NotIdle, NotActing, NotAsked, NoErrand}
use Rattle.pp_model.specs.declared.refusals.Cause.TheVariants.{NotLeaving, NotHeld, NotEnded, NotDirty, NoFlushLeft}
use Rattle.pp_model.specs.declared.reply.Failure.{Failure}
use Rattle.pp_model.specs.declared.reply.Failure.TheVariants.{WriteFault, ReadFault, Misread}
use Rattle.pp_model.specs.declared.reply.Ending.{Ending}
use Rattle.pp_model.specs.declared.reply.Ending.TheVariants.{Done, Gone}

-- Why a move isn't possible now, as in `notnow flushholds`.
abbrev pub delay_word : Delay → List ℕ
delay_word NothingWaiting = codes "nothingwaiting"
delay_word NoRoom = codes "noroom"
delay_word InFlight = codes "inflight"
delay_word FlushHolds = codes "flushholds"
delay_word LatchHeld = codes "latchheld"
delay_word FlushBusy = codes "flushbusy"

-- Why a move may not be asked, as in `offplan noerrand`.
abbrev pub cause_word : Cause → List ℕ
cause_word NoWorker = codes "noworker"
cause_word NotIdle = codes "notidle"
cause_word NotActing = codes "notacting"
cause_word NotAsked = codes "notasked"
cause_word NoErrand = codes "noerrand"
cause_word NotLeaving = codes "notleaving"
cause_word NotHeld = codes "notheld"
cause_word NotEnded = codes "notended"
cause_word NotDirty = codes "notdirty"
cause_word NoFlushLeft = codes "noflushleft"

-- Why a fix failed, as in `failed misread`.
abbrev pub failure_word : Failure → List ℕ
failure_word WriteFault = codes "write"
failure_word ReadFault = codes "read"
failure_word Misread = codes "misread"

-- How a plan was ended.
abbrev pub ending_word : Ending → List ℕ
ending_word Done = codes "done"
ending_word Gone = codes "gone"

-- What a device gave where it was asked to read: the page and the stamp of the image, or `fault`.
abbrev pub came_words : Came → List ℕ
came_words came.Fault = codes "fault"
came_words (came.Image page stamp) = decimal page ++ codes " " ++ decimal stamp

-- How a writing went.
abbrev pub written_word : Bool → List ℕ
written_word true = codes "ok"
written_word false = codes "bad"

-- What the page of a flush that is over is.
abbrev pub flushed_word : Bool → List ℕ
flushed_word true = codes "clean"
flushed_word false = codes "dirty"

-- A move.
abbrev pub move_words : Move → List ℕ
move_words (move.Take w) = codes "take " ++ decimal w
move_words (move.Fix w page) = codes "fix " ++ decimal w ++ codes " " ++ decimal page
move_words (move.WriteDone w ok) = codes "wrote " ++ decimal w ++ codes " " ++ written_word ok
move_words (move.ReadDone w came) = codes "came " ++ decimal w ++ codes " " ++ came_words came
move_words (move.Unfix w) = codes "unfix " ++ decimal w
move_words (move.Latch w) = codes "latch " ++ decimal w
move_words (move.Unlatch w) = codes "unlatch " ++ decimal w
move_words (move.Choose w branch) = codes "choose " ++ decimal w ++ codes " " ++ decimal branch
move_words (move.Unwind w slot) = codes "unwind " ++ decimal w ++ codes " " ++ decimal slot
move_words (move.Finish w) = codes "finish " ++ decimal w
move_words (move.FlushBegin page) = codes "flush " ++ decimal page
move_words (move.FlushDone ok) = codes "flushed " ++ written_word ok

-- A reply.
abbrev pub reply_words : Reply → List ℕ
reply_words (reply.Taken plan) = codes "taken " ++ decimal plan
reply_words (reply.Hit frame mark) = codes "hit " ++ decimal frame ++ codes " " ++ decimal mark
reply_words (reply.MustRead frame) = codes "mustread " ++ decimal frame
reply_words (reply.MustWrite frame victim) = codes "mustwrite " ++ decimal frame ++ codes " " ++ decimal victim
reply_words (reply.Failed failure) = codes "failed " ++ failure_word failure
reply_words (reply.Loaded mark) = codes "loaded " ++ decimal mark
reply_words reply.Did = codes "did"
reply_words (reply.Latched mark) = codes "latched " ++ decimal mark
reply_words (reply.Unlatched mark) = codes "unlatched " ++ decimal mark
reply_words (reply.Finished ending) = ending_word ending
reply_words (reply.Flushing mark) = codes "flushing " ++ decimal mark
reply_words (reply.Flushed clean) = flushed_word clean
reply_words (reply.NotNow delay) = codes "notnow " ++ delay_word delay
reply_words (reply.OffPlan cause) = codes "offplan " ++ cause_word cause

-- Whose move is next.
abbrev pub turn_words : Turn → List ℕ
turn_words (turn.Device w) = codes "device " ++ decimal w
turn_words turn.FlushDevice = codes "flushdevice"
turn_words (turn.Act w) = codes "act " ++ decimal w
turn_words (turn.Take w) = codes "take " ++ decimal w
