-- FlushBegin and FlushDone: a changed page is written to the device and stays in its frame.
use Rattle.std.specs.Prelude.{ℕ, ◌-◌, Bool, true, false, ◌&&◌, ◌==◌, nat_lt, Option, None, Some}
use Rattle.pp_arc.specs.FourLists.{is_cached}
use Rattle.pp_frames.specs.Marks.{is_exclusive}
use Rattle.pp_model.specs.declared.refusals.Delay.TheVariants.{LatchHeld, FlushBusy}
use Rattle.pp_model.specs.declared.refusals.Cause.TheVariants.{NoErrand, NotDirty, NoFlushLeft}
use Rattle.pp_model.specs.declared.reply.Reply.TheVariants.{Flushing, Flushed}
use Rattle.pp_model.specs.Pool.{Flush, State, is_dirty, mark_at}
use Rattle.pp_model.specs.Holders.{latches_of}
use Rattle.pp_model.specs.Outcome.{Outcome, not_now, off_plan, with_dirty}

-- ---- FlushBegin

abbrev pub flush_begun : State → (page : ℕ) → State
flush_begun s page =
    record s { flush = Some (record { page = page; began = mark_at s page }); flushes_left = s.flushes_left - 1 }

-- Whether the page is cached and newer than the device's, whether a flush is left, and whether the page is latched X.
abbrev pub flush_where : State → (page : ℕ) → (changed some written : Bool) → Outcome
flush_where s page false some written = off_plan s NotDirty
flush_where s page true false written = off_plan s NoFlushLeft
flush_where s page true true true = not_now s LatchHeld
flush_where s page true true false = record { reply = Flushing (mark_at s page); state = flush_begun s page }

-- By the flush in flight.
abbrev pub flush_by : State → (page : ℕ) → Option Flush → Outcome
flush_by s page (Some f) = not_now s FlushBusy
flush_by s page None =
    flush_where s page (is_cached s.lists page && is_dirty s page) (nat_lt 0 s.flushes_left)
    (is_exclusive (latches_of s page))

-- ---- FlushDone

abbrev pub flush_over : State → State
flush_over s = record s { flush = None }

-- Whether the device has the page as it is: it was written, and no X latch on it ended since.
abbrev pub is_clean : State → (ok : Bool) → Flush → Bool
is_clean s ok f = ok && (mark_at s f.page == f.began)

abbrev pub flushed_where : State → (page : ℕ) → (clean : Bool) → Outcome
flushed_where s page true = record { reply = Flushed true; state = with_dirty (flush_over s) page false }
flushed_where s page false = record { reply = Flushed false; state = flush_over s }

abbrev pub flushed_by : State → (ok : Bool) → Option Flush → Outcome
flushed_by s ok None = off_plan s NoErrand
flushed_by s ok (Some f) = flushed_where s f.page (is_clean s ok f)
