-- Fix: a page of the region that the plan asks goes into a slot, at once where it is cached, else by an errand of the
-- device.
use Rattle.std.specs.Prelude.{ℕ, Bool, true, false, if◌then◌else◌, Option, None, Some, unwrap_or}
use Rattle.pp_plan.specs.declared.action.Action.{Action}
use Rattle.pp_plan.specs.declared.action.Action.TheVariants as action
use Rattle.pp_plan.specs.declared.action.Ask.{Ask}
use Rattle.pp_plan.specs.declared.action.Ask.TheVariants as ask
use Rattle.pp_arc.specs.declared.answer.Answer.{Answer}
use Rattle.pp_arc.specs.declared.answer.Answer.TheVariants as answer
use Rattle.pp_arc.specs.FourLists.{FourLists}
use Rattle.pp_arc.specs.Figure.{request}
use Rattle.pp_frames.specs.Marks.{least_free}
use Rattle.pp_model.specs.declared.refusals.Delay.TheVariants.{InFlight, FlushHolds}
use Rattle.pp_model.specs.declared.refusals.Cause.TheVariants.{NotAsked}
use Rattle.pp_model.specs.declared.reply.Reply.TheVariants.{Hit, MustRead, MustWrite}
use Rattle.pp_cursor.specs.Asked.{region_has}
use Rattle.pp_model.specs.Pool.{writing, reading, Running, State, is_dirty, frame_at, mark_at}
use Rattle.pp_model.specs.Holders.{is_in_flight, is_busy}
use Rattle.pp_model.specs.Marks.{marks}
use Rattle.pp_model.specs.Outcome.{Outcome, not_now, off_plan, asked_by, with_stage, did, with_lists, with_frame}

-- The slot into which the plan asks a fix or a gather of this page, if it asks one.
abbrev pub fix_slot : Running → ℕ → Ask → Option ℕ
fix_slot r page (ask.Fix slot region) = if region_has r.accepted.plan.layout region page then Some slot else None
fix_slot r page (ask.Gather slot region) = if region_has r.accepted.plan.layout region page then Some slot else None
fix_slot r page _ = None

-- The action that is done where a page goes into the slot: a gather where the plan asks one, else a fix.
abbrev pub fixes : Ask → (slot page : ℕ) → Action
fixes (ask.Gather s region) slot page = action.Gather slot page
fixes _ slot page = action.Fix slot page

-- The victim's frame is the page's from now on.
abbrev pub with_frame_moved : State → (page victim : ℕ) → State
with_frame_moved s page v = with_frame (with_frame s v None) page (Some (frame_at s v))

-- Whether the victim is newer than the device's: then it is written back first.
abbrev pub evict_where : State → ℕ → Running → (slot page victim : ℕ) → Bool → Outcome
evict_where s w r slot page v true =
    record {
      reply = MustWrite (frame_at s v) v;
      state = with_stage (with_frame_moved s page v) w r (writing slot page v);
    }
evict_where s w r slot page v false =
    record { reply = MustRead (frame_at s v); state = with_stage (with_frame_moved s page v) w r (reading slot page) }

-- The least frame in which no page stands.
abbrev pub free_frame : State → ℕ
free_frame s = unwrap_or (least_free (marks s)) 0

-- By what ARC answers; the state has ARC's lists from before the request, and these are the lists after it.
abbrev pub fix_by : State → FourLists → ℕ → Running → (slot page : ℕ) → Answer → Outcome
fix_by s lists w r slot page answer.Hit =
    record {
      reply = Hit (frame_at s page) (mark_at s page);
      state = did (with_lists s lists) w r (fixes (asked_by r) slot page);
    }
fix_by s lists w r slot page answer.Free =
    record {
      reply = MustRead (free_frame s);
      state = with_stage (with_frame (with_lists s lists) page (Some (free_frame s))) w r (reading slot page);
    }
fix_by s lists w r slot page (answer.Evict v) = evict_where (with_lists s lists) w r slot page v (is_dirty s v)
fix_by s lists w r slot page answer.AllBusy = not_now s FlushHolds

-- Whether the page is in flight; else ARC is asked for it, and the pages that are taken or being flushed may not leave.
abbrev pub fix_where : State → ℕ → Running → (slot page : ℕ) → Bool → Outcome
fix_where s w r slot page true = not_now s InFlight
fix_where s w r slot page false =
    let answered = request s.lists page (is_busy s) in fix_by s answered.1 w r slot page answered.0

-- By the slot that the plan asks for the page.
abbrev pub fix_asked : State → ℕ → Running → (page : ℕ) → Option ℕ → Outcome
fix_asked s w r page None = off_plan s NotAsked
fix_asked s w r page (Some slot) = fix_where s w r slot page (is_in_flight s page)
