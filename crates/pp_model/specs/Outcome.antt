-- An answer and the state after it, and the small changes of a state that moves are made of.
use Rattle.std.specs.Prelude.{ℕ, ◌+◌, Bool, true, Option, Some, [], ◌∷◌, ◌++◌, slice_set}
use Rattle.pp_plan.specs.declared.action.Action.{Action}
use Rattle.pp_plan.specs.declared.action.Ask.{Ask}
use Rattle.pp_cursor.specs.Asked.{asked}
use Rattle.pp_cert.specs.declared.note.Held.{Held}
use Rattle.pp_cert.specs.declared.note.Held.TheVariants.{Free, S, X}
use Rattle.pp_arc.specs.FourLists.{FourLists}
use Rattle.pp_model.specs.declared.refusals.Delay.{Delay}
use Rattle.pp_model.specs.declared.refusals.Cause.{Cause}
use Rattle.pp_model.specs.declared.reply.Reply.{Reply}
use Rattle.pp_model.specs.declared.reply.Reply.TheVariants.{NotNow, OffPlan}
use Rattle.pp_model.specs.Pool.{Stage, acting, Running, Note, State, note_of, mark_at}

pub record Outcome : Type 0 where
  pub reply : Reply
  pub state : State

-- ---- refusals: the state stays

abbrev pub not_now : State → Delay → Outcome
not_now s delay = record { reply = NotNow delay; state = s }

abbrev pub off_plan : State → Cause → Outcome
off_plan s cause = record { reply = OffPlan cause; state = s }

-- ---- a worker's seat

-- What the worker's plan asks after the actions that it has done.
abbrev pub asked_by : Running → Ask
asked_by r = asked r.accepted.plan r.done

abbrev pub with_seat : State → ℕ → Option Running → State
with_seat s w seat = record s { seats = slice_set s.seats w seat }

-- The worker is at another stage.
abbrev pub at_stage : Running → Stage → Running
at_stage r stage = record r { stage = stage }

abbrev pub with_stage : State → ℕ → Running → Stage → State
with_stage s w r stage = with_seat s w (Some (at_stage r stage))

-- The worker has done one action more, and acts.
abbrev pub having_done : Running → Action → Running
having_done r a = record r { done = r.done ++ a ∷ []; stage = acting }

abbrev pub did : State → ℕ → Running → Action → State
did s w r a = with_seat s w (Some (having_done r a))

-- ---- pages

abbrev pub with_lists : State → FourLists → State
with_lists s lists = record s { lists = lists }

abbrev pub with_note : State → ℕ → Note → State
with_note s page note = record s { notes = slice_set s.notes page note }

abbrev pub with_frame : State → ℕ → Option ℕ → State
with_frame s page frame = with_note s page (record (note_of s page) { frame = frame })

abbrev pub with_dirty : State → ℕ → Bool → State
with_dirty s page dirty = with_note s page (record (note_of s page) { dirty = dirty })

abbrev pub with_mark : State → ℕ → ℕ → State
with_mark s page mark = with_note s page (record (note_of s page) { mark = Some mark })

-- The page was changed: its mark is raised by 1, and it is newer than the device's.
abbrev pub raised : State → ℕ → State
raised s page = with_note s page (record (note_of s page) { mark = Some (mark_at s page + 1); dirty = true })

-- A latch of this kind goes off the page. Where that was X, the page was changed.
abbrev pub released : State → Held → ℕ → State
released s Free page = s
released s S page = s
released s X page = raised s page
