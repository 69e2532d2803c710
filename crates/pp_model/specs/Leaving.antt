-- Unwind and Finish: a worker that left its plan gives its slots back; a worker becomes idle.
use Rattle.std.specs.Prelude.{ℕ, Option, None, Some, List, [], ◌∷◌, ◌++◌}
use Rattle.pp_plan.specs.declared.action.Ask.{Ask}
use Rattle.pp_plan.specs.declared.action.Ask.TheVariants as ask
use Rattle.pp_cert.specs.declared.note.Held.{Held}
use Rattle.pp_cert.specs.declared.note.Held.TheVariants.{Free, S, X}
use Rattle.pp_cert.specs.Held.{Holding, Holdings, holding_at}
use Rattle.pp_model.specs.declared.refusals.Cause.TheVariants.{NoWorker, NotActing, NotLeaving, NotHeld, NotEnded}
use Rattle.pp_model.specs.declared.reply.Ending.{Ending}
use Rattle.pp_model.specs.declared.reply.Ending.TheVariants.{Done, Gone}
use Rattle.pp_model.specs.declared.reply.Reply.{Reply}
use Rattle.pp_model.specs.declared.reply.Reply.TheVariants.{Did, Unlatched, Finished}
use Rattle.pp_cursor.specs.Asked.{asked}
use Rattle.pp_model.specs.Pool.{Stage, acting, writing, reading, leaving, Running, State, mark_at}
use Rattle.pp_model.specs.Holders.{holdings}
use Rattle.pp_model.specs.Outcome.{Outcome, off_plan, with_seat, with_stage, released}

-- ---- Unwind

-- Only the end of an X latch tells the page's mark.
abbrev pub unwound : Held → (mark : ℕ) → Reply
unwound Free mark = Did
unwound S mark = Did
unwound X mark = Unlatched mark

-- By what the slot still holds; these slots were given back before it.
abbrev pub unwind_where : State → ℕ → Running → (slot : ℕ) → List ℕ → Option Holding → Outcome
unwind_where s w r slot given None = off_plan s NotHeld
unwind_where s w r slot given (Some h) =
    record {
      reply = unwound h.held (mark_at (released s h.held h.page) h.page);
      state = with_stage (released s h.held h.page) w r (leaving (slot ∷ given));
    }

abbrev pub unwind_in : State → ℕ → (slot : ℕ) → Running → Stage → Outcome
unwind_in s w slot r acting = off_plan s NotLeaving
unwind_in s w slot r (writing x page victim) = off_plan s NotLeaving
unwind_in s w slot r (reading x page) = off_plan s NotLeaving
unwind_in s w slot r (leaving given) = unwind_where s w r slot given (holding_at (holdings r) slot)

abbrev pub unwind_by : State → ℕ → (slot : ℕ) → Option (Option Running) → Outcome
unwind_by s w slot None = off_plan s NoWorker
unwind_by s w slot (Some None) = off_plan s NotLeaving
unwind_by s w slot (Some (Some r)) = unwind_in s w slot r r.stage

-- ---- Finish

-- The worker is idle, and its plan is ended.
abbrev pub ended : State → ℕ → Running → Ending → Outcome
ended s w r ending =
    record {
      reply = Finished ending;
      state =
          record (with_seat s w None) { finished = s.finished ++ record { number = r.number; ending = ending } ∷ [] };
    }

-- An acting worker, by what its plan asks.
abbrev pub finish_asked : State → ℕ → Running → Ask → Outcome
finish_asked s w r ask.End = ended s w r Done
finish_asked s w r _ = off_plan s NotEnded

-- A worker that leaves, by what it still holds.
abbrev pub finish_holding : State → ℕ → Running → Holdings → Outcome
finish_holding s w r [] = ended s w r Gone
finish_holding s w r (h ∷ hs) = off_plan s NotEnded

abbrev pub finish_in : State → ℕ → Running → Stage → Outcome
finish_in s w r acting = finish_asked s w r (asked r.accepted.plan r.done)
finish_in s w r (writing slot page victim) = off_plan s NotActing
finish_in s w r (reading slot page) = off_plan s NotActing
finish_in s w r (leaving given) = finish_holding s w r (holdings r)

abbrev pub finish_by : State → ℕ → Option (Option Running) → Outcome
finish_by s w None = off_plan s NoWorker
finish_by s w (Some None) = off_plan s NotActing
finish_by s w (Some (Some r)) = finish_in s w r r.stage
