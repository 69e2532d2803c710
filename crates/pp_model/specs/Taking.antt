-- Take: an idle worker begins the first plan that waits, where its peak fits beside the running peaks.
use Rattle.std.specs.Prelude.{ℕ, ◌+◌, Bool, true, false, nat_le, Option, None, Some, []}
use Rattle.pp_cert.specs.Accepted.{Acceptance}
use Rattle.pp_model.specs.declared.refusals.Delay.TheVariants.{NothingWaiting, NoRoom}
use Rattle.pp_model.specs.declared.refusals.Cause.TheVariants.{NoWorker, NotIdle}
use Rattle.pp_model.specs.declared.reply.Reply.TheVariants.{Taken}
use Rattle.pp_model.specs.Pool.{acting, Running, State}
use Rattle.pp_model.specs.Budget.{running_peaks}
use Rattle.pp_model.specs.Outcome.{Outcome, not_now, off_plan, with_seat}

-- The peak of the plan and the running peaks sum to at most the frames.
abbrev pub has_room : State → Acceptance → Bool
has_room s a = nat_le (a.peak + running_peaks s) s.settings.layout.frames

-- A worker that begins the plan: it has done nothing of it.
abbrev pub beginning : State → Acceptance → Running
beginning s a = record { number = s.taken; accepted = a; done = []; stage = acting }

abbrev pub began : State → ℕ → Acceptance → State
began s w a = record (with_seat s w (Some (beginning s a))) { taken = s.taken + 1 }

-- Whether there is room.
abbrev pub take_where : State → ℕ → Acceptance → Bool → Outcome
take_where s w a true = record { reply = Taken s.taken; state = began s w a }
take_where s w a false = not_now s NoRoom

-- By the worker's seat, and by the first plan that waits.
abbrev pub take_by : State → ℕ → Option (Option Running) → Option Acceptance → Outcome
take_by s w None next = off_plan s NoWorker
take_by s w (Some (Some r)) next = off_plan s NotIdle
take_by s w (Some None) None = not_now s NothingWaiting
take_by s w (Some None) (Some a) = take_where s w a (has_room s a)
