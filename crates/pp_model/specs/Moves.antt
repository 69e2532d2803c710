-- All moves: what each is answered, and which state comes next. A refused move leaves the state.
use Rattle.std.specs.Prelude.{ℕ, Bool, true, false, not, Option, None, Some, slice_get, IsTrue}
use Rattle.pp_model.specs.declared.moves.Move.{Move}
use Rattle.pp_model.specs.declared.moves.Move.TheVariants.{Take, Fix, WriteDone, ReadDone, Unfix, Latch, Unlatch}
use Rattle.pp_model.specs.declared.moves.Move.TheVariants.{Choose}
use Rattle.pp_model.specs.declared.moves.Move.TheVariants.{Unwind, Finish, FlushBegin, FlushDone}
use Rattle.pp_model.specs.declared.refusals.Cause.TheVariants.{NoWorker, NotActing}
use Rattle.pp_model.specs.declared.reply.Reply.{Reply}
use Rattle.pp_model.specs.declared.reply.Reply.TheVariants.{NotNow, OffPlan}
use Rattle.pp_model.specs.Pool.{Stage, acting, writing, reading, leaving, Running, State}
use Rattle.pp_model.specs.Outcome.{Outcome, off_plan}
pub use Rattle.pp_model.specs.Outcome.{asked_by}
use Rattle.pp_model.specs.Taking.{take_by}
use Rattle.pp_model.specs.Fixing.{fix_slot, fix_asked}
use Rattle.pp_model.specs.Answers.{write_by, read_by}
use Rattle.pp_model.specs.Using.{unfix_asked, latch_asked, unlatch_asked, choose_asked}
use Rattle.pp_model.specs.Leaving.{unwind_by, finish_by}
use Rattle.pp_model.specs.Flushing.{flush_by, flushed_by}

-- A move that only an acting worker makes, by the worker's stage and by its seat.
abbrev pub act_in : State → (Running → Outcome) → Running → Stage → Outcome
act_in s act r acting = act r
act_in s act r (writing slot page victim) = off_plan s NotActing
act_in s act r (reading slot page) = off_plan s NotActing
act_in s act r (leaving given) = off_plan s NotActing

abbrev pub act_by : State → (Running → Outcome) → Option (Option Running) → Outcome
act_by s act None = off_plan s NoWorker
act_by s act (Some None) = off_plan s NotActing
act_by s act (Some (Some r)) = act_in s act r r.stage

-- The seat of worker w, if there is such a worker.
abbrev pub seat_of : State → ℕ → Option (Option Running)
seat_of s w = slice_get s.seats w

abbrev pub outcome_of : State → Move → Outcome
outcome_of s (Take w) = take_by s w (seat_of s w) (slice_get s.plans s.taken)
outcome_of s (Fix w page) = act_by s (λ r. fix_asked s w r page (fix_slot r page (asked_by r))) (seat_of s w)
outcome_of s (WriteDone w ok) = write_by s w ok (seat_of s w)
outcome_of s (ReadDone w came) = read_by s w came (seat_of s w)
outcome_of s (Unfix w) = act_by s (λ r. unfix_asked s w r (asked_by r)) (seat_of s w)
outcome_of s (Latch w) = act_by s (λ r. latch_asked s w r (asked_by r)) (seat_of s w)
outcome_of s (Unlatch w) = act_by s (λ r. unlatch_asked s w r (asked_by r)) (seat_of s w)
outcome_of s (Choose w i) = act_by s (λ r. choose_asked s w r i (asked_by r)) (seat_of s w)
outcome_of s (Unwind w slot) = unwind_by s w slot (seat_of s w)
outcome_of s (Finish w) = finish_by s w (seat_of s w)
outcome_of s (FlushBegin page) = flush_by s page s.flush
outcome_of s (FlushDone ok) = flushed_by s ok s.flush

abbrev pub reply_of : State → Move → Reply
reply_of s move = (outcome_of s move).reply

abbrev pub next_of : State → Move → State
next_of s move = (outcome_of s move).state

-- Whether the reply is a refusal.
abbrev pub is_refusal : Reply → Bool
is_refusal (NotNow delay) = true
is_refusal (OffPlan cause) = true
is_refusal _ = false

-- The move is possible: it isn't refused.
abbrev pub is_possible : State → Move → Bool
is_possible s move = not (is_refusal (reply_of s move))

abbrev pub IsPossible : State → Move → Type 0
IsPossible s move = IsTrue (is_possible s move)
