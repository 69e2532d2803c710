-- What a call of a vault comes to, and what it is answered, from a state.
use Rattle.std.specs.Prelude.{Option, None, Some, if◌then◌else◌}
use Rattle.pp_model.specs.declared.moves.Move.{Move}
use Rattle.pp_model.specs.declared.reply.Reply.{Reply}
use Rattle.pp_model.specs.declared.reply.Reply.TheVariants as reply
use Rattle.pp_model.specs.declared.refusals.Cause.TheVariants.{NotAsked}
use Rattle.pp_model.specs.Pool.{State}
use Rattle.pp_model.specs.Moves.{reply_of, next_of, is_possible}
use Rattle.pp_vault.specs.declared.refusal.Refusal.{Refusal}
use Rattle.pp_vault.specs.declared.refusal.Refusal.TheVariants.{NotNow, OffPlan, Stranger}

-- A token doesn't fit the state; they fit, but the call is refused before it is a move; or the call is this move.
pub data Call : Type 0 where
  stranger : Call
  refused : Refusal → Call
  asks : Move → Call

-- The worker's plan asks another slot or another mode.
abbrev pub unasked : Call
unasked = refused (OffPlan NotAsked)

-- The refusal that a reply is, if it is one.
abbrev pub refusal_in : Reply → Option Refusal
refusal_in (reply.NotNow delay) = Some (NotNow delay)
refusal_in (reply.OffPlan cause) = Some (OffPlan cause)
refusal_in _ = None

-- Why the call is refused, where it is.
abbrev pub refusal_of : State → Call → Option Refusal
refusal_of s stranger = Some Stranger
refusal_of s (refused why) = Some why
refusal_of s (asks m) = refusal_in (reply_of s m)

-- The state after the call: a refused one leaves it.
abbrev pub after_call : State → Call → State
after_call s stranger = s
after_call s (refused why) = s
after_call s (asks m) = next_of s m

-- The move that the call is, and the core's reply, where it is done.
abbrev pub told : State → Call → Option (Move × Reply)
told s stranger = None
told s (refused why) = None
told s (asks m) = if is_possible s m then Some (m, reply_of s m) else None
